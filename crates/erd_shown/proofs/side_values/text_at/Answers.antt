use Rattle.erd_shown.proofs.Common.{sym, refl, ap, ◌∙◌, option_copied, option_map, IfOk-weaker, compact_text}
use Rattle.erd_shown.proofs.side_values.text_at.Goals as goal

pub returns-in-Some : goal.returns-in-Some
returns-in-Some c =
    IfOk-weaker c.object_text.result _ _ (λ text is. is c.in-Some.ensures.whole
    ∙ ap (option_map compact_text) (sym (c.in-Some.ensures.told (option_copied c.args.member)))) c.object_text.ensures

pub returns-in-None : goal.returns-in-None
returns-in-None c = ap (option_map compact_text) (sym (c.in-None.ensures.untold refl (option_copied c.args.member)))
