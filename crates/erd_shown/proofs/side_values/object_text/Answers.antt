use Rattle.erd_shown.proofs.Common.{sym, ap, ◌∙◌, option_copied, option_map, IfOk-weaker, compact_text, view}
use Rattle.erd_shown.specs.SideValues.{told_of_object}
use Rattle.erd_shown.proofs.side_values.object_text.Goals as goal

pub returns-in-Some : goal.returns-in-Some
returns-in-Some c =
    let π = c.args.report.now.prefer in
    let t = view c.args.report.now.tree in
    let o = c.args.object.now in
    IfOk-weaker c.member_text.result _ _
    (λ text is whole. is whole ∙ ap (λ m. option_map compact_text (told_of_object π t (option_copied m) (option_copied o.holder) (view o.value.now) o.class))
    (sym c.in-Some.is)) c.member_text.ensures
