use Rattle.erd_shown.proofs.Common.{sym, ap, ◌∙◌, option_copied, option_map, IfOk-weaker, compact_text, view}
use Rattle.erd_shown.specs.SideValues.{told_in_class}
use Rattle.erd_shown.proofs.side_values.selections.text_in_class.Goals as goal

pub returns-in-Some : goal.returns-in-Some
returns-in-Some c =
    let told = told_in_class c.args.report.now.prefer (view c.args.report.now.tree) in
    IfOk-weaker c.member_text.result _ _
    (λ text is whole. is whole
    ∙ ap (λ m. option_map compact_text (told (option_copied m) (view c.args.selection.now) c.args.class)) (sym c.in-Some.is)) c.member_text.ensures
