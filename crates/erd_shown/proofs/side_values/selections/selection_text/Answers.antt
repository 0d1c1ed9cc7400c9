use Rattle.erd_shown.proofs.Common.{ap, ◌∙◌, option_and_then, option_copied, option_map, IfOk-weaker, compact_text, view}
use Rattle.erd_shown.specs.SideValues.{told_in_class}
use Rattle.erd_shown.proofs.side_values.selections.selection_text.Goals as goal

pub returns-in-Some : goal.returns-in-Some
returns-in-Some c =
    let told = told_in_class c.args.report.now.prefer (view c.args.report.now.tree) (option_copied c.args.member) (view c.args.selection.now) in
    IfOk-weaker c.text_in_class.result _ _ (λ text is whole. is whole ∙ ap (λ o. option_map compact_text (option_and_then told o)) c.in-Some.ensures)
    c.text_in_class.ensures

pub returns-in-None : goal.returns-in-None
returns-in-None c whole =
    let told = told_in_class c.args.report.now.prefer (view c.args.report.now.tree) (option_copied c.args.member) (view c.args.selection.now) in
    ap (λ o. option_map compact_text (option_and_then told o)) c.in-None.ensures
