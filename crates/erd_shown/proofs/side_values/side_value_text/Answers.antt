use Rattle.erd_shown.proofs.Common.{ap, ◌∙◌, option_and_then, option_copied, option_map, IfOk-weaker, compact_text, view}
use Rattle.erd_shown.specs.SideValues.{told_of_placed}
use Rattle.erd_shown.proofs.side_values.side_value_text.Goals as goal

pub returns-in-Some : goal.returns-in-Some
returns-in-Some c =
    let told = told_of_placed c.args.report.now.prefer (view c.args.report.now.tree) c.args.role (option_copied c.args.member) in
    IfOk-weaker c.text_at.result _ _ (λ text is. is ∙ ap (λ o. option_map compact_text (option_and_then told o)) c.in-Some.ensures) c.text_at.ensures

pub returns-in-None : goal.returns-in-None
returns-in-None c =
    let told = told_of_placed c.args.report.now.prefer (view c.args.report.now.tree) c.args.role (option_copied c.args.member) in
    ap (λ o. option_map compact_text (option_and_then told o)) c.in-None.ensures
