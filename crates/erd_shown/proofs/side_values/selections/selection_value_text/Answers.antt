use Rattle.erd_shown.proofs.Common.{sym, ap, ◌∙◌, option_and_then, option_copied, option_map, slice_get, IfOk-weaker, compact_text, contests, view}
use Rattle.erd_shown.specs.SideValues.{told_at_name}
use Rattle.erd_shown.proofs.side_values.selections.selection_value_text.Goals as goal

pub returns-in-Some : goal.returns-in-Some
returns-in-Some c =
    let t = view c.args.report.now.tree in
    let told = told_at_name c.args.report.now.prefer t c.args.name.now (option_copied c.args.member) in
    IfOk-weaker c.text_in_contest.result _ _
    (λ text is. is ∙ ap (λ o. option_map compact_text (option_and_then told (option_and_then (slice_get (contests t)) o))) (sym c.in-Some.is))
    c.text_in_contest.ensures
