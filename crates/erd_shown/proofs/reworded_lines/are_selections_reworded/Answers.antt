use Rattle.erd_shown.proofs.Common.{sym, list_any, ap, ◌∙◌, family, view}
use Rattle.erd_shown.specs.ListedNames.{selections_named}
use Rattle.erd_shown.specs.Reworded.{is_selection_reworded, true_of_any_named}
use Rattle.erd_shown.proofs.MarkLists.{else_so, then_so}
use Rattle.erd_shown.proofs.reworded_lines.are_selections_reworded.Goals as goal

pub returns-then-lists_selections : goal.returns-then-lists_selections
returns-then-lists_selections c =
    let π = c.args.left.now.prefer in
    let t = view c.args.left.now.tree in
    let ρ = c.args.right.now.prefer in
    let u = view c.args.right.now.tree in
    then_so _ _ _ _ (sym c.lists_selections.ensures ∙ c.if-lists_selections.true)
    (c.any_listed_reworded.ensures ∙ ap (true_of_any_named (is_selection_reworded π t ρ u) t family.Selection) c.entries_at-references.ensures)

pub returns-else-lists_selections : goal.returns-else-lists_selections
returns-else-lists_selections c =
    let π = c.args.left.now.prefer in
    let t = view c.args.left.now.tree in
    let ρ = c.args.right.now.prefer in
    let u = view c.args.right.now.tree in
    else_so _ _ _ _ (sym c.lists_selections.ensures ∙ c.if-lists_selections.false)
    (c.any_of_named_reworded.ensures ∙ ap (λ id. list_any (is_selection_reworded π t ρ u) (selections_named t id)) c.text_at.ensures)
