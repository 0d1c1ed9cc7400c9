use Rattle.erd_text.proofs.Common.{◌≡◌, ◌++◌, drop, map, items_of, items_tokens}
use Rattle.erd_shown.specs.SelectionRows.{selection_row}
use Rattle.erd_shown.specs.code.LentNames.{lent}
use Rattle.erd_shown.proofs.selection_rows.write_rows.Given as goal

abbrev pub invariant-loop-row : goal.invariant-loop-row
invariant-loop-row l =
    l.out ++ items_tokens (items_of (map (selection_row (map lent l.lefts) (map lent l.rights)) (drop l.row-index l.rows)))
    ≡ l.initial.out ++ items_tokens (items_of (map (selection_row (map lent l.lefts) (map lent l.rights)) l.rows))
