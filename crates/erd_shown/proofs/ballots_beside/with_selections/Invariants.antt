use Rattle.erd_text.proofs.Common.{◌≡◌, ◌++◌, drop, map, view, AllByRecursion}
use Rattle.erd_shown.specs.SelectionRows.{AreSelectionsAt, IsInside}
use Rattle.erd_shown.specs.code.LineLists.{of_line}
use Rattle.erd_shown.specs.code.SelectionsFound.{of_row}
use Rattle.erd_shown.proofs.ballots_beside.with_selections.Given as goal

abbrev pub invariant-loop-row : goal.invariant-loop-row
invariant-loop-row l =
    (map (λ r. r.0) l.found.items ++ drop l.row-index l.rows ≡ l.rows)
    × AllByRecursion
    (IsInside (AreSelectionsAt l.left.prefer (view l.left.tree) (map of_line l.ones) l.right.prefer (view l.right.tree) (map of_line l.others)))
    (map of_row l.found.items)
