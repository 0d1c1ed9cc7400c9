use Rattle.erd_shown.proofs.Common.{◌≡◌, ◌++◌, drop, map, filter_map, view}
use Rattle.erd_shown.specs.BallotDifferences.{is_same_ballot, of_style, told_of_row}
use Rattle.erd_shown.specs.code.LineLists.{of_place}
use Rattle.erd_shown.proofs.ballot_differences.told_of_rows.Given as goal

abbrev pub invariant-loop-row : goal.invariant-loop-row
invariant-loop-row l =
    map of_style l.found.items
    ++ filter_map (told_of_row (is_same_ballot l.pair.left.now.prefer (view l.pair.left.now.tree) l.pair.right.now.prefer (view l.pair.right.now.tree))
    (map of_place l.ones) (map of_place l.others)) (drop l.row-index l.rows)
    ≡ filter_map (told_of_row (is_same_ballot l.pair.left.now.prefer (view l.pair.left.now.tree) l.pair.right.now.prefer (view l.pair.right.now.tree))
    (map of_place l.ones) (map of_place l.others)) l.rows
