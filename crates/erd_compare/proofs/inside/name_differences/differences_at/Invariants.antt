use Rattle.erd_compare.proofs.Common.{◌≡◌, ◌++◌}
use Rattle.erd_compare.specs.code.ContestSelections.{differences_at}
use Rattle.erd_compare.proofs.contest_selections.SelectionLists.{differences_from}
use Rattle.erd_compare.proofs.inside.name_differences.differences_at.Given as goal

-- with those at the names that are left, all are listed
abbrev pub invariant-loop-named : goal.invariant-loop-named
invariant-loop-named l = l.found.items ++ differences_from l.named-index l.ways ≡ differences_at l.ways
