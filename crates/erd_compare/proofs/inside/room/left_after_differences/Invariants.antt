use Rattle.erd_compare.proofs.Common.{◌≡◌, ◌+◌, drop}
use Rattle.std.specs.Prelude.{sum_by}
use Rattle.erd_compare.proofs.contest_selections.SelectionTexts.{size_at}
use Rattle.erd_compare.proofs.inside.room.left_after_differences.Given as goal

-- with the differences at the names that are left, all are taken from the room
abbrev pub invariant-loop-named : goal.invariant-loop-named
invariant-loop-named l = l.left + sum_by size_at l.ways ≡ l.fn.room + sum_by size_at (drop l.named-index l.ways)
