use Rattle.erd_compare.proofs.Common.{◌≡◌, ◌+◌, drop}
use Rattle.std.specs.Prelude.{sum_by}
use Rattle.erd_compare.proofs.contest_selections.SelectionTexts.{size_in_member}
use Rattle.erd_compare.proofs.inside.room.left_after_ways.Given as goal

-- with the members that are left, all are taken from the room
abbrev pub invariant-loop-member : goal.invariant-loop-member
invariant-loop-member l = l.left + sum_by (size_in_member l.named.name.now) l.member-items ≡ l.fn.room + sum_by (size_in_member l.named.name.now)
    (drop l.member-index l.member-items)
