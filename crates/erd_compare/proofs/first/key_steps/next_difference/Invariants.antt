use Rattle.erd_compare.proofs.Common.{◌-◌, ◌≤◌, List, Option, length, Key}
use Rattle.erd_compare.specs.code.DifferingKeys.{AreKeysFound, ranks_left}
use Rattle.erd_compare.proofs.first.key_steps.next_difference.Given as goal

abbrev pub invariant-loop-position : goal.invariant-loop-position
invariant-loop-position l = record {
  count : ranks_left l.rising l.at ≤ ranks_left l.rising l.initial.at;
  left : (found : List (Option Key)) → AreKeysFound l.comparer.left l.comparer.right l.part found l.initial.at
      → AreKeysFound l.comparer.left l.comparer.right l.part found l.at;
}

abbrev pub decreases-loop-position : goal.decreases-loop-position
decreases-loop-position l = length l.rising.ones.now - l.at.one
