use Rattle.erd_compare.specs.code.DifferingKeys.{ranks_left}
use Rattle.erd_compare.proofs.differing.PartLists.{AreAppended}
use Rattle.erd_compare.proofs.first.key_steps.push_differences.Given as goal

abbrev pub invariant-loop-next : goal.invariant-loop-next
invariant-loop-next l = AreAppended l.part l.comparer.left l.comparer.right l.initial.found.items l.found.items l.at

abbrev pub decreases-loop-next : goal.decreases-loop-next
decreases-loop-next l = ranks_left l.rising l.at
