use Rattle.erd_compare.proofs.contest_selections.NumberedWays.{AreFound}
use Rattle.erd_compare.proofs.inside.selection_ways.Given as goal

abbrev pub invariant-loop-number : goal.invariant-loop-number
invariant-loop-number l = AreFound l.comparer.left l.comparer.right l.fn.contest l.fn.other_contest l.found.items l.number-iterator
