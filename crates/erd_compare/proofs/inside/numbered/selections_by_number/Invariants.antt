use Rattle.erd_compare.proofs.contest_selections.SelectionsByNumber.{AreNumberedUpTo}
use Rattle.erd_compare.proofs.inside.numbered.selections_by_number.Given as goal

abbrev pub invariant-loop-index : goal.invariant-loop-index
invariant-loop-index l = AreNumberedUpTo l.comparer.left l.comparer.right l.side l.position l.index l.numbered.entries
