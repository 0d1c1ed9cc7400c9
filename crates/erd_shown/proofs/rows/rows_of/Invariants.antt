use Rattle.erd_text.proofs.Common.{◌≤◌, length}
use Rattle.erd_shown.specs.code.RowsSoFar.{AreUpTo}
use Rattle.erd_shown.proofs.rows.rows_of.Given as goal

abbrev pub invariant-loop-one : goal.invariant-loop-one
invariant-loop-one l = AreUpTo l.left l.right l.rows.items l.one l.other × (l.other ≤ length l.right)
