use Rattle.erd_text.proofs.Common.{ℕ, List, Option}
use Rattle.erd_shown.specs.code.RowsSoFar.{AreUpTo}
use Rattle.erd_shown.proofs.rows.push_rights.Given as goal

abbrev pub invariant-loop-other : goal.invariant-loop-other
invariant-loop-other l =
    (left : List (Option ℕ)) (i : ℕ) → AreUpTo left l.right l.initial.rows.items i l.from → AreUpTo left l.right l.rows.items i l.other
