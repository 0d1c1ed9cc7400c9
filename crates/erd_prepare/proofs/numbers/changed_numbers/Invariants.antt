use Rattle.std.proofs.Common.{◌≤◌, ◌-◌, length}
use Rattle.erd_prepare.specs.code.Scanning.{IsLineAt, IsToldUpTo}
use Rattle.erd_prepare.proofs.numbers.changed_numbers.Given as goal

abbrev pub invariant-loop-at : goal.invariant-loop-at
invariant-loop-at l = (l.at ≤ length l.file) × IsLineAt l.file l.at l.line × IsToldUpTo l.file l.at l.told.items

abbrev pub decreases-loop-at : goal.decreases-loop-at
decreases-loop-at l = length l.file - l.at
