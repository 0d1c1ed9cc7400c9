use Rattle.erd_prepare.specs.code.Scanning.{IsLineAt}
use Rattle.erd_prepare.proofs.numbers.line_after.Given as goal

abbrev pub invariant-loop-at : goal.invariant-loop-at
invariant-loop-at l = IsLineAt l.file l.at l.line
