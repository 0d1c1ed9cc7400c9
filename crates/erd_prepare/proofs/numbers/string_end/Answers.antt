use Rattle.std.proofs.Common.{arith, eqb}
use Rattle.erd_prepare.proofs.Scanned.{strings}
use Rattle.erd_prepare.proofs.numbers.string_end.Goals.{then-is_escaped, else-is_escaped+else-file-at-eq34}
use Rattle.erd_prepare.proofs.numbers.string_end.Goals as goal

pub returns-then-file-at-eq34-clause-end : goal.returns-then-file-at-eq34-clause-end
returns-then-file-at-eq34-clause-end c = grind (arith, strings)

pub loop-at-preserved : goal.loop-at-preserved
loop-at-preserved c = elim c.if-is_escaped.branch [
  | then-is_escaped w ↦ grind (arith, strings)
  | else-is_escaped+else-file-at-eq34 w ↦ grind (arith, strings)
]

pub returns-clause-end : goal.returns-clause-end
returns-clause-end c = grind (arith, strings)
