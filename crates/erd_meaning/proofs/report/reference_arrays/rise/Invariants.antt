use Rattle.erd_meaning.proofs.Common.{drop, IsRisingFrom}
use Rattle.erd_meaning.proofs.report.reference_arrays.rise.Given as goal

abbrev pub invariant-loop-number : goal.invariant-loop-number
invariant-loop-number l = IsRisingFrom l.least (drop l.number-index l.numbers) → IsRisingFrom 0 l.numbers
