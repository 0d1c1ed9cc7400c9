use Rattle.std.proofs.Common.{◌≡◌, ◌+◌, drop, false}
use Rattle.erd_prepare.specs.Numbers.{string_length}
use Rattle.erd_prepare.proofs.numbers.string_end.Given as goal

abbrev pub invariant-loop-at : goal.invariant-loop-at
invariant-loop-at l = l.at + string_length l.is_escaped (drop l.at l.file) ≡ l.from + string_length false (drop l.from l.file)
