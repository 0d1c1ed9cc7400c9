use Rattle.std.proofs.Common.{◌≡◌, ◌+◌, drop}
use Rattle.std.specs.List.{prefix_len}
use Rattle.erd_prepare.specs.Numbers.{is_in_number}
use Rattle.erd_prepare.proofs.numbers.number_end.Given as goal

abbrev pub invariant-loop-at : goal.invariant-loop-at
invariant-loop-at l = l.at + prefix_len is_in_number (drop l.at l.file) ≡ l.from + prefix_len is_in_number (drop l.from l.file)
