use Rattle.erd_canon.proofs.Common.{◌≡◌, ◌++◌, [], string_bytes, iter_rest, text_of_lines}
use Rattle.erd_canon.specs.Remedies.{remedies_beyond}
use Rattle.erd_canon.proofs.engines.remedies.push_remedies.Given as goal

-- with those that are left, all are appended
abbrev pub invariant-loop-fault : goal.invariant-loop-fault
invariant-loop-fault l =
    string_bytes l.text ++ text_of_lines (remedies_beyond l.told.items (iter_rest l.fault-iterator))
    ≡ string_bytes l.fn.text ++ text_of_lines (remedies_beyond [] l.faults)
