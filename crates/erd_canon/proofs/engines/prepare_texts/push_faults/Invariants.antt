use Rattle.erd_canon.proofs.Common.{◌≡◌, ◌++◌, map, string_bytes, iter_rest, fault_line, text_of_lines}
use Rattle.erd_canon.proofs.engines.prepare_texts.push_faults.Given as goal

-- with those that are left, all are appended
abbrev pub invariant-loop-fault : goal.invariant-loop-fault
invariant-loop-fault l = string_bytes l.text ++ text_of_lines (map fault_line (iter_rest l.fault-iterator)) ≡ string_bytes l.fn.text
    ++ text_of_lines (map fault_line l.faults)
