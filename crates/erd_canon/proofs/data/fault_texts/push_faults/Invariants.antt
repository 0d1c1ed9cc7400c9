use Rattle.erd_canon.proofs.Common.{◌≡◌, ◌++◌, map, string_bytes, iter_rest, items_of, compact_text, items_text, ItemsHaveFittingNumbers, fault_data}
use Rattle.erd_canon.proofs.Common.{faults_data}
use Rattle.erd_canon.proofs.data.fault_texts.push_faults.Given as goal

abbrev pub invariant-loop-fault : goal.invariant-loop-fault
invariant-loop-fault l =
    (string_bytes l.text ++ items_text l.later (items_of (map fault_data (iter_rest l.fault-iterator))) ≡ string_bytes l.fn.text
    ++ compact_text (faults_data l.faults))
    × (ItemsHaveFittingNumbers (items_of (map fault_data (iter_rest l.fault-iterator))) → ItemsHaveFittingNumbers (items_of (map fault_data l.faults)))
