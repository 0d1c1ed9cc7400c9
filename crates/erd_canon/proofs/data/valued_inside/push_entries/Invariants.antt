use Rattle.erd_canon.proofs.Common.{◌≡◌, ◌++◌, false, Some, drop}
use Rattle.erd_canon.proofs.data_values.ValuedInside.{rest_text}
use Rattle.erd_canon.proofs.data.valued_inside.push_entries.Given as goal

abbrev pub invariant-loop-selection : goal.invariant-loop-selection
invariant-loop-selection l =
    l.text.items ++ rest_text l.contests l.later l.room (drop l.selection-index l.selections)
    ≡ l.fn.text.items ++ rest_text l.contests false (Some l.most_bytes) l.selections
