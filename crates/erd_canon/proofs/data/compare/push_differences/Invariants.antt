use Rattle.erd_canon.proofs.Common.{◌≡◌, ◌++◌, map, string_bytes, items_of, compact_text, items_text}
use Rattle.std.proofs.Common.{drop}
use Rattle.erd_compare.specs.SelectionData.{detailed_data}
use Rattle.erd_canon.specs.DataValues.{differences_data}
use Rattle.erd_canon.proofs.data.compare.push_differences.Given as goal

-- with those that are left, all are appended
abbrev pub invariant-loop-difference : goal.invariant-loop-difference
invariant-loop-difference l =
    string_bytes l.text ++ items_text l.later (items_of (map detailed_data (drop l.difference-index l.found))) ≡ string_bytes l.fn.text
    ++ compact_text (differences_data l.found)
