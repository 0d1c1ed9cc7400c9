use Rattle.erd_compare.proofs.Common.{◌≡◌, ◌++◌, drop, map, view}
use Rattle.erd_compare.specs.SelectionData.{selection_data}
use Rattle.erd_compare.proofs.selection_value.selections_value.Given as goal

-- with those of the differences that are left, the values are those of all
abbrev pub invariant-loop-selection : goal.invariant-loop-selection
invariant-loop-selection l = map view l.values.items ++ map selection_data (drop l.selection-index l.selections) ≡ map selection_data l.selections
