use Rattle.erd_canon.proofs.Common.{◌≡◌, ◌++◌, map, iter_rest, items_of, view, ItemsHaveFittingNumbers, step_data}
use Rattle.erd_canon.proofs.data.fault_values.place_value.Given as goal

abbrev pub invariant-loop-step : goal.invariant-loop-step
invariant-loop-step l =
    (map view l.values.items ++ map step_data (iter_rest l.step-iterator) ≡ map step_data l.place)
    × (ItemsHaveFittingNumbers (items_of (map step_data (iter_rest l.step-iterator))) → ItemsHaveFittingNumbers (items_of (map step_data l.place)))
