use Rattle.erd_compare.proofs.Common.{◌≡◌, map, drop, list_all, view, json_set}
use Rattle.erd_check.specs.ValueSets.{values_in}
use Rattle.erd_compare.proofs.values.sets.are_in.Given as goal

abbrev pub invariant-loop-value : goal.invariant-loop-value
invariant-loop-value l = list_all (json_set (values_in l.set)) (map view l.values) ≡ list_all (json_set (values_in l.set))
    (map view (drop l.value-index l.values))
