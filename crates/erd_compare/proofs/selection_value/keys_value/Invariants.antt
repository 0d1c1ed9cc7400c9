use Rattle.erd_compare.proofs.Common.{◌≡◌, ◌++◌, drop, map, view}
use Rattle.erd_compare.specs.DifferenceLine.{key_as_json}
use Rattle.erd_compare.proofs.selection_value.keys_value.Given as goal

-- with those of the keys that are left, the values are those of all
abbrev pub invariant-loop-index : goal.invariant-loop-index
invariant-loop-index l = map view l.keys.items ++ map key_as_json (drop l.index l.name.keys) ≡ map key_as_json l.name.keys
