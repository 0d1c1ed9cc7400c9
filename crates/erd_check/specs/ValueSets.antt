-- Sets of values in which an equal value is found quickly.
use Rattle.std.specs.Prelude.{◌≡◌, List, map}
use Rattle.std.specs.List.{list_any}
use Rattle.serde_json.specs.Data.{Data}
use Rattle.serde_json.specs.View.{view}
use Rattle.erd_check.specs.Trees.{is_same_json}
use Rattle.erd_check.specs.declared.value_set.ValueSet.{ValueSet}

-- The values that the set keeps.
abbrev pub values_in : ValueSet → List Data
values_in s = map (λ v. view v.value.now) s.ordered.keys

-- For every value: the set keeps one equal to it if and only if the list has one equal to it.
abbrev pub StandsFor : List Data → ValueSet → Type 0
StandsFor ds s = (d : Data) → list_any (is_same_json d) (values_in s) ≡ list_any (is_same_json d) ds
