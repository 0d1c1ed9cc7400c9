-- The objects of a family in the order of their keys, with their positions, election by election.
use Rattle.std.specs.Prelude.{ℕ, List, [], Vec, ◌==◌, filter, if◌then◌else◌, map, unwrap_or}
use Rattle.std.specs.List.{enumerate_from, slice_get}
use Rattle.std.specs.Option.{option_map_or}
use Rattle.std.specs.declared.alloc.Global.{Global}
use Rattle.serde_json.specs.Data.{Data}
use Rattle.erd_tables.specs.declared.class.Family.{Family}
use Rattle.erd_meaning.specs.Keys.{Preference, has_keys}
use Rattle.erd_meaning.specs.Lookups.{election_in}
use Rattle.erd_meaning.specs.Objects.{Placed, elections, objects}
use Rattle.erd_text.specs.RisingLists.{rising_list}
use Rattle.erd_normal.specs.code.NormalTree.{by_key}

-- The values in the order of their keys, each with its position.
abbrev pub in_order_of_keys : Preference → List Placed → List (ℕ × Placed)
in_order_of_keys π os = rising_list (λ a b. by_key π a.1.value b.1.value) (enumerate_from 0 os)

-- The objects of a family in the order of their keys, each with its position. Of selections, which have no keys, there are none.
abbrev pub rising_objects : Preference → Data → Family → List (ℕ × Placed)
rising_objects π t f = if has_keys f then in_order_of_keys π (objects f t) else []

-- The elections in the order of their keys, each with its position.
abbrev pub rising_elections : Preference → Data → List (ℕ × Placed)
rising_elections π t = in_order_of_keys π (elections t)

-- The position of the election that holds the object at this position of its family, or 0 if none holds it.
abbrev pub holding_election : Data → Family → ℕ → ℕ
holding_election t f i = unwrap_or (election_in f t i) 0

-- Those objects of a family that the election at this position holds. In a family that no election holds, all of them are at
-- position 0.
abbrev pub objects_in_election : Preference → Data → Family → ℕ → List (ℕ × Placed)
objects_in_election π t f election = filter (λ o. holding_election t f o.0 == election) (rising_objects π t f)

-- The positions of these objects.
abbrev pub positions_in_election : Preference → Data → Family → ℕ → List ℕ
positions_in_election π t f election = map (λ o. o.0) (objects_in_election π t f election)

-- The positions of one list. A list that is not there has none.
abbrev pub list_seen : List (Vec ℕ Global) → ℕ → List ℕ
list_seen lists i = option_map_or (λ list. list.items) (slice_get lists i) []
