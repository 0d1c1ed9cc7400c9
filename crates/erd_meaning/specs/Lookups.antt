-- What can be looked up among the objects and the elections of a report, by family and position.
use Rattle.std.specs.Prelude.{◌≡◌, ◌↔◌, ℕ, List, Option, Some, None, filter, length, map, option_and_then, option_map, take}
use Rattle.std.specs.List.{enumerate_from, flat_map, slice_get}
use Rattle.std.specs.Option.{option_cmp}
use Rattle.std.specs.Ordering.{is_lt}
use Rattle.serde_json.specs.Data.{Data}
use Rattle.erd_tables.specs.declared.class.Family.{Family}
use Rattle.erd_tables.specs.declared.class.Family.TheVariants as family
use Rattle.erd_meaning.specs.NameParts.{NameParts}
use Rattle.erd_meaning.specs.Objects.{Placed, contests, election_of_place, elections, id_of, numbered_selections, objects, selections_of_contest}
use Rattle.erd_meaning.specs.Keys.{Preference, key_cmp, key_of, key_of_family_object}
use Rattle.erd_meaning.specs.SelectionNames.{name_of}
use Rattle.erd_text.specs.RisingLists.{rising_list}
use Rattle.erd_meaning.specs.declared.keys.key.Key.{Key}

-- The key of the object at this position of its family, or none if there is no such object or it has no key.
abbrev pub key_in : Preference → Family → Data → ℕ → Option Key
key_in π f t i = option_and_then (λ o. key_of_family_object π f o.value) (slice_get (objects f t) i)

-- The number of objects of the family in the report whose keys are less than this one.
abbrev pub rank_of : Preference → Data → Family → Option Key → ℕ
rank_of π t f k = length (filter (λ o. is_lt (option_cmp key_cmp (key_of π o.value) k)) (objects f t))

-- The keys of the objects of the family in rising order, each with the position of its object. Equal keys stand in the order of
-- the report.
abbrev pub rising_keys : Preference → Data → Family → List (Option Key × ℕ)
rising_keys π t f =
    rising_list (λ a b. option_cmp key_cmp a.0 b.0)
    (map (λ p. (key_of_family_object π f p.1.value, p.0)) (enumerate_from 0 (objects f t)))

-- The number of elections of the report whose keys are less than this one.
abbrev pub election_rank_of : Preference → Data → Option Key → ℕ
election_rank_of π t k = length (filter (λ e. is_lt (option_cmp key_cmp (key_of π e.value) k)) (elections t))

-- The keys of the elections in rising order, each with the position of its election.
abbrev pub rising_election_keys : Preference → Data → List (Option Key × ℕ)
rising_election_keys π t =
    rising_list (λ a b. option_cmp key_cmp a.0 b.0) (map (λ p. (key_of π p.1.value, p.0)) (enumerate_from 0 (elections t)))

-- The `@id` of the object at this position of its family, or none if there is no such object or it has no `@id`.
abbrev pub id_in : Family → Data → ℕ → Option (List ℕ)
id_in f t i = option_and_then (λ o. id_of o.value) (slice_get (objects f t) i)

-- The key of the election at this position, or none if there is no such election or it has no identifier.
abbrev pub election_key_in : Preference → Data → ℕ → Option Key
election_key_in π t i = option_and_then (λ e. key_of π e.value) (slice_get (elections t) i)

-- The key of the election that holds the object, or none if no election holds it or that election has no identifier.
abbrev pub election_key_of : Preference → Data → Placed → Option Key
election_key_of π t o = option_and_then (election_key_in π t) (election_of_place o.place)

-- The position of the election that holds the object at this position of its family, or none. A selection is held by its
-- contest instead.
abbrev pub election_in : Family → Data → ℕ → Option ℕ
election_in family.Selection t i = None
election_in f t i = option_and_then (λ o. election_of_place o.place) (slice_get (objects f t) i)

-- The position of the contest of the selection at this position, and the name of the selection, or none.
abbrev pub selection_in : Preference → Data → ℕ → Option (ℕ × NameParts)
selection_in π t i = option_and_then (λ s. option_map (λ n. (s.0, n)) (name_of π t s.1.value)) (slice_get (numbered_selections t) i)

-- The number of selections in the contests before this position.
abbrev pub selections_before : Data → ℕ → ℕ
selections_before t c = length (flat_map selections_of_contest (take c (contests t)))

-- The answer is a position if and only if the object of the family at that position has the key. So at most one has it.
abbrev pub FindsKey : Preference → Data → Family → Key → Option ℕ → Type 0
FindsKey π t f key found = (i : ℕ) → (found ≡ Some i) ↔ (key_in π f t i ≡ Some key)

-- The answer is a family and a position if and only if the object there has the `@id`. So at most one object has it.
abbrev pub FindsId : Data → List ℕ → Option (Family × ℕ) → Type 0
FindsId t id found = (f : Family) (i : ℕ) → (found ≡ Some (f, i)) ↔ (id_in f t i ≡ Some id)

-- The answer is a position if and only if the selection there is of the contest and has the name. So there is at most one
-- such selection.
abbrev pub FindsSelection : Preference → Data → ℕ → NameParts → Option ℕ → Type 0
FindsSelection π t c n found = (i : ℕ) → (found ≡ Some i) ↔ (selection_in π t i ≡ Some (c, n))
