-- Names of selections with the ranks of their keys among the objects that the program keeps. They do not define the profile:
-- `RankedKeys` proves that equal ranks mean equal keys, and `RankedReports` that the names are those of `RankedNames`.
use Rattle.std.specs.Prelude.{◌≡◌, ℕ, List, [], ◌∷◌, Bool, true, false, ◌&&◌, ◌==◌, Option, Some, is_some, filter, length, map, option_and_then, option_map}
use Rattle.std.specs.Prelude.{if◌then◌else◌}
use Rattle.std.specs.List.{AllByRecursion, list_all, slice_get}
use Rattle.std.specs.Option.{option_cmp}
use Rattle.std.specs.Ordering.{eq_by_cmp, is_lt}
use Rattle.serde_json.specs.Data.{Data}
use Rattle.erd_tables.specs.declared.class.Family.{Family}
use Rattle.erd_meaning.specs.Keys.{Preference, key_cmp, key_of}
use Rattle.erd_meaning.specs.NameParts.{NameParts}
use Rattle.erd_meaning.specs.Objects.{IsObject, Placed}
use Rattle.erd_meaning.specs.SelectionNames.{name_by}
use Rattle.erd_text.specs.RisingLists.{rising_list}
use Rattle.erd_meaning.specs.code.KeyOrders.{family_keys, positioned}
use Rattle.erd_meaning.specs.NumberedNames.{RankedParts}
use Rattle.erd_meaning.specs.RankedNames.{PlacedName, family_chosen, ranked_name_cmp}
use Rattle.erd_meaning.specs.code.ObjectIndexes.{number_of_key}
use Rattle.erd_meaning.specs.code.ObjectLookups.{key_among, those_of}
use Rattle.erd_meaning.specs.code.ObjectWalk.{Kept}
use Rattle.erd_meaning.specs.code.SelectionWalk.{NumberedName}
use Rattle.erd_meaning.specs.declared.keys.key.Key.{Key}

-- ---- ranks

-- The number of objects of the family whose keys are less than this one.
abbrev pub rank_among : List Kept → Family → Option Key → ℕ
rank_among ks f key = length (filter (λ k. is_lt (option_cmp key_cmp k.key key)) (those_of f ks))

-- These are the ranks of the objects of the family, in the order of the report.
abbrev pub AreRanks : List Kept → Family → List ℕ → Type 0
AreRanks ks f ranks = ranks ≡ map (λ k. rank_among ks f k.key) (those_of f ks)

-- The key of the object at this position of its family, or none if there is no such object or it has no key.
abbrev pub key_at_among : List Kept → Family → ℕ → Option Key
key_at_among ks f i = option_and_then (λ k. k.key) (slice_get (those_of f ks) i)

-- The keys of the objects of the family in rising order, each with the position of its object.
abbrev pub rising_keys_among : List Kept → Family → List (Option Key × ℕ)
rising_keys_among ks f = rising_list (λ a b. option_cmp key_cmp a.0 b.0) (positioned 0 (family_keys ks f))

-- A key with its rank.
abbrev pub ranked_key : List Kept → Family → Key → ℕ × Key
ranked_key ks f key = (rank_among ks f (Some key), key)

-- True if an object of the family has the key.
abbrev pub is_key_among : List Kept → Family → Key → Bool
is_key_among ks f key = is_some (number_of_key ks f key)

-- The rank of the key, or 0 if no object of the family has it.
abbrev pub fed_rank : List Kept → Family → Key → ℕ
fed_rank ks f key = if is_key_among ks f key then rank_among ks f (Some key) else 0

-- ---- names

-- The name of a selection, with the keys that are found among the objects, or none if its `@type` is not that of a selection
-- class.
abbrev pub name_among : Preference → List Kept → Data → Option NameParts
name_among π ks d = name_by π (key_among ks) d

-- The name with the ranks of its keys.
abbrev pub ranked_parts : List Kept → NameParts → RankedParts
ranked_parts ks n = record { name = n; ranks = map (λ key. rank_among ks (family_chosen n.class) (Some key)) n.keys }

-- The name of a selection with the ranks of its keys, or none if its `@type` is not that of a selection class.
abbrev pub ranked_name_among : Preference → List Kept → Data → Option RankedParts
ranked_name_among π ks d = option_map (ranked_parts ks) (name_among π ks d)

-- An object of the family in the report has the key.
pub record IsKeyIn (π : Preference) (t : Data) (f : Family) (key : Key) : Type 0 where
  pub owner : Placed
  pub stands : IsObject t f owner
  pub keyed : key_of π owner.value ≡ Some key

-- Each key in the name is that of an object of the report.
abbrev pub HasKeysIn : Preference → Data → NameParts → Type 0
HasKeysIn π t n = AllByRecursion (IsKeyIn π t (family_chosen n.class)) n.keys

-- True if each key in the name is that of an object.
abbrev pub has_keys_among : List Kept → NameParts → Bool
has_keys_among ks n = list_all (is_key_among ks (family_chosen n.class)) n.keys

-- The ranks are those of the keys in the name, and each of these is the key of an object.
pub record IsRanked (ks : List Kept) (r : RankedParts) : Type 0 where
  pub ranks : r ≡ ranked_parts ks r.name
  pub known : has_keys_among ks r.name ≡ true

-- ---- the names in an index

-- The names without their ranks.
abbrev pub names_of : List PlacedName → List NumberedName
names_of names = map (λ s. (s.0, s.1.name)) names

-- True if each of the keys is that of an object of the family, and these are their ranks.
abbrev pub are_ranks_of : List Kept → Family → List Key → List ℕ → Bool
are_ranks_of ks f [] [] = true
are_ranks_of ks f (key ∷ keys) (rank ∷ ranks) = (is_key_among ks f key && (rank_among ks f (Some key) == rank)) && are_ranks_of ks f keys ranks
are_ranks_of ks f keys ranks = false

-- True if this is the selection of contest c with name n, in an index of names whose ranks are those among the objects.
abbrev pub is_sought : List Kept → ℕ → NameParts → PlacedName → Bool
is_sought ks c n s = has_keys_among ks n && ((c == s.0) && eq_by_cmp ranked_name_cmp (ranked_parts ks n) s.1)

-- Each name has the ranks of its keys.
abbrev pub AllAreRanked : List Kept → List PlacedName → Type 0
AllAreRanked ks names = AllByRecursion (λ s. IsRanked ks s.1) names
