-- The names of the selections of a report in the order of their places, as the program walks them, with the faults of
-- selections that it reports on the way. They do not define the profile: `SelectionsMet` proves that the names are those of
-- `selection_in`, and `SelectionFaults` that the faults are those of `SelectionFault`.
use Rattle.std.specs.Prelude.{◌≡◌, ◌+◌, ℕ, List, [], ◌∷◌, ◌++◌, Bool, ◌&&◌, ◌==◌, if◌then◌else◌, Option, Some, None, option_and_then}
use Rattle.std.specs.List.{enumerate_from, flat_map, list_any, slice_get}
use Rattle.std.specs.Option.{option_map_or}
use Rattle.std.specs.Ordering.{is_eq}
use Rattle.serde_json.specs.Data.{Data}
use Rattle.erd_tables.specs.declared.fault.Fault.{Fault}
use Rattle.erd_tables.specs.declared.fault.Reason.TheVariants.{TwinSelection}
use Rattle.erd_tables.specs.declared.place.Step.{Step}
use Rattle.erd_check.specs.Paths.{fault_at}
use Rattle.erd_meaning.specs.NameParts.{NameParts}
use Rattle.erd_meaning.specs.Objects.{Placed, contests, numbered_selections, numbered_selections_of, selections_of_contest}
use Rattle.erd_meaning.specs.code.ObjectWalk.{fault_if}
use Rattle.erd_meaning.specs.SelectionNames.{name_cmp}

-- ---- names

-- The position of a contest, and the name of one of its selections.
abbrev pub NumberedName : Type 0
NumberedName = ℕ × NameParts

-- True if this is the name of a selection of contest c.
abbrev pub is_selection_named : ℕ → NameParts → NumberedName → Bool
is_selection_named c n s = (s.0 == c) && is_eq (name_cmp s.1 n)

-- True if a selection of the contest already has the name.
abbrev pub is_taken : List NumberedName → ℕ → NameParts → Bool
is_taken names c n = list_any (is_selection_named c n) names

-- The selections of the contests, each with the number of its contest. The first contest has number n.
abbrev pub numbered_from : ℕ → List Placed → List (ℕ × Placed)
numbered_from n cs = flat_map numbered_selections_of (enumerate_from n cs)

-- ---- the walk

-- How far the walk has come: the names met so far, and the faults.
pub record NamesMet : Type 0 where
  pub names : List NumberedName
  pub faults : List Fault

-- The names with one more, unless it is there already.
abbrev pub added_name : List NumberedName → ℕ → NameParts → List NumberedName
added_name names c n = if is_taken names c n then names else names ++ (c, n) ∷ []

-- The state of the walk after one more name, that of a selection at this place.
abbrev pub with_name : NamesMet → List Step → ℕ → NameParts → NamesMet
with_name m p c n = record { names = added_name m.names c n; faults = m.faults ++ fault_if (is_taken m.names c n) (fault_at p TwinSelection) }

-- The state of the walk after one more selection. A selection without a name is passed over.
abbrev pub named_one : (Data → Option NameParts) → NamesMet → ℕ × Placed → NamesMet
named_one name m s = option_map_or (with_name m s.1.place s.0) (name s.1.value) m

-- The state of the walk after these selections, one after another.
abbrev pub named_all : (Data → Option NameParts) → NamesMet → List (ℕ × Placed) → NamesMet
named_all name m [] = m
named_all name m (s ∷ ss) = named_all name (named_one name m s) ss

-- ---- the selections of a contest among all

-- The selection at position i of the contest at position c, or none.
abbrev pub selection_of : Data → ℕ → ℕ → Option Placed
selection_of t c i = option_and_then (λ o. slice_get (selections_of_contest o) i) (slice_get (contests t) c)

-- The selection, if it is of the contest at position c.
abbrev pub if_of_contest : ℕ → ℕ × Placed → Option Placed
if_of_contest c s = if s.0 == c then Some s.1 else None

-- The selections of the contest at position c stand one after another among those of the report, from position s on.
abbrev pub StandFrom : Data → ℕ → ℕ → Type 0
StandFrom t c s = (i : ℕ) → option_and_then (if_of_contest c) (slice_get (numbered_selections t) (s + i)) ≡ selection_of t c i
