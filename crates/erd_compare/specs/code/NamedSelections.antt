-- The selections of contests by the numbers of their names, and the ways in which they differ, in no order of their names.
use Rattle.std.specs.Prelude.{◌≡◌, ◌⊎◌, ◌==◌, true, ℕ, List, [], map, find, Option, Some, None, option_and_then, option_map}
use Rattle.std.specs.List.{AllByRecursion, IsDistinct}
use Rattle.std.specs.Map.{keys_of, lookup}
use Rattle.std.specs.Option.{option_or}
use Rattle.std.specs.Ordering.{eq_by_cmp}
use Rattle.std.specs.declared.cmp.Ordering.{Ordering}
use Rattle.serde_json.specs.Data.{Data}
use Rattle.serde_json.specs.View.{view}
use Rattle.erd_meaning.specs.Judged.{Judged}
use Rattle.erd_meaning.specs.Meaning.{ObjectRecord}
use Rattle.erd_meaning.specs.NameParts.{NameParts}
use Rattle.erd_meaning.specs.Records.{object_record}
use Rattle.erd_meaning.specs.SelectionNames.{name_cmp, name_of, selection_role}
use Rattle.erd_compare.specs.Differences.{AgreeBut, Stands}
use Rattle.erd_compare.specs.SelectionDifferences.{SelectionMap}
use Rattle.erd_compare.specs.code.Comparing.{IsWholeTree}
use Rattle.erd_compare.specs.code.ContestSelections.{selection_values, whole_record}
use Rattle.erd_compare.specs.code.DifferingWays.{AreWays}
use Rattle.erd_compare.specs.code.PlacedObjects.{IsPlaced}
use Rattle.erd_compare.specs.code.RankedSides.{on_side}
use Rattle.erd_compare.specs.code.SelectionsByName.{has_number}
use Rattle.erd_compare.specs.declared.inside.named.NamedSelection.{NamedSelection}
use Rattle.erd_compare.specs.declared.inside.named.NamedWays.{NamedWays}
use Rattle.erd_compare.specs.declared.ranks.common_ranks.ComparedReport.{ComparedReport}

-- ---- selections by number

-- The values of the selections of the contest at the position. No position stands for a contest without selections.
abbrev pub contest_values : Judged → Option ℕ → List Data
contest_values a None = []
contest_values a (Some c) = selection_values a c

-- The value of a selection.
abbrev pub value_of : NamedSelection → Data
value_of s = view s.object.value.now

-- A number, and the value of the selection with it.
abbrev pub number_and_value : ℕ × NamedSelection → ℕ × Data
number_and_value found = (found.0, value_of found.1)

-- The selection is one of the report on the side, and has its name there.
pub record IsNamedOn (a b : Judged) (side : ComparedReport) (s : NamedSelection) : Type 0 where
  pub named : name_of (on_side side a b).prefer (view (on_side side a b).tree) (value_of s) ≡ Some s.name.now
  pub placed : IsPlaced (on_side side a b) selection_role s.object.index (value_of s)
  pub whole : IsWholeTree (value_of s)

-- Under the number of each name, the list has the first of these selections with that name.
pub record AreByNumber (a b : Judged) (side : ComparedReport) (ds : List Data) (es : List (ℕ × NamedSelection)) : Type 0 where
  pub first : (k : ℕ) → option_map value_of (lookup (λ l. k == l) es) ≡ find (has_number a b side k) ds
  pub each : (k : ℕ) (s : NamedSelection) → lookup (λ l. k == l) es ≡ Some s → IsNamedOn a b side s

-- The numbers with those of the list, and maybe others.
pub record AddsNumbers (es : List (ℕ × NamedSelection)) (before after : List ℕ) : Type 0 where
  pub kept : (k : ℕ) → Stands k before → Stands k after
  pub added : (k : ℕ) → Stands k (keys_of es) → Stands k after

-- ---- the ways at one name

-- What a selection means, as the record of any object. One that is missing means nothing.
abbrev pub record_named : Judged → Option NamedSelection → Option ObjectRecord
record_named a found = option_and_then (λ s. object_record a.prefer (view a.tree) selection_role (value_of s)) found

-- Two selections, of which one may be missing, differ in these ways, under the name of the first that is not missing; or in none.
abbrev pub TellsWays : Judged → Judged → Option NamedSelection → Option NamedSelection → Option NamedWays → Type 0
TellsWays a b one other None = AgreeBut (λ how. ⊥) (record_named a one) (record_named b other)
TellsWays a b one other (Some v) =
    (Some v.name.now ≡ option_map (λ s. s.name.now) (option_or one other)) × AreWays true (record_named a one) (record_named b other) v.ways

-- ---- the ways at all names

-- The names at which there are ways.
abbrev pub names_of : List NamedWays → List NameParts
names_of vs = map (λ v. v.name.now) vs

-- Ways are compared by their names.
abbrev pub named_cmp : NamedWays → NamedWays → Ordering
named_cmp v w = name_cmp v.name.now w.name.now

-- These are the ways in which two contests differ at all names at which they do, each name once, in any order.
pub record AreAllWays (m n : SelectionMap) (vs : List NamedWays) : Type 0 where
  pub once : IsDistinct (eq_by_cmp named_cmp) vs
  pub ways : AllByRecursion (λ v. AreWays true (whole_record (m v.name.now)) (whole_record (n v.name.now)) v.ways) vs
  pub each : (name : NameParts) → Stands name (names_of vs) ⊎ AgreeBut (λ how. ⊥) (m name) (n name)
