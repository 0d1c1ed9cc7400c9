-- What differs inside the selections of contests, and the list of all differences with it. All of this is the profile's own.
use Rattle.std.specs.Prelude.{ℕ, ◌+◌, ◌<◌, ◌≤◌, ◌≡◌, List, [], ◌∷◌, ◌++◌, Bool, true, false, map, take, drop, length, sum_by, Option, Some, None}
use Rattle.std.specs.Prelude.{option_and_then, option_map, codes, ⊤}
use Rattle.std.specs.List.{AllByRecursion}
use Rattle.std.specs.List.Sorted.{IsStrictlySortedBy}
use Rattle.std.specs.Option.{option_cmp}
use Rattle.std.specs.Ordering.{ordering_then}
use Rattle.std.specs.Str.{bytes_eq}
use Rattle.std.specs.declared.cmp.Ordering.{Ordering}
use Rattle.serde_json.specs.Written.{compact_text}
use Rattle.erd_tables.specs.Texts.{text_cmp}
use Rattle.erd_meaning.specs.Meaning.{SelectionRecord, MemberValue, a_selection_map, Meaning}
use Rattle.erd_meaning.specs.NameParts.{NameParts}
use Rattle.erd_meaning.specs.SelectionNames.{name_cmp}
use Rattle.erd_meaning.specs.declared.keys.key.Key.{Key}
use Rattle.erd_compare.specs.Differences.{record_at, member_of, AgreeBut, AreDifferences, DifferIn, Stands}
use Rattle.erd_compare.specs.SelectionData.{selections_data}
use Rattle.erd_compare.specs.declared.detailed.DetailedDifference.{DetailedDifference}
use Rattle.erd_compare.specs.declared.difference.Difference.{Difference}
use Rattle.erd_compare.specs.declared.difference.How.{How}
use Rattle.erd_compare.specs.declared.difference.How.TheVariants.{Member}
use Rattle.erd_compare.specs.declared.difference.Part.{Part}
use Rattle.erd_compare.specs.declared.difference.Part.TheVariants as part
use Rattle.erd_compare.specs.declared.inside.SelectionDifference.{SelectionDifference}

-- ---- the selections of a contest

-- What the selections of a contest mean, by their names.
abbrev pub SelectionMap : Type 0
SelectionMap = NameParts → Option SelectionRecord

-- The selections that a member means, or none if it is absent or no member of selections.
abbrev pub selections_in_member : Option MemberValue → SelectionMap
selections_in_member (Some (a_selection_map m)) = m
selections_in_member found = λ name. None

-- The selections that the meaning has for the contest with this key, or none if there is no such contest.
abbrev pub selections_with_key : Meaning → Option Key → SelectionMap
selections_with_key m k = selections_in_member (option_and_then (λ r. r.members (codes "ContestSelection")) (record_at m part.Contest k))

-- ---- their differences

-- The two contests differ at the name of the difference, in its way: only one of them has a selection with the name, or the
-- members with one name differ. Selections with one name have one class, since the class is a part of the name.
abbrev pub AreUnlikeSelections : SelectionMap → SelectionMap → SelectionDifference → Type 0
AreUnlikeSelections m n d = DifferIn (m d.name) (n d.name) d.how

-- Differences of selections are compared by the names of the selections, and then by the names of members.
abbrev pub selection_difference_cmp : SelectionDifference → SelectionDifference → Ordering
selection_difference_cmp d e = ordering_then (name_cmp d.name e.name) (option_cmp text_cmp (member_of d.how) (member_of e.how))

-- These are all differences of the selections of two contests, in rising order: the contests differ in each of them, and but
-- for these they agree at every name.
pub record AreSelectionDifferences (m n : SelectionMap) (ds : List SelectionDifference) : Type 0 where
  pub rise : IsStrictlySortedBy selection_difference_cmp ds
  pub differ : AllByRecursion (AreUnlikeSelections m n) ds
  pub all : (name : NameParts) → AgreeBut (λ how. Stands (record { name = name; how = how }) ds) (m name) (n name)

-- ---- the list of all differences

-- True for the member of a contest that has its selections.
abbrev pub is_member_of_selections : Part → How → Bool
is_member_of_selections part.Contest (Member name) = bytes_eq name (codes "ContestSelection")
is_member_of_selections p how = false

-- True if the difference is in the selections of two contests of one class.
abbrev pub is_in_selections : Difference → Bool
is_in_selections d = is_member_of_selections d.part d.how

-- What stands with a difference that is told whole: all differences of the selections, if it is in the selections of a contest,
-- and nothing otherwise.
abbrev pub TellsAll : Meaning → Meaning → Difference → Option (List SelectionDifference) → Type 0
TellsAll m n d None = is_in_selections d ≡ false
TellsAll m n d (Some ds) = (is_in_selections d ≡ true) × AreSelectionDifferences (selections_with_key m d.key) (selections_with_key n d.key) ds

-- What is told of the selections with a difference, or none.
abbrev pub told_with : DetailedDifference → Option (List SelectionDifference)
told_with d = option_map (λ v. v.items) d.selections

-- The difference is told whole.
abbrev pub IsWhole : Meaning → Meaning → DetailedDifference → Type 0
IsWhole m n d = TellsAll m n d.difference (told_with d)

-- The difference is told without those of the selections.
abbrev pub IsBare : DetailedDifference → Type 0
IsBare d = told_with d ≡ None

-- How many bytes the text of the differences of selections has: the compact text of their JSON array. Where none are told, there
-- is no text.
abbrev pub text_size : Option (List SelectionDifference) → ℕ
text_size None = 0
text_size (Some ds) = length (compact_text (selections_data ds))

-- Nothing is left, or the text of the next difference does not fit: with the bytes that are used, it has more than `most`.
abbrev pub NoneFits : Meaning → Meaning → (used most : ℕ) → List DetailedDifference → Type 0
NoneFits m n used most [] = ⊤
NoneFits m n used most (d ∷ ds) = (inside : Option (List SelectionDifference)) × TellsAll m n d.difference inside × (most < used + text_size inside)

-- The differences that are told whole are the longest run from the first on whose texts have at most `most` bytes together.
pub record IsLongestRun (m n : Meaning) (most : ℕ) (ds : List DetailedDifference) : Type 0 where
  pub run : List DetailedDifference
  pub behind : List DetailedDifference
  pub split : ds ≡ run ++ behind
  pub whole : AllByRecursion (IsWhole m n) run
  pub fits : sum_by (λ d. text_size (told_with d)) run ≤ most
  pub bare : AllByRecursion IsBare behind
  pub longest : NoneFits m n (sum_by (λ d. text_size (told_with d)) run) most behind

-- These are all differences of the two meanings, in rising order. Those before the number `first` are told without those of the
-- selections. From there on, the longest run whose texts have at most `most` bytes together is told whole.
pub record AreDetailedDifferences (m n : Meaning) (first most : ℕ) (ds : List DetailedDifference) : Type 0 where
  pub list : AreDifferences m n (map (λ d. d.difference) ds)
  pub before : AllByRecursion IsBare (take first ds)
  pub run : IsLongestRun m n most (drop first ds)
