-- The selections of a contest that stands at a position of a report, by their names.
use Rattle.std.specs.Prelude.{◌≡◌, ℕ, zero, suc, ◌+◌, ◌<◌, List, [], ◌∷◌, Bool, map, flat_map, length, sum_by, Option, Some, None, option_map, unwrap_or, codes}
use Rattle.std.specs.Prelude.{⊤}
use Rattle.std.specs.Option.{option_cmp}
use Rattle.std.specs.Ordering.{is_eq}
use Rattle.serde_json.specs.Data.{Data}
use Rattle.serde_json.specs.View.{view}
use Rattle.serde_json.specs.Written.{compact_text}
use Rattle.erd_check.specs.Values.{entries_at}
use Rattle.erd_meaning.specs.Judged.{Judged}
use Rattle.erd_meaning.specs.Meaning.{a_plain, Meaning, ObjectRecord, SelectionRecord}
use Rattle.erd_meaning.specs.NameParts.{NameParts}
use Rattle.erd_meaning.specs.Objects.{contests}
use Rattle.erd_meaning.specs.Records.{selection_map}
use Rattle.erd_meaning.specs.SelectionNames.{name_cmp, name_of}
use Rattle.std.specs.List.{slice_get}
use Rattle.erd_compare.specs.SelectionData.{selection_data}
use Rattle.erd_compare.specs.SelectionDifferences.{SelectionMap, AreSelectionDifferences, text_size, told_with, IsBare, TellsAll}
use Rattle.erd_compare.specs.code.DifferingWays.{hows_of}
use Rattle.erd_compare.specs.declared.detailed.DetailedDifference.{DetailedDifference}
use Rattle.erd_compare.specs.declared.difference.Difference.{Difference}
use Rattle.erd_compare.specs.declared.inside.SelectionDifference.{SelectionDifference}
use Rattle.erd_compare.specs.declared.inside.named.NamedWays.{NamedWays}
use Rattle.erd_compare.specs.declared.inside.room.Room.{Room}
use Rattle.erd_compare.specs.declared.objects.ways.Ways.{Ways}

-- The values of the selections of the contest at the position, or no values if there is no such contest.
abbrev pub selection_values : Judged → ℕ → List Data
selection_values a c = unwrap_or (option_map (λ o. entries_at (codes "ContestSelection") o.value) (slice_get (contests (view a.tree)) c)) []

-- What they mean, by their names. No position stands for a contest without selections.
abbrev pub contest_map : Judged → Option ℕ → SelectionMap
contest_map a None name = None
contest_map a (Some c) name = selection_map a.prefer (view a.tree) (selection_values a c) name

-- True if the selection has the name.
abbrev pub has_name_in : Judged → NameParts → Data → Bool
has_name_in a name d = is_eq (option_cmp name_cmp (name_of a.prefer (view a.tree) d) (Some name))

-- The record of a selection as that of any other object.
abbrev pub whole_record : Option SelectionRecord → Option ObjectRecord
whole_record found = option_map (λ r. record { class = r.class; members = λ name. option_map a_plain (r.members name) }) found

-- The differences at the name of a selection, one for each way.
abbrev pub differences_named : NameParts → Ways → List SelectionDifference
differences_named name ways = map (λ how. record { name = name; how = how }) (hows_of ways)

-- The differences at all these names, in their order.
abbrev pub differences_at : List NamedWays → List SelectionDifference
differences_at vs = flat_map (λ v. differences_named v.name.now v.ways) vs

-- How many bytes a difference has in an array of differences, with the one that stands behind it.
abbrev pub size_of_one : SelectionDifference → ℕ
size_of_one d = suc (length (compact_text (selection_data d)))

-- How many bytes they have together.
abbrev pub size_of_list : List SelectionDifference → ℕ
size_of_list ds = sum_by size_of_one ds

-- So many bytes are left of the room behind a text of this size, or none if it does not fit.
abbrev pub Leaves : ℕ → ℕ → Option ℕ → Type 0
Leaves size room None = room < size
Leaves size room (Some left) = left + size ≡ room

-- What is told of the differences inside, if this is left behind them.
abbrev pub if_left : Option ℕ → Option (List SelectionDifference) → Option (List SelectionDifference)
if_left None inside = None
if_left (Some left) inside = inside

-- This is told of the differences of two contests, if their text fits into the room before, which leaves the room after.
abbrev pub PassesInside : SelectionMap → SelectionMap → Option (List SelectionDifference) → Option ℕ → Option ℕ → Type 0
PassesInside m n told None after = (told ≡ None) × (after ≡ None)
PassesInside m n told (Some room) after =
    (inside : List SelectionDifference)
    × AreSelectionDifferences m n inside
    × Leaves (text_size (Some inside)) room after
    × (told ≡ if_left after (Some inside))

-- The differences are told, one after another, with this room: as many bare ones as it has first, and then whole ones, until the
-- text of one does not fit into the bytes that are left.
abbrev pub AreTold : Meaning → Meaning → (first : ℕ) → (bytes : Option ℕ) → List DetailedDifference → Type 0
AreTold m n first bytes [] = ⊤
AreTold m n (suc first) bytes (d ∷ ds) = IsBare d × AreTold m n first bytes ds
AreTold m n zero None (d ∷ ds) = IsBare d × AreTold m n zero None ds
AreTold m n zero (Some room) (d ∷ ds) =
    (inside : Option (List SelectionDifference))
    × (left : Option ℕ)
    × TellsAll m n d.difference inside
    × Leaves (text_size inside) room left
    × (told_with d ≡ if_left left inside)
    × AreTold m n zero left ds

-- The next difference is told with this, and so the room of the differences is that of those behind it.
abbrev pub PassesOne : Meaning → Meaning → Difference → Option (List SelectionDifference) → Room → Room → Type 0
PassesOne m n d told before after =
    (e : DetailedDifference) (rest : List DetailedDifference) → e.difference ≡ d → told_with e ≡ told → AreTold m n after.first after.bytes rest
    → AreTold m n before.first before.bytes (e ∷ rest)
