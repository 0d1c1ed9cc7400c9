-- The text of the differences inside the selections of a contest, each with what both contests have there.
use Rattle.std.specs.Prelude.{ℕ, ◌-◌, List, ◌++◌, false, nat_lt, if◌then◌else◌, Option, Some, None, codes, length, option_and_then, option_map, slice_get, take}
use Rattle.serde_json.specs.Data.{Data}
use Rattle.serde_json.specs.View.{items_of, view}
use Rattle.serde_json.specs.Written.{compact_text, items_text}
use Rattle.erd_meaning.specs.Objects.{contests}
use Rattle.erd_compare.specs.Differences.{member_of}
use Rattle.erd_compare.specs.SelectionDifferences.{told_with}
use Rattle.erd_compare.specs.declared.detailed.DetailedDifference.{DetailedDifference}
use Rattle.erd_compare.specs.declared.inside.SelectionDifference.{SelectionDifference}
use Rattle.erd_shown.specs.SideValues.{told_at_name}
use Rattle.erd_canon.specs.ValuedData.{inside_data, room_behind, selection_with, valued_selections, values_or_null}
use Rattle.erd_canon.specs.code.ValuedTexts.{values_put}
use Rattle.erd_canon.specs.declared.data.valued.Sides.{Sides}
use Rattle.erd_canon.specs.declared.data.valued_inside.ContestOf.{ContestOf}
use Rattle.erd_canon.specs.declared.data.valued_inside.Contests.{Contests}

-- What a contest has at a difference of its selections.
abbrev pub value_in_contest : ContestOf → SelectionDifference → Option Data
value_in_contest c d =
    option_and_then (told_at_name c.report.now.prefer (view c.report.now.tree) d.name (member_of d.how))
    (option_and_then (slice_get (contests (view c.report.now.tree))) c.position)

-- A value is sought only while there is a room.
abbrev pub if_room : Option ℕ → Option Data → Option Data
if_room None v = None
if_room (Some room) v = v

-- What is left of a room behind a text, if there is one.
abbrev pub room_after : ℕ → Option (List ℕ) → Option ℕ
room_after room None = Some room
room_after room (Some text) = if nat_lt room (length text) then None else Some (room - length text)

-- What is left of a room behind both values of a difference.
abbrev pub room_at : Contests → Option ℕ → SelectionDifference → Option ℕ
room_at c room d = room_behind (room_behind room (value_in_contest c.left d)) (value_in_contest c.right d)

-- The object of a difference with its values, or with null.
abbrev pub entry_at : Contests → Option ℕ → SelectionDifference → Data
entry_at c room d = selection_with d (values_or_null (room_at c room d) (value_in_contest c.left d) (value_in_contest c.right d))

-- What the text of such an object becomes.
abbrev pub told_put : Option ℕ → Option (List ℕ) → Option (List ℕ) → List ℕ → List ℕ
told_put None left right text = take (length text - 1) text ++ codes ",\"values\":null}"
told_put (Some room) left right text = values_put left right text

-- The text of all entries with the end of their array.
abbrev pub entries_text : Contests → Option ℕ → List SelectionDifference → List ℕ
entries_text c room ds = items_text false (items_of (valued_selections (value_in_contest c.left) (value_in_contest c.right) room ds))

-- The array of the differences inside the selections, if they are told.
abbrev pub inside_of : Sides → DetailedDifference → Option Data
inside_of s d =
    option_map (inside_data s.left.now.prefer (view s.left.now.tree) s.right.now.prefer (view s.right.now.tree) s.most_bytes d.difference.key) (told_with d)

-- What the text of an object becomes with a member `selections` behind its members, if it has one.
abbrev pub inside_put : Option Data → List ℕ → List ℕ
inside_put None text = text
inside_put (Some v) text = take (length text - 1) text ++ (codes ",\"selections\":" ++ (compact_text v ++ codes "}"))
