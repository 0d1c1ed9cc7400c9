-- The JSON values of differences with what each report has there. docs/API.md describes them. All of this is the profile's own.
use Rattle.std.specs.Prelude.{ℕ, ◌-◌, nat_lt, if◌then◌else◌, List, [], ◌∷◌, Option, Some, None, option_map, codes, length}
use Rattle.serde_json.specs.Data.{Data, null, string, array, object, Members, no_members, member}
use Rattle.serde_json.specs.View.{items_of}
use Rattle.serde_json.specs.Written.{compact_text}
use Rattle.erd_tables.specs.declared.class.Family.TheVariants as family
use Rattle.erd_tables.specs.declared.class.Role.{Role}
use Rattle.erd_tables.specs.declared.class.Role.TheVariants as role
use Rattle.erd_meaning.specs.Keys.{Preference}
use Rattle.erd_meaning.specs.declared.keys.key.Key.{Key}
use Rattle.erd_compare.specs.DifferenceData.{after_member, difference_members, how_words}
use Rattle.erd_compare.specs.Differences.{member_of}
use Rattle.erd_compare.specs.SelectionData.{name_data}
use Rattle.erd_compare.specs.SelectionDifferences.{told_with}
use Rattle.erd_compare.specs.declared.detailed.DetailedDifference.{DetailedDifference}
use Rattle.erd_compare.specs.declared.difference.Difference.{Difference}
use Rattle.erd_compare.specs.declared.difference.Part.{Part}
use Rattle.erd_compare.specs.declared.difference.Part.TheVariants as part
use Rattle.erd_compare.specs.declared.inside.SelectionDifference.{SelectionDifference}
use Rattle.erd_shown.specs.SideValues.{selection_value, side_value}

-- The role of the objects in a part.
abbrev pub role_in_part : Part → Role
role_in_part part.Report = role.Report
role_in_part part.Unit = role.OfFamily family.Unit
role_in_part part.Party = role.OfFamily family.Party
role_in_part part.Person = role.OfFamily family.Person
role_in_part part.Office = role.OfFamily family.Office
role_in_part part.Header = role.OfFamily family.Header
role_in_part part.Election = role.Election
role_in_part part.Candidate = role.OfFamily family.Candidate
role_in_part part.Contest = role.OfFamily family.Contest
role_in_part part.Style = role.OfFamily family.Style

-- What a report has at a difference: the value of the member that differs, or the record of the object if the difference is in no
-- member. None where it has none.
abbrev pub value_at_difference : Preference → Data → Difference → Option Data
value_at_difference π t d = side_value π t (role_in_part d.part) d.key (member_of d.how)

-- The members with one more in front of them, if there is a value for it.
abbrev pub if_told : List ℕ → Option Data → Members → Members
if_told name None ms = ms
if_told name (Some v) ms = member name v ms

-- What the left report has and what the right report has, each if it has anything.
abbrev pub sides_data : Option Data → Option Data → Data
sides_data left right = object (if_told (codes "left") left (if_told (codes "right") right no_members))

-- The same as the last member of the object of a difference. There is none if nothing is told of either report, as of the
-- selections of a contest and of the content of a ballot.
abbrev pub values_member : Option Data → Option Data → Members
values_member None None = no_members
values_member left right = member (codes "values") (sides_data left right) no_members

-- ---- inside the selections of a contest

-- What the contest of a report with this key has at a difference of selections: the value of the member that differs, or the
-- record of the selection if only one contest has it. None where it has none.
abbrev pub value_at_selection : Preference → Data → Option Key → SelectionDifference → Option Data
value_at_selection π t k d = selection_value π t k d.name (member_of d.how)

-- How many of so many bytes are left behind the text of a value, if there is one. None once a text has not fitted.
abbrev pub room_behind : Option ℕ → Option Data → Option ℕ
room_behind None v = None
room_behind (Some room) None = Some room
room_behind (Some room) (Some v) = if nat_lt room (length (compact_text v)) then None else Some (room - length (compact_text v))

-- The last member of a difference of selections, with this room behind its values: what the two contests have there, or null if
-- these did not fit.
abbrev pub values_or_null : Option ℕ → Option Data → Option Data → Members
values_or_null None left right = member (codes "values") null no_members
values_or_null (Some room) left right = values_member left right

-- The JSON object of a difference of selections, with these members behind its members.
abbrev pub selection_with : SelectionDifference → Members → Data
selection_with d ms = object (member (codes "how") (string (how_words d.how)) (after_member d.how (member (codes "name") (name_data d.name) ms)))

-- The objects of differences of selections with their values. They are told for the longest run of differences from the first
-- one on whose texts of values have no more bytes together than the room. All behind it have null in place of their values.
abbrev pub valued_selections : (left right : SelectionDifference → Option Data) → (room : Option ℕ) → List SelectionDifference → List Data
valued_selections left right room [] = []
valued_selections left right room (d ∷ ds) =
    let behind = room_behind (room_behind room (left d)) (right d) in
    selection_with d (values_or_null behind (left d) (right d)) ∷ valued_selections left right behind ds

-- The array of the differences inside the selections of the contests of two reports with this key, with the values of as many of
-- them as `most` bytes are enough for.
abbrev pub inside_data : Preference → Data → Preference → Data → (most : ℕ) → Option Key → List SelectionDifference → Data
inside_data π t ρ u most k ds = array (items_of (valued_selections (value_at_selection π t k) (value_at_selection ρ u k) (Some most) ds))

-- ---- a difference

-- The JSON object of a difference with what the two reports have there: that of the difference, with the member `values` behind
-- its members. The differences inside the selections of a contest, if these are told, have such a member too, as long as the
-- texts of their values have at most `most` bytes together.
abbrev pub valued_data : Preference → Data → Preference → Data → (most : ℕ) → DetailedDifference → Data
valued_data π t ρ u most d =
    object (difference_members d.difference
    (if_told (codes "selections") (option_map (inside_data π t ρ u most d.difference.key) (told_with d))
    (values_member (value_at_difference π t d.difference) (value_at_difference ρ u d.difference))))
