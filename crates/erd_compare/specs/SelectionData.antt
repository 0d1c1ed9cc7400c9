-- The JSON values of what differs inside the selections of contests. docs/API.md describes them.
use Rattle.std.specs.Prelude.{ℕ, ℤ, pos, negsuc, ◌^◌, nat_lt, if◌then◌else◌, List, [], ◌∷◌, map, Option, Some, None, option_map, codes}
use Rattle.serde_json.specs.Data.{Data, unsigned, negative, null, boolean, number, string, array, object, Members, no_members, member}
use Rattle.serde_json.specs.View.{items_of}
use Rattle.erd_tables.specs.Classes.{text_of_class}
use Rattle.erd_meaning.specs.NameParts.{NameParts}
use Rattle.erd_compare.specs.DifferenceData.{after_member, difference_members, how_words, key_data}
use Rattle.erd_compare.specs.DifferenceLine.{key_as_json}
use Rattle.erd_compare.specs.declared.detailed.DetailedDifference.{DetailedDifference}
use Rattle.erd_compare.specs.declared.inside.SelectionDifference.{SelectionDifference}

-- A whole number that fits 64 bits as a number, and null for any other. Each number of an accepted report fits.
abbrev pub whole_data : ℤ → Data
whole_data (pos n) = if nat_lt n (2 ^ 64) then number (unsigned n) else null
whole_data (negsuc n) = if nat_lt n (2 ^ 63) then number (negative (negsuc n)) else null

-- The sequence order of a selection as a number, or null if it has none.
abbrev pub order_data : Option ℤ → Data
order_data None = null
order_data (Some z) = whole_data z

-- The text of a label as a string, or null if there is none.
abbrev pub label_data : Option (List ℕ) → Data
label_data None = null
label_data (Some text) = string text

-- The name of a selection as the JSON array of its six parts: the `@type` of its class; the array of the keys of its candidates
-- or parties; whether it is for a write-in; its sequence order; the text of its label; and the triple chosen from its
-- identifiers. A part that it has not is null.
abbrev pub name_data : NameParts → Data
name_data n =
    array (items_of (string (text_of_class n.class) ∷ array (items_of (map key_as_json n.keys)) ∷ boolean n.write_in
    ∷ order_data n.order ∷ label_data n.label ∷ key_data n.identifier ∷ []))

-- The JSON object of a difference of selections. Its members are `how`, `member` for the member that differs, and `name`.
abbrev pub selection_data : SelectionDifference → Data
selection_data d = object (member (codes "how") (string (how_words d.how)) (after_member d.how (member (codes "name") (name_data d.name) no_members)))

-- The differences of selections as the array of their objects, in the same order.
abbrev pub selections_data : List SelectionDifference → Data
selections_data ds = array (items_of (map selection_data ds))

-- The member `selections` with the differences of selections, if they are told.
abbrev pub selections_member : Option (List SelectionDifference) → Members
selections_member None = no_members
selections_member (Some ds) = member (codes "selections") (selections_data ds) no_members

-- The JSON object of a difference with what differs inside the selections: that of the difference, with the member `selections`
-- behind its members.
abbrev pub detailed_data : DetailedDifference → Data
detailed_data d = object (difference_members d.difference (selections_member (option_map (λ v. v.items) d.selections)))
