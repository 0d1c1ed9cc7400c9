-- The ballot of a style as JSON, by keys and names. All of this is the profile's own.
use Rattle.std.specs.Prelude.{ℕ, pos, List, [], ◌∷◌, Bool, true, false, if◌then◌else◌, slice_get, Option, Some, map, codes}
use Rattle.std.specs.Option.{option_map_or}
use Rattle.serde_json.specs.Data.{Data, null, boolean, string, object, Members, no_members, member}
use Rattle.serde_json.specs.Find.{get}
use Rattle.erd_tables.specs.declared.class.Family.TheVariants as family
use Rattle.erd_tables.specs.declared.class.Role.TheVariants as role
use Rattle.erd_check.specs.Values.{entries_at, text_at}
use Rattle.erd_meaning.specs.Keys.{Preference, key_of}
use Rattle.erd_meaning.specs.Objects.{Placed, objects}
use Rattle.erd_meaning.specs.Records.{class_of_node, is_header_class}
use Rattle.erd_meaning.specs.SelectionNames.{key_named}
use Rattle.erd_meaning.specs.declared.keys.key.Key.{Key}
use Rattle.erd_shown.specs.KeyData.{array_of, shown_key_or_null, shown_name, shown_whole}
use Rattle.erd_shown.specs.ListedNames.{lists_selections, names_on}
use Rattle.erd_shown.specs.Lines.{content_lines}
use Rattle.erd_shown.specs.Shown.{holder_key, keys_data}

-- What a line is: whether it is a header, and its key.
abbrev pub thing_at : Preference → Data → Data → Bool × Option Key
thing_at π t d =
    if is_header_class (class_of_node d)
    then (true, key_named π t family.Header (text_at (codes "HeaderId") d))
    else (false, key_named π t family.Contest (text_at (codes "ContestId") d))

-- The same as JSON: the word `header` or `contest`, and the key.
abbrev pub thing_data : Bool × Option Key → Data
thing_data (is_header, key) = array_of (string (if is_header then codes "header" else codes "contest") ∷ shown_key_or_null key ∷ [])

-- What a line is, as the last member of its object.
abbrev pub what_members : Bool × Option Key → Members
what_members thing = member (codes "what") (thing_data thing) no_members

-- The names of the selections of a line and what it is, as the last members of its object.
abbrev pub listed_members : Preference → Data → Data → Members
listed_members π t d = member (codes "selections") (array_of (map (λ n. shown_name (Some n)) (names_on π t d))) (what_members (thing_at π t d))

-- A line: how many headers stand around it, whether the ballot lists its selections, their names, and what it is.
abbrev pub line_data : Preference → Data → ℕ × Data → Data
line_data π t (depth, d) =
    object (member (codes "depth") (shown_whole (pos depth)) (member (codes "listed") (boolean (lists_selections d)) (listed_members π t d)))

-- The lines of a ballot, in their order.
abbrev pub lines_of : Data → List (ℕ × Data)
lines_of d = option_map_or (content_lines 0) (get (codes "OrderedContent") d) []

abbrev pub lines_data : Preference → Data → Data → Data
lines_data π t d = array_of (map (line_data π t) (lines_of d))

-- The parties and units whose voters get a ballot, in rising order, as the last members of its object.
abbrev pub voters_members : Preference → Data → Data → Members
voters_members π t d =
    member (codes "parties") (keys_data π t family.Party (entries_at (codes "PartyIds") d))
    (member (codes "units") (keys_data π t family.Unit (entries_at (codes "GpUnitIds") d)) no_members)

-- The ballot of a style with this key, without its election: the key, the lines, and which voters get it, as the last members of
-- its object.
abbrev pub keyed_members : Preference → Data → Option Key → Data → Members
keyed_members π t key d = member (codes "key") (shown_key_or_null key) (member (codes "lines") (lines_data π t d) (voters_members π t d))

-- The ballot of a style with this key, and with the key of the election that holds it.
abbrev pub keyed_ballot : Preference → Data → (holder key : Option Key) → Data → Data
keyed_ballot π t holder key d = object (member (codes "election") (shown_key_or_null holder) (keyed_members π t key d))

-- The ballot of a style.
abbrev pub ballot_data : Preference → Data → Placed → Data
ballot_data π t o = keyed_ballot π t (holder_key π t (role.OfFamily family.Style) o) (key_of π o.value) o.value

-- The ballot of the style at this position, or null if there is none.
abbrev pub ballot_in : Preference → Data → ℕ → Data
ballot_in π t i = option_map_or (ballot_data π t) (slice_get (objects family.Style t) i) null

-- A ballot without its election. Two ballots are compared so: that another election holds a style is told of the style.
abbrev pub compared_ballot : Preference → Data → Data → Data
compared_ballot π t d = object (keyed_members π t (key_of π d) d)
