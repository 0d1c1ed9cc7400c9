-- The key style. What a member means is one JSON value, in which the key of an object stands for each reference to it. All of
-- this is the profile's own.
use Rattle.std.specs.Prelude.{ℕ, List, [], ◌∷◌, slice_get, Bool, if◌then◌else◌, Option, Some, None, option_and_then, map, codes}
use Rattle.std.specs.Option.{option_cmp, option_map_or}
use Rattle.serde_json.specs.Data.{Data, null, string, object, Members, no_members, member}
use Rattle.serde_json.specs.Find.{as_str}
use Rattle.erd_tables.specs.Classes.{text_of_class}
use Rattle.erd_tables.specs.Table.{kind_of_member}
use Rattle.erd_tables.specs.declared.class.Class.{Class}
use Rattle.erd_tables.specs.declared.class.Family.{Family}
use Rattle.erd_tables.specs.declared.class.Family.TheVariants as family
use Rattle.erd_tables.specs.declared.class.Role.{Role}
use Rattle.erd_tables.specs.declared.member.MemberKind.{MemberKind}
use Rattle.erd_tables.specs.declared.member.MemberKind.TheVariants as kind
use Rattle.erd_check.specs.Values.{entries_of}
use Rattle.erd_check.specs.Wants.{class_of_object}
use Rattle.erd_text.specs.RisingLists.{compact_cmp, rising_list, with_rising_text}
use Rattle.erd_meaning.specs.Keys.{Preference, key_cmp}
use Rattle.erd_meaning.specs.Lookups.{election_key_of}
use Rattle.erd_meaning.specs.NameParts.{NameParts}
use Rattle.erd_meaning.specs.Objects.{Placed, objects_with_role, report_of}
use Rattle.erd_meaning.specs.Records.{is_in_envelope, unless_empty}
use Rattle.erd_meaning.specs.SelectionNames.{key_named, keys_named, name_cmp, name_of, selection_role}
use Rattle.erd_meaning.specs.declared.keys.key.Key.{Key}
use Rattle.serde_json.specs.Find.{get}
use Rattle.erd_tables.specs.declared.class.Role.TheVariants as role
use Rattle.erd_shown.specs.KeyData.{array_of, shown_key, shown_key_or_null, shown_name}
use Rattle.erd_shown.specs.ContentData.{members_in, content_data}

-- ---- values

-- The keys of what a set of references names, as an array in rising order.
abbrev pub keys_data : Preference → Data → Family → List Data → Data
keys_data π t f ds = array_of (map shown_key (rising_list key_cmp (keys_named π t f ds)))

-- A set of JSON values as an array in the rising order of their compact texts.
abbrev pub set_data : List Data → Data
set_data ds = array_of (rising_list compact_cmp ds)

-- What a value of this kind means as JSON, or none if it means nothing by itself.
abbrev pub shown_value : Preference → Data → MemberKind → Data → Option Data
shown_value π t kind.Word d = Some d
shown_value π t kind.Flag d = Some d
shown_value π t kind.Whole d = Some d
shown_value π t kind.Carried d = Some d
shown_value π t kind.Label d = Some (with_rising_text d)
shown_value π t (kind.One f) d = Some (shown_key_or_null (option_and_then (key_named π t f) (as_str d)))
shown_value π t (kind.Many f) d = unless_empty (keys_data π t f (entries_of d)) d
shown_value π t kind.Identifiers d = unless_empty (set_data (entries_of d)) d
shown_value π t kind.Languages d = unless_empty (set_data (entries_of d)) d
shown_value π t kind.Content d = unless_empty (content_data π t d) d
shown_value π t k d = None

-- What a member of an object of the class means as JSON, or none if it means nothing by itself.
abbrev pub shown_plain : Preference → Data → Class → List ℕ → Data → Option Data
shown_plain π t c name d = if is_in_envelope c name then None else shown_value π t (kind_of_member c name) d

-- The members of an object of the class that mean something, each as JSON.
abbrev pub shown_members : (List ℕ → Data → Option Data) → Members → Members
shown_members value_of no_members = no_members
shown_members value_of (member k d ms) = option_map_or (λ v. member k v (shown_members value_of ms)) (value_of k d) (shown_members value_of ms)

-- An object's record. It has the class and the members.
abbrev pub record_in_class : (List ℕ → Data → Option Data) → Class → Data → Data
record_in_class value_of c d =
    object (member (codes "class") (string (text_of_class c)) (member (codes "members") (object (shown_members value_of (members_in d))) no_members))

-- The record of an object, or null if its class does not have the role.
abbrev pub record_data : (Class → List ℕ → Data → Option Data) → Role → Data → Data
record_data value_of r d = option_map_or (λ c. record_in_class (value_of c) c d) (class_of_object r d) null

-- A selection under a name: the name, and its record.
abbrev pub named_record : Preference → Data → Option NameParts → Data → Data
named_record π t n d = object (member (codes "name") (shown_name n) (member (codes "record") (record_data (shown_plain π t) selection_role d) no_members))

-- A selection: its name and its record.
abbrev pub selection_record_data : Preference → Data → Data → Data
selection_record_data π t d = named_record π t (name_of π t d) d

-- The selections of a contest, in the rising order of their names.
abbrev pub shown_selections : Preference → Data → List Data → Data
shown_selections π t ds = array_of (map (selection_record_data π t) (rising_list (λ a b. option_cmp name_cmp (name_of π t a) (name_of π t b)) ds))

-- What a member of this kind means as JSON, in an object that is no selection. `hidden` is true in the envelope.
abbrev pub shown_in : Preference → Data → (hidden : Bool) → MemberKind → Data → Option Data
shown_in π t hidden (kind.Keyed family.Selection) d = unless_empty (shown_selections π t (entries_of d)) d
shown_in π t hidden k d = if hidden then None else shown_value π t k d

-- What a member of an object of the class means as JSON, if the object is no selection.
abbrev pub shown_member : Preference → Data → Class → List ℕ → Data → Option Data
shown_member π t c name d = shown_in π t (is_in_envelope c name) (kind_of_member c name) d

-- What the member with this name means as JSON. The object is of the class, and no selection. There is none if the member is
-- absent or means nothing by itself.
abbrev pub member_data : Preference → Data → Class → List ℕ → Data → Option Data
member_data π t c name d = option_and_then (shown_member π t c name) (get name d)

-- ---- objects

-- The object with the role at this position, and its place, or none. The report itself has position 0.
abbrev pub placed_in : Data → Role → ℕ → Option Placed
placed_in t role.Report i = slice_get (report_of t ∷ []) i
placed_in t r i = slice_get (objects_with_role r t) i

-- The key of the election that holds the object, if its role is that of a family, or none. A selection is held by its contest
-- instead.
abbrev pub holder_key : Preference → Data → Role → Placed → Option Key
holder_key π t (role.OfFamily family.Selection) o = None
holder_key π t (role.OfFamily f) o = election_key_of π t o
holder_key π t r o = None

-- The record of an object of this class: its class, the key of the election that holds it, and its members.
abbrev pub object_in_class : Preference → Data → Option Key → Data → Class → Data
object_in_class π t holder d c =
    object (member (codes "class") (string (text_of_class c)) (member (codes "election") (shown_key_or_null holder)
    (member (codes "members") (object (shown_members (shown_member π t c) (members_in d))) no_members)))

-- What an object with the role means as JSON, or null if its class does not have the role.
abbrev pub object_data : Preference → Data → Role → Placed → Data
object_data π t r o = option_map_or (object_in_class π t (holder_key π t r o) o.value) (class_of_object r o.value) null

-- The same of the object at a position, or null if there is none.
abbrev pub object_data_in : Preference → Data → Role → ℕ → Data
object_data_in π t r i = option_map_or (object_data π t r) (placed_in t r i) null
