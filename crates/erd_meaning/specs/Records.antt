-- What the objects of a report mean. All of this is the profile's own.
use Rattle.std.specs.Prelude.{ℕ, List, [], Bool, true, false, ◌||◌, if◌then◌else◌, Option, Some, None, option_and_then, option_map, unwrap_or, map, find, codes}
use Rattle.std.specs.List.{list_any}
use Rattle.std.specs.Option.{option_cmp}
use Rattle.std.specs.Ordering.{is_eq}
use Rattle.std.specs.Str.{bytes_eq}
use Rattle.serde_json.specs.Data.{Data, array, object, Items, no_items, item, Members, no_members, member}
use Rattle.serde_json.specs.Find.{get, as_str}
use Rattle.erd_tables.specs.Table.{kind_of_member, is_envelope_name}
use Rattle.erd_tables.specs.declared.class.Class.{Class}
use Rattle.erd_tables.specs.declared.class.Class.TheVariants as class
use Rattle.erd_tables.specs.declared.class.Family.{Family}
use Rattle.erd_tables.specs.declared.class.Family.TheVariants as family
use Rattle.erd_tables.specs.declared.class.Role.{Role}
use Rattle.erd_tables.specs.declared.class.Role.TheVariants as role
use Rattle.erd_tables.specs.declared.member.MemberKind.{MemberKind}
use Rattle.erd_tables.specs.declared.member.MemberKind.TheVariants as kind
use Rattle.erd_check.specs.Trees.{is_same_json}
use Rattle.erd_check.specs.Values.{entries_of, entries_at, text_at}
use Rattle.erd_check.specs.Wants.{class_of_object}
use Rattle.erd_meaning.specs.Keys.{Preference, key_cmp, key_of}
use Rattle.erd_meaning.specs.Meaning.{JsonMap, JsonSet, KeySet, Label, untranslated, translated, Content, no_content, first_node, Node, a_contest, a_header}
use Rattle.erd_meaning.specs.Meaning.{PlainValue, a_json, a_label, a_json_set, a_key, a_key_set, a_content, Record, SelectionRecord, MemberValue, a_plain}
use Rattle.erd_meaning.specs.Meaning.{a_selection_map, ObjectRecord, Meaning}
use Rattle.erd_meaning.specs.NameParts.{NameParts}
use Rattle.erd_meaning.specs.Lookups.{election_key_of}
use Rattle.erd_meaning.specs.Objects.{Placed, objects, elections}
use Rattle.erd_meaning.specs.SelectionNames.{selection_role, name_of, name_cmp, key_named, keys_named, name_named}
use Rattle.erd_meaning.specs.declared.keys.key.Key.{Key}

-- ---- values

-- The set of the JSON values in the list. Values are compared as JSON.
abbrev pub json_set : List Data → JsonSet
json_set ds d = list_any (is_same_json d) ds

-- The set of the keys in the list.
abbrev pub key_set : List Key → KeySet
key_set ks k = list_any (λ l. is_eq (key_cmp l k)) ks

-- The value, if the member is a carried one, and otherwise none.
abbrev pub if_carried : MemberKind → Option Data → Option Data
if_carried kind.Carried found = found
if_carried k found = None

-- The carried members of an object of the class, by name. There are none if the class is unknown.
abbrev pub carried_members : Option Class → Data → JsonMap
carried_members class d name = option_and_then (λ c. if_carried (kind_of_member c name) (get name d)) class

-- The members of a label except `Text`, and except `@type`, which is the same in every accepted label.
abbrev pub label_beside_text : Data → JsonMap
label_beside_text d name = if bytes_eq name (codes "@type") || bytes_eq name (codes "Text") then None else get name d

-- What a label means: an object stands for its translations and other members, and a string for its text. (class
-- InternationalizedText, or a text)
abbrev pub label_of : Data → Label
label_of (object ms) = translated (label_beside_text (object ms)) (json_set (entries_at (codes "Text") (object ms)))
label_of d = untranslated (unwrap_or (as_str d) [])

-- ---- the order of a ballot

-- The class of a node in the order of a ballot, or none if it is neither of the two. (classes OrderedContest and
-- OrderedHeader)
abbrev pub class_of_node : Data → Option Class
class_of_node d = class_of_object role.Content d

-- True for the class OrderedHeader.
abbrev pub is_header_class : Option Class → Bool
is_header_class (Some class.OrderedHeader) = true
is_header_class c = false

-- A contest on a ballot, with the names of its selections in their order and its carried members. (class OrderedContest)
abbrev pub contest_node : Preference → Data → Data → Node
contest_node π t d =
    a_contest (key_named π t family.Contest (text_at (codes "ContestId") d))
    (map (λ r. option_and_then (name_named π t) (as_str r)) (entries_at (codes "OrderedContestSelectionIds") d))
    (carried_members (class_of_node d) d)

-- A header on a ballot, with the content inside it and its carried members. (class OrderedHeader)
abbrev pub header_node : Preference → Data → Data → Content → Node
header_node π t d inside = a_header (key_named π t family.Header (text_at (codes "HeaderId") d)) inside (carried_members (class_of_node d) d)

-- What an ordered list of contests and headers means, headers inside headers included. An empty list means the same as an
-- absent one. (classes BallotStyle and OrderedHeader)
abbrev mutual
  pub content_of : Preference → Data → Data → Content
  content_of π t (array ds) = nodes_of π t ds
  content_of π t d = no_content

  -- The contests and headers of an array, in their order.
  pub nodes_of : Preference → Data → Items → Content
  nodes_of π t no_items = no_content
  nodes_of π t (item d ds) = first_node (node_of π t d) (nodes_of π t ds)

  -- A header if the class is OrderedHeader, and otherwise a contest.
  pub node_of : Preference → Data → Data → Node
  node_of π t (object ms) =
      if is_header_class (class_of_node (object ms))
      then header_node π t (object ms) (content_inside π t ms)
      else contest_node π t (object ms)
  node_of π t d = contest_node π t d

  -- The content of the member `OrderedContent`, or no content if the object has no such member.
  pub content_inside : Preference → Data → Members → Content
  content_inside π t no_members = no_content
  content_inside π t (member k d ms) = if bytes_eq (codes "OrderedContent") k then content_of π t d else content_inside π t ms

-- ---- members

-- The given meaning, or none if the value is an empty array.
abbrev pub unless_empty : {V : Type 0} → V → Data → Option V
unless_empty v (array no_items) = None
unless_empty v d = Some v

-- What a value of this kind means, or none if it means nothing by itself.
abbrev pub plain_value : Preference → Data → MemberKind → Data → Option PlainValue
plain_value π t kind.Word d = Some (a_json d)
plain_value π t kind.Flag d = Some (a_json d)
plain_value π t kind.Whole d = Some (a_json d)
plain_value π t kind.Carried d = Some (a_json d)
plain_value π t kind.Label d = Some (a_label (label_of d))
plain_value π t (kind.One f) d = Some (a_key (option_and_then (key_named π t f) (as_str d)))
plain_value π t (kind.Many f) d = unless_empty (a_key_set (key_set (keys_named π t f (entries_of d)))) d
plain_value π t kind.Identifiers d = unless_empty (a_json_set (json_set (entries_of d))) d
plain_value π t kind.Languages d = unless_empty (a_json_set (json_set (entries_of d))) d
plain_value π t kind.Content d = unless_empty (a_content (content_of π t d)) d
plain_value π t k d = None

-- True for a member of the report that is in the envelope, and so not part of its meaning.
abbrev pub is_in_envelope : Class → List ℕ → Bool
is_in_envelope class.ElectionReport name = is_envelope_name name
is_in_envelope c name = false

-- What a member of an object of the class means, or none if it is absent or means nothing by itself.
abbrev pub plain_member : Preference → Data → Data → Class → List ℕ → Option PlainValue
plain_member π t d c name =
    if is_in_envelope c name then None else option_and_then (plain_value π t (kind_of_member c name)) (get name d)

-- ---- objects

-- The record of an object whose class has the role, with its members read by class and name, or none for any other class.
abbrev pub record_with : {V : Type 0} → (Class → List ℕ → Option V) → Role → Data → Option (Record V)
record_with members_of r d = option_map (λ c. record { class = c; members = members_of c }) (class_of_object r d)

-- What a selection means.
abbrev pub selection_record : Preference → Data → Data → Option SelectionRecord
selection_record π t d = record_with (plain_member π t d) selection_role d

-- What the first selection with this name means, or none if no selection has the name.
abbrev pub selection_map : Preference → Data → List Data → NameParts → Option SelectionRecord
selection_map π t ds name =
    option_and_then (selection_record π t) (find (λ d. is_eq (option_cmp name_cmp (name_of π t d) (Some name))) ds)

-- What a member of this kind means. The selections of a contest mean a map; any other member means what it means by itself.
abbrev pub member_value : Preference → Data → MemberKind → Option Data → Option PlainValue → Option MemberValue
member_value π t (kind.Keyed family.Selection) found plain =
    option_and_then (λ v. unless_empty (a_selection_map (selection_map π t (entries_of v))) v) found
member_value π t k found plain = option_map a_plain plain

-- What the member with this name means in an object of the class.
abbrev pub member_of_class : Preference → Data → Data → Class → List ℕ → Option MemberValue
member_of_class π t d c name = member_value π t (kind_of_member c name) (get name d) (plain_member π t d c name)

-- What an object with the role means, if it is not a selection.
abbrev pub object_record : Preference → Data → Role → Data → Option ObjectRecord
object_record π t r d = record_with (member_of_class π t d) r d

-- ---- objects under their keys

-- The members, with the key of an election under the name `ElectionId`, if there is a key. No accepted object has a member of
-- this name, since no class lists it.
abbrev pub with_election_id : Option Key → (List ℕ → Option MemberValue) → List ℕ → Option MemberValue
with_election_id None members name = members name
with_election_id (Some k) members name = if bytes_eq name (codes "ElectionId") then Some (a_plain (a_key (Some k))) else members name

-- The record with the key of the election that holds the object.
abbrev pub record_in_election : Option Key → ObjectRecord → ObjectRecord
record_in_election k r = record { class = r.class; members = with_election_id k r.members }

-- What an object of the family means, with the key of the election that holds it.
abbrev pub placed_record : Preference → Data → Family → Placed → Option ObjectRecord
placed_record π t f o = option_map (record_in_election (election_key_of π t o)) (object_record π t (role.OfFamily f) o.value)

-- The first object of the family with this key, and its place, or none.
abbrev pub placed_with_key : Preference → Data → Family → Key → Option Placed
placed_with_key π t f k = find (λ o. is_eq (option_cmp key_cmp (key_of π o.value) (Some k))) (objects f t)

-- What the object of the family with this key means, or none. Selections are in the records of their contests.
abbrev pub records_of : Preference → Data → Family → Key → Option ObjectRecord
records_of π t family.Selection k = None
records_of π t f k = option_and_then (placed_record π t f) (placed_with_key π t f k)

-- The first election with this key, or without a key, and its place, or none.
abbrev pub election_with_key : Preference → Data → Option Key → Option Placed
election_with_key π t k = find (λ e. is_eq (option_cmp key_cmp (key_of π e.value) k)) (elections t)

-- What the election with this key, or without a key, means, or none.
abbrev pub election_records : Preference → Data → Option Key → Option ObjectRecord
election_records π t k = option_and_then (λ e. object_record π t role.Election e.value) (election_with_key π t k)

-- What a report means under a preference.
abbrev pub meaning : Preference → Data → Meaning
meaning π t = record {
  report = object_record π t role.Report t;
  elections = election_records π t;
  objects = records_of π t;
}
