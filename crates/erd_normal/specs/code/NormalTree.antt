-- What values and contents of a report become. It does not define the profile: `IsCanonicalFormOf` does.
use Rattle.std.specs.Prelude.{ℕ, List, [], ◌∷◌, true, false, Option, Some, None, option_map, unwrap_or, map, filter, find, length, codes}
use Rattle.std.specs.Option.{option_cmp, option_map_or}
use Rattle.std.specs.Ordering.{is_lt}
use Rattle.std.specs.declared.cmp.Ordering.{Ordering}
use Rattle.serde_json.specs.Data.{Data, string, number, unsigned, array, object, put, Items, no_items, item, Members, no_members, member}
use Rattle.serde_json.specs.View.{items_of}
use Rattle.erd_tables.specs.Table.{kind_of_member}
use Rattle.erd_tables.specs.declared.class.Class.{Class}
use Rattle.erd_tables.specs.declared.class.Family.{Family}
use Rattle.erd_tables.specs.declared.class.Family.TheVariants as family
use Rattle.erd_tables.specs.declared.member.MemberKind.{MemberKind}
use Rattle.erd_tables.specs.declared.member.MemberKind.TheVariants as kind
use Rattle.erd_check.specs.Values.{entries_of, entries_at, text_of}
use Rattle.erd_meaning.specs.Keys.{Preference, key_cmp, key_of}
use Rattle.erd_meaning.specs.NameParts.{NameParts}
use Rattle.erd_meaning.specs.Objects.{has_id, contests, selections_of_contest, Placed}
use Rattle.erd_meaning.specs.Records.{class_of_node, unless_empty}
use Rattle.erd_meaning.specs.SelectionNames.{key_named, name_cmp, name_of}
use Rattle.erd_text.specs.RisingLists.{compact_cmp, rising_list, with_rising_text}
use Rattle.erd_meaning.specs.declared.keys.key.Key.{Key}
use Rattle.erd_normal.specs.code.Building.{put_all}
use Rattle.erd_normal.specs.Canonical.{canonical_id, canonical_selection_id}
use Rattle.erd_meaning.specs.Lookups.{rank_of}

-- ---- ranks and references

-- The canonical `@id` of the object of the family with this key, or none if objects of the family have none.
abbrev pub id_of_key : Preference → Data → Family → Option Key → Option (List ℕ)
id_of_key π t f k = canonical_id f (rank_of π t f k)

-- The canonical `@id` of the object of the family that has this `@id`, or the empty text.
abbrev pub normal_id : Preference → Data → Family → List ℕ → List ℕ
normal_id π t f id = unwrap_or (id_of_key π t f (key_named π t f id)) []

-- What a reference to an object of the family becomes.
abbrev pub normal_reference : Preference → Data → Family → Data → Data
normal_reference π t f d = string (normal_id π t f (text_of d))

-- References are compared by the keys of what they name.
abbrev pub reference_cmp : Preference → Data → Family → Data → Data → Ordering
reference_cmp π t f a b = option_cmp key_cmp (key_named π t f (text_of a)) (key_named π t f (text_of b))

-- The number of selections in the list whose names are less than this one.
abbrev pub rank_of_name : Preference → Data → List Data → Option NameParts → ℕ
rank_of_name π t ds name = length (filter (λ d. is_lt (option_cmp name_cmp (name_of π t d) name)) ds)

-- The canonical `@id` of a selection of the contest.
abbrev pub id_of_selection : Preference → Data → Data → Data → List ℕ
id_of_selection π t contest d =
    canonical_selection_id (rank_of π t family.Contest (key_of π contest)) (rank_of_name π t (entries_at (codes "ContestSelection") contest) (name_of π t d))

-- The first contest that has a selection with this `@id`, or none.
abbrev pub contest_with : Data → List ℕ → Option Placed
contest_with t id = find (λ c. option_map_or (λ o. true) (find (λ o. has_id id o.value) (selections_of_contest c)) false) (contests t)

-- The first selection of the contest with this `@id`, or none.
abbrev pub selection_with : List ℕ → Placed → Option Placed
selection_with id c = find (λ o. has_id id o.value) (selections_of_contest c)

-- What a reference to a selection becomes.
abbrev pub normal_selection_reference : Preference → Data → Data → Data
normal_selection_reference π t d =
    string (option_map_or (λ c. option_map_or (λ o. id_of_selection π t c.value o.value) (selection_with (text_of d) c) []) (contest_with t (text_of d)) [])

-- ---- members

-- The array of these values.
abbrev pub array_of : List Data → Data
array_of ds = array (items_of ds)

-- The label with its translations in rising order.
abbrev pub normal_label : Data → Data
normal_label d = with_rising_text d

-- What the value of a member of this kind becomes, if it holds no objects. Empty sets and lists, `@id` and outside members
-- become none.
abbrev pub normal_value : Preference → Data → MemberKind → Data → Option Data
normal_value π t kind.Label d = Some (normal_label d)
normal_value π t (kind.One f) d = Some (normal_reference π t f d)
normal_value π t (kind.Many f) d = unless_empty (array_of (map (normal_reference π t f) (rising_list (reference_cmp π t f) (entries_of d)))) d
normal_value π t kind.Identifiers d = unless_empty (array_of (rising_list compact_cmp (entries_of d))) d
normal_value π t kind.Languages d = unless_empty (array_of (rising_list compact_cmp (entries_of d))) d
normal_value π t kind.Ordered d = unless_empty (array_of (map (normal_selection_reference π t) (entries_of d))) d
normal_value π t kind.Identity d = None
normal_value π t kind.Outside d = None
normal_value π t k d = Some d

-- The members of an object of the class, each with the value that its name and kind give. Members without a value are left
-- out.
abbrev pub normal_members : (List ℕ → MemberKind → Data → Option Data) → Class → Members → Members
normal_members value_of c no_members = no_members
normal_members value_of c (member k d ms) =
    option_map_or (λ v. member k v (normal_members value_of c ms)) (value_of k (kind_of_member c k) d) (normal_members value_of c ms)

-- The object of the class with these members. Any other value stays.
abbrev pub normal_object_with : (List ℕ → MemberKind → Data → Option Data) → Option Class → Data → Data
normal_object_with value_of (Some c) (object ms) = object (normal_members value_of c ms)
normal_object_with value_of c d = d

-- ---- the order of a ballot

-- What a member of a contest or a header becomes, given what its value becomes as a list of contests and headers.
abbrev pub normal_node_value : Preference → Data → Option MemberKind → Data → Data → Option Data
normal_node_value π t (Some kind.Content) d inside = unless_empty inside d
normal_node_value π t (Some k) d inside = normal_value π t k d
normal_node_value π t None d inside = Some d

abbrev mutual
  -- What a list of contests and headers becomes, at every depth of headers.
  pub normal_content : Preference → Data → Data → Data
  normal_content π t (array ds) = array (normal_nodes π t ds)
  normal_content π t d = d

  -- What the contests and headers of an array become.
  pub normal_nodes : Preference → Data → Items → Items
  normal_nodes π t no_items = no_items
  normal_nodes π t (item d ds) = item (normal_node π t d) (normal_nodes π t ds)

  -- What a contest or a header becomes.
  pub normal_node : Preference → Data → Data → Data
  normal_node π t (object ms) = object (normal_node_members π t (class_of_node (object ms)) ms)
  normal_node π t d = d

  -- What the members of a contest or a header become.
  pub normal_node_members : Preference → Data → Option Class → Members → Members
  normal_node_members π t c no_members = no_members
  normal_node_members π t c (member k d ms) =
      option_map_or (λ v. member k v (normal_node_members π t c ms))
      (normal_node_value π t (option_map (λ c. kind_of_member c k) c) d (normal_content π t d)) (normal_node_members π t c ms)

-- ---- objects

-- The object with this `@id`. If there is no `@id`, the object stays.
abbrev pub with_id : Option (List ℕ) → Data → Data
with_id (Some id) (object ms) = object (put (codes "@id") (string id) ms)
with_id id d = d

-- Objects and elections are compared by their keys.
abbrev pub by_key : Preference → Data → Data → Ordering
by_key π a b = option_cmp key_cmp (key_of π a) (key_of π b)

-- Selections are compared by their names.
abbrev pub by_name : Preference → Data → Data → Data → Ordering
by_name π t a b = option_cmp name_cmp (name_of π t a) (name_of π t b)

-- ---- the report

-- The names and values of the canonical envelope, in the order of the names.
abbrev pub envelope_values : List (List ℕ × Data)
envelope_values =
    (codes "Format", string (codes "summary-contest")) ∷ (codes "GeneratedDate", string (codes "2000-01-01T00:00:00Z"))
    ∷ (codes "Issuer", string (codes "canonical")) ∷ (codes "IssuerAbbreviation", string (codes "canonical"))
    ∷ (codes "SequenceEnd", number (unsigned 1)) ∷ (codes "SequenceStart", number (unsigned 1)) ∷ (codes "VendorApplicationId", string (codes "canonical")) ∷ []

-- The members with those of the canonical envelope.
abbrev pub with_envelope : Members → Members
with_envelope ms = put_all envelope_values ms

-- The object with the canonical envelope.
abbrev pub in_envelope : Data → Data
in_envelope (object ms) = object (with_envelope ms)
in_envelope d = d
