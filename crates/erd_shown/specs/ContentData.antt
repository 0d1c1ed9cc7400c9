-- The order of a ballot as JSON, by keys and names. All of this is the profile's own.
use Rattle.std.specs.Prelude.{ℕ, List, Bool, true, false, if◌then◌else◌, Option, Some, None, option_and_then, map, codes}
use Rattle.std.specs.Str.{bytes_eq}
use Rattle.serde_json.specs.Data.{Data, array, object, Items, no_items, item, Members, no_members, member}
use Rattle.serde_json.specs.Find.{as_str}
use Rattle.erd_tables.specs.Table.{kind_of_member}
use Rattle.erd_tables.specs.declared.class.Class.{Class}
use Rattle.erd_tables.specs.declared.class.Family.TheVariants as family
use Rattle.erd_tables.specs.declared.member.MemberKind.{MemberKind}
use Rattle.erd_tables.specs.declared.member.MemberKind.TheVariants as kind
use Rattle.erd_check.specs.Values.{entries_at, text_at}
use Rattle.erd_meaning.specs.Keys.{Preference}
use Rattle.erd_meaning.specs.Records.{class_of_node, is_header_class}
use Rattle.erd_meaning.specs.SelectionNames.{key_named, name_named}
use Rattle.erd_shown.specs.KeyData.{array_of, shown_key_or_null, shown_name}

-- True if the class carries a member with this name.
abbrev pub is_carried_kind : MemberKind → Bool
is_carried_kind kind.Carried = true
is_carried_kind k = false

abbrev pub is_carried : Option Class → List ℕ → Bool
is_carried None name = false
is_carried (Some c) name = is_carried_kind (kind_of_member c name)

-- The carried members, in their order.
abbrev pub carried_in : Option Class → Members → Members
carried_in c no_members = no_members
carried_in c (member k d ms) = if is_carried c k then member k d (carried_in c ms) else carried_in c ms

-- The members of an object, or none.
abbrev pub members_in : Data → Members
members_in (object ms) = ms
members_in d = no_members

-- The object of the members that a contest or a header on a ballot carries.
abbrev pub carried_data : Data → Data
carried_data d = object (carried_in (class_of_node d) (members_in d))

-- The name of the selection that a reference names, as JSON.
abbrev pub shown_name_named : Preference → Data → Data → Data
shown_name_named π t r = shown_name (option_and_then (name_named π t) (as_str r))

-- A contest on a ballot: the members that it carries, its key, and the names of its selections in their order.
abbrev pub contest_data : Preference → Data → Data → Data
contest_data π t d =
    object (member (codes "carried") (carried_data d)
    (member (codes "contest") (shown_key_or_null (key_named π t family.Contest (text_at (codes "ContestId") d)))
    (member (codes "selections") (array_of (map (shown_name_named π t) (entries_at (codes "OrderedContestSelectionIds") d))) no_members)))

-- A header on a ballot: the members that it carries, what stands inside it, and its key.
abbrev pub header_data : Preference → Data → Data → Data → Data
header_data π t d inside =
    object (member (codes "carried") (carried_data d)
    (member (codes "content") inside
    (member (codes "header") (shown_key_or_null (key_named π t family.Header (text_at (codes "HeaderId") d))) no_members)))

-- A list of contests and headers, at every depth of headers.
abbrev mutual
  pub content_data : Preference → Data → Data → Data
  content_data π t (array ds) = array (nodes_data π t ds)
  content_data π t d = array no_items

  pub nodes_data : Preference → Data → Items → Items
  nodes_data π t no_items = no_items
  nodes_data π t (item d ds) = item (node_data π t d) (nodes_data π t ds)

  pub node_data : Preference → Data → Data → Data
  node_data π t (object ms) =
      if is_header_class (class_of_node (object ms))
      then header_data π t (object ms) (inside_data π t ms)
      else contest_data π t (object ms)
  node_data π t d = contest_data π t d

  pub inside_data : Preference → Data → Members → Data
  inside_data π t no_members = array no_items
  inside_data π t (member k d ms) = if bytes_eq (codes "OrderedContent") k then content_data π t d else inside_data π t ms
