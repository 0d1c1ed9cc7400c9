-- An order of JSON values, used to find a value among others. It says nothing about what values mean.
use Rattle.std.specs.Prelude.{ℕ}
use Rattle.std.specs.Option.{option_cmp}
use Rattle.std.specs.Ordering.{bool_cmp, int_cmp, nat_cmp, ordering_then}
use Rattle.std.specs.declared.cmp.Ordering.{Ordering}
use Rattle.std.specs.declared.cmp.Ordering.TheVariants.{Less, Equal, Greater}
use Rattle.serde_json.specs.Data.{Num, Data, null, boolean, number, string, array, object, Items, no_items, item, Members, no_members, member}
use Rattle.serde_json.specs.Find.{as_integer}
use Rattle.erd_tables.specs.Texts.{text_cmp}

-- The position of the value's kind in the order of kinds.
abbrev pub kind_number : Data → ℕ
kind_number null = 0
kind_number (boolean b) = 1
kind_number (number n) = 2
kind_number (string s) = 3
kind_number (array ds) = 4
kind_number (object ms) = 5

-- Numbers are compared by value. Those that are not whole come first, and are tied.
abbrev pub number_cmp : Num → Num → Ordering
number_cmp m n = option_cmp int_cmp (as_integer m) (as_integer n)

-- Values are compared by kind, and then by what they contain.
abbrev mutual
  pub json_cmp : Data → Data → Ordering
  json_cmp (boolean a) (boolean b) = bool_cmp a b
  json_cmp (number m) (number n) = number_cmp m n
  json_cmp (string a) (string b) = text_cmp a b
  json_cmp (array ds) (array es) = items_cmp ds es
  json_cmp (object ms) (object ns) = members_cmp ms ns
  json_cmp d e = nat_cmp (kind_number d) (kind_number e)

  -- Arrays are compared entry by entry.
  pub items_cmp : Items → Items → Ordering
  items_cmp no_items no_items = Equal
  items_cmp no_items (item e es) = Less
  items_cmp (item d ds) no_items = Greater
  items_cmp (item d ds) (item e es) = ordering_then (json_cmp d e) (items_cmp ds es)

  -- Objects are compared member by member, and in each member the name before the value.
  pub members_cmp : Members → Members → Ordering
  members_cmp no_members no_members = Equal
  members_cmp no_members (member l e ns) = Less
  members_cmp (member k d ms) no_members = Greater
  members_cmp (member k d ms) (member l e ns) = ordering_then (text_cmp k l) (ordering_then (json_cmp d e) (members_cmp ms ns))
