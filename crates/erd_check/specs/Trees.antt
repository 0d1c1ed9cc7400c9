-- Trees: JSON values (RFC 8259) as `serde_json` reads them, and when two are equal.
use Rattle.std.specs.Prelude.{◌≡◌, ◌≤◌, ℕ, ℤ, pos, List, Bool, true, false, not, ◌&&◌, Option, Some, None, ⊤}
use Rattle.std.specs.Ordering.{int_eq}
use Rattle.std.specs.Str.{bytes_eq}
use Rattle.std.specs.declared.cmp.Ordering.TheVariants.{Less}
use Rattle.serde_json.specs.Data.{Num, negative, Data, null, boolean, number, string, array, object, Items, no_items, item, Members, no_members, member, depth}
use Rattle.serde_json.specs.Find.{as_integer}
use Rattle.serde_json.specs.Read.{max_depth}
use Rattle.erd_tables.specs.Texts.{text_cmp}

-- ---- trees

-- The name comes before the name of the first member, if there is a first member.
abbrev pub IsBeforeFirst : List ℕ → Members → Type 0
IsBeforeFirst k no_members = ⊤
IsBeforeFirst k (member l d ms) = text_cmp k l ≡ Less

-- A number that is kept as a negative one is below zero.
abbrev pub IsNumber : Num → Type 0
IsNumber (negative (pos n)) = ⊥
IsNumber n = ⊤

-- At every depth, the names of each object strictly rise, so that no name stands twice (RFC 8259, section 4), and each
-- number that is kept as a negative one is below zero.
abbrev mutual
  pub IsTree : Data → Type 0
  IsTree null = ⊤
  IsTree (boolean b) = ⊤
  IsTree (number n) = IsNumber n
  IsTree (string s) = ⊤
  IsTree (array ds) = AreTrees ds
  IsTree (object ms) = AreMembers ms

  -- Each entry of the array is a tree.
  pub AreTrees : Items → Type 0
  AreTrees no_items = ⊤
  AreTrees (item d ds) = IsTree d × AreTrees ds

  -- The names of the members strictly rise, and each value is a tree.
  pub AreMembers : Members → Type 0
  AreMembers no_members = ⊤
  AreMembers (member k d ms) = IsBeforeFirst k ms × IsTree d × AreMembers ms

-- Arrays and objects are nested at most 127 deep, which is as deep as `serde_json` reads.
abbrev pub IsShallow : Data → Type 0
IsShallow t = depth t ≤ max_depth

-- The first value is nested no deeper than the second.
abbrev pub IsNoDeeper : Data → Data → Type 0
IsNoDeeper t u = depth t ≤ depth u

-- ---- equality as JSON

-- True if the two truth values are equal.
abbrev pub same_flag : Bool → Bool → Bool
same_flag true b = b
same_flag false b = not b

-- True if both numbers are whole and they are equal.
abbrev pub same_whole : Option ℤ → Option ℤ → Bool
same_whole None n = false
same_whole (Some m) None = false
same_whole (Some m) (Some n) = int_eq m n

-- True if both numbers are whole and equal. A number that is not whole equals no number, not even itself. (profile)
abbrev pub same_number : Num → Num → Bool
same_number m n = same_whole (as_integer m) (as_integer n)

-- True if the two values are equal as JSON: built alike, with equal texts and equal whole numbers.
abbrev mutual
  pub is_same_json : Data → Data → Bool
  is_same_json null null = true
  is_same_json (boolean a) (boolean b) = same_flag a b
  is_same_json (number m) (number n) = same_number m n
  is_same_json (string a) (string b) = bytes_eq a b
  is_same_json (array ds) (array es) = are_same_items ds es
  is_same_json (object ms) (object ns) = are_same_members ms ns
  is_same_json d e = false

  -- True if the two arrays have equal entries at equal positions.
  pub are_same_items : Items → Items → Bool
  are_same_items no_items no_items = true
  are_same_items (item d ds) (item e es) = is_same_json d e && are_same_items ds es
  are_same_items ds es = false

  -- True if the two objects have equal names with equal values, pair by pair. In a tree, the names of both rise.
  pub are_same_members : Members → Members → Bool
  are_same_members no_members no_members = true
  are_same_members (member k d ms) (member l e ns) = bytes_eq k l && (is_same_json d e && are_same_members ms ns)
  are_same_members ms ns = false
