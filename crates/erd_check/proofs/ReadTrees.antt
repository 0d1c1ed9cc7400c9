-- What is read from a text is a tree: members go in by `put`, and a number is kept as negative only below zero.
use Rattle.erd_check.proofs.Common.{◌≡◌, ℕ, zero, suc, ◌^◌, Bool, true, false, ◌&&◌, List, drop, pos, negsuc, neg_ℤ, IfSome, if◌then◌else◌, nat_lt, nat_le}
use Rattle.erd_check.proofs.Common.{◌==◌, slice_index, Some, None, Option, option_map, option_and_then, Ordering, Less, Equal, Greater, refl, ap, ◌∙◌, subst}
use Rattle.erd_check.proofs.Common.{nat_list_cmp_total, match_ordering, ordering_reverse, Num, unsigned, negative, float, Data, number, array, object, item}
use Rattle.erd_check.proofs.Common.{Members, no_members, member, put, is_integer, float_of, number_from, number_of, of_json, of_items, of_members, read}
use Rattle.erd_check.proofs.Common.{max_depth, text_cmp, IsBeforeFirst, IsNumber, IsTree, AreTrees, AreMembers}
use Rattle.std.specs.Float.{binary64, float_is_finite}
use Rattle.std.specs.Float.Numeral.{Parts, minus, scan_numeral, numeral_digits, nearest_float}
use Rattle.json.specs.Lex.{tokens}
use Rattle.json.specs.Json as json

-- ---- a value put at a name among the members of an object: their names still rise, and they are trees

-- a name before that of the value and that of the first member is before the first name then, by cases on how those two compare
before_put_at : (o : Ordering) (j k l : List ℕ) (v d : Data) (ms rest : Members) → text_cmp j k ≡ Less → text_cmp j l ≡ Less
    → IsBeforeFirst j (match_ordering o (member k v (member l d ms)) (member l v ms) (member l d rest))
before_put_at Less j k l v d ms rest first below = first
before_put_at e j k l v d ms rest first below = below

-- a name before all of the names, and before that of the value, is before the first name then
pub before_put : (j k : List ℕ) (v : Data) (ms : Members) → text_cmp j k ≡ Less → IsBeforeFirst j ms → IsBeforeFirst j (put k v ms)
before_put j k v no_members first below = first
before_put j k v (member l d ms) first below = before_put_at (text_cmp k l) j k l v d ms (put k v ms) first below

-- the members with the value, by cases on how its name compares with that of the first member
put-trees_at : (o : Ordering) (k l : List ℕ) (v d : Data) (ms : Members) → text_cmp k l ≡ o → AreMembers (member l d ms) → IsTree v → AreMembers (put k v ms)
    → AreMembers (match_ordering o (member k v (member l d ms)) (member l v ms) (member l d (put k v ms)))
put-trees_at Less k l v d ms is rise tree later = (is, tree, rise)
put-trees_at Equal k l v d ms is rise tree later = (rise.0, tree, rise.2)
put-trees_at Greater k l v d ms is rise tree later =
    let first : text_cmp l k ≡ Less = nat_list_cmp_total.antisymm l k ∙ ap ordering_reverse is in
    (before_put l k v ms first rise.0, rise.1, later)

-- members that are trees, with a tree put among them, are again
pub put-trees : (k : List ℕ) (v : Data) (ms : Members) → AreMembers ms → IsTree v → AreMembers (put k v ms)
put-trees k v no_members rise tree = (tt, tree, tt)
put-trees k v (member l d ms) rise tree = put-trees_at (text_cmp k l) k l v d ms refl rise tree (put-trees k v ms rise.2 tree)

-- ---- what is read

-- ---- options

-- one of two answers, each of which keeps what holds of a value
either_holds : {A : Type 0} (P : A → Type 0) (test : Bool) (x y : Option A) → IfSome x P → IfSome y P → IfSome (if test then x else y) P
either_holds P true x y p q = p
either_holds P false x y p q = q

-- a value under a function
mapped_holds : {A B : Type 0} (P : A → Type 0) (Q : B → Type 0) (f : A → B) (o : Option A) → ((a : A) → P a → Q (f a)) → IfSome o P → IfSome (option_map f o) Q
mapped_holds P Q f None each h = tt
mapped_holds P Q f (Some a) each h = each a h

-- what follows a value
then_holds : {A B : Type 0} (P : A → Type 0) (Q : B → Type 0) (f : A → Option B) (o : Option A) → ((a : A) → P a → IfSome (f a) Q) → IfSome o P
    → IfSome (option_and_then f o) Q
then_holds P Q f None each h = tt
then_holds P Q f (Some a) each h = each a h

-- ---- numbers

-- a number that is read as a float
float_of-number : (sign : Bool) (p : Parts) → IfSome (float_of sign p) IsNumber
float_of-number sign p = either_holds IsNumber (float_is_finite (nearest_float binary64 sign p)) (Some (float (nearest_float binary64 sign p))) None tt tt

-- a whole number with a minus is kept as negative only where it is not zero, so below zero
signed-number : (n : ℕ) (whole fits : Bool) (o : Option Num) → IfSome o IsNumber
    → IfSome (if whole && nat_lt 0 n && fits then Some (negative (neg_ℤ (pos n))) else o) IsNumber
signed-number zero true fits o h = h
signed-number zero false fits o h = h
signed-number (suc n) whole fits o h = either_holds IsNumber (whole && nat_lt 0 (suc n) && fits) (Some (negative (negsuc n))) o tt h

-- a numeral behind its sign
number_from-number : (sign : Bool) (p : Parts) → IfSome (number_from sign p) IsNumber
number_from-number true p = signed-number (numeral_digits p) (is_integer p) (nat_le (numeral_digits p) (2 ^ 63)) (float_of true p) (float_of-number true p)
number_from-number false p = either_holds IsNumber (is_integer p && nat_lt (numeral_digits p) (2 ^ 64)) (Some (unsigned (numeral_digits p))) (float_of false p)
    tt (float_of-number false p)

-- a numeral
number_of-number : (s : List ℕ) → IfSome (number_of s) IsNumber
unfolding number_of
number_of-number s =
    either_holds IsNumber (slice_index s 0 == minus) (number_from true (scan_numeral (drop 1 s))) (number_from false (scan_numeral s))
    (number_from-number true (scan_numeral (drop 1 s))) (number_from-number false (scan_numeral s))

-- ---- values

mutual
  -- a value, from what the grammar reads
  of_json-tree : (j : json.Json) → IfSome (of_json j) IsTree
  of_json-tree (json.number s) = mapped_holds IsNumber IsTree number (number_of s) (λ n h. h) (number_of-number s)
  of_json-tree (json.array js) = mapped_holds AreTrees IsTree array (of_items js) (λ ds trees. trees) (of_items-trees js)
  of_json-tree (json.object ms) = mapped_holds AreMembers IsTree object (of_members ms no_members) (λ found rise. rise) (of_members-trees ms no_members tt)
  of_json-tree d = tt

  -- the entries of an array
  of_items-trees : (js : json.Items) → IfSome (of_items js) AreTrees
  of_items-trees json.no_items = tt
  of_items-trees (json.item j js) =
      then_holds IsTree AreTrees (λ d. option_map (item d) (of_items js)) (of_json j)
      (λ d tree. mapped_holds AreTrees AreTrees (item d) (of_items js) (λ ds trees. (tree, trees)) (of_items-trees js)) (of_json-tree j)

  -- the members of an object, which go in among those found before them
  of_members-trees : (ms : json.Members) (found : Members) → AreMembers found → IfSome (of_members ms found) AreMembers
  of_members-trees json.no_members found rise = rise
  of_members-trees (json.member k j ms) found rise =
      then_holds IsTree AreMembers (λ d. of_members ms (put k d found)) (of_json j)
      (λ d tree. of_members-trees ms (put k d found) (put-trees k d found rise tree)) (of_json-tree j)

-- the value of what the grammar reads, if it reads anything
read-tree : (j : Option json.Json) → IfSome (option_and_then of_json j) IsTree
read-tree None = tt
read-tree (Some j) = of_json-tree j

-- what is read from a text is a tree
pub read_is_tree : (b : List ℕ) (t : Data) → read b ≡ Some t → IsTree t
read_is_tree b t is = subst (λ o. IfSome o IsTree) is (read-tree (option_and_then (λ p. json.if_last p.0 p.1) (json.value max_depth (tokens b))))
