-- Values that are equal as JSON are those that are tied in the order of JSON values and equal to themselves.
use Rattle.erd_check.proofs.Common.{◌≡◌, ℕ, Bool, true, ◌&&◌, List, ℤ, Some, Option, bytes_eq, int_cmp, is_eq, Ordering, Equal, sym, refl, ap, ◌∙◌, subst}
use Rattle.erd_check.proofs.Common.{and_parts, and_from, tied_itself, tied_back, int_cmp_total, nat_list_cmp_total, exact_bytes, Equal-is, option_cmp, bool_cmp}
use Rattle.erd_check.proofs.Common.{ordering_then, Data, null, boolean, number, string, array, object, Items, no_items, item, Members, no_members, member}
use Rattle.erd_check.proofs.Common.{as_integer, then_both, text_cmp, same_flag, same_whole, is_same_json, are_same_items, are_same_members, json_cmp, items_cmp}
use Rattle.erd_check.proofs.Common.{members_cmp, arith}
use Rattle.erd_check.specs.code.JsonOrders.{json_cmp_total}
use Rattle.erd_check.proofs.Exact.{text_exact, text_itself, flag_itself}

-- ---- parts

flags_tied : (a b : Bool) → same_flag a b ≡ true → bool_cmp a b ≡ Equal
flags_tied a b h = grind arith

tied_flags : (a b : Bool) → bool_cmp a b ≡ Equal → same_flag a b ≡ true
tied_flags a b h = grind arith

whole_tied : (m n : Option ℤ) → same_whole m n ≡ true → option_cmp int_cmp m n ≡ Equal
whole_tied (Some m) (Some n) e = (Equal-is (int_cmp m n)).0 e
whole_tied m n e = cc

tied_whole : (m n : Option ℤ) → option_cmp int_cmp m n ≡ Equal → same_whole m m ≡ true → same_whole m n ≡ true
tied_whole (Some m) (Some n) e own = ap is_eq e
tied_whole m n e own = cc

whole_itself : (m n : Option ℤ) → same_whole m n ≡ true → same_whole m m ≡ true
whole_itself (Some m) (Some n) e = ap is_eq (tied_itself int_cmp_total m)
whole_itself m n e = cc

texts_tied : (a b : List ℕ) → bytes_eq a b ≡ true → text_cmp a b ≡ Equal
texts_tied a b e = subst (λ s. text_cmp a s ≡ Equal) (text_exact a b e) (tied_itself nat_list_cmp_total a)

tied_texts : (a b : List ℕ) → text_cmp a b ≡ Equal → bytes_eq a b ≡ true
tied_texts a b e = subst (λ s. bytes_eq a s ≡ true) (exact_bytes a b e) (text_itself a)

then_tied : (a b : Ordering) → a ≡ Equal → b ≡ Equal → ordering_then a b ≡ Equal
then_tied a b first second = rw first second

-- ---- equal values are tied

mutual
  pub same_tied : (d e : Data) → is_same_json d e ≡ true → json_cmp d e ≡ Equal
  same_tied null null h = refl
  same_tied (boolean a) (boolean b) h = flags_tied a b h
  same_tied (number m) (number n) h = whole_tied (as_integer m) (as_integer n) h
  same_tied (string a) (string b) h = texts_tied a b h
  same_tied (array ds) (array es) h = items_tied ds es h
  same_tied (object ms) (object ns) h = members_tied ms ns h
  same_tied d e h = cc

  items_tied : (ds es : Items) → are_same_items ds es ≡ true → items_cmp ds es ≡ Equal
  items_tied no_items no_items h = refl
  items_tied (item d ds) (item e es) h =
      let both = and_parts (is_same_json d e) (are_same_items ds es) h in
      then_tied (json_cmp d e) (items_cmp ds es) (same_tied d e both.0) (items_tied ds es both.1)
  items_tied ds es h = cc

  members_tied : (ms ns : Members) → are_same_members ms ns ≡ true → members_cmp ms ns ≡ Equal
  members_tied no_members no_members h = refl
  members_tied (member k d ms) (member l e ns) h =
      let first = and_parts (bytes_eq k l) (is_same_json d e && are_same_members ms ns) h in
      let both = and_parts (is_same_json d e) (are_same_members ms ns) first.1 in
      then_tied (text_cmp k l) (ordering_then (json_cmp d e) (members_cmp ms ns)) (texts_tied k l first.0)
      (then_tied (json_cmp d e) (members_cmp ms ns) (same_tied d e both.0) (members_tied ms ns both.1))
  members_tied ms ns h = cc

-- ---- a value that is equal to another is equal to itself

mutual
  pub same_itself : (d e : Data) → is_same_json d e ≡ true → is_same_json d d ≡ true
  same_itself null e h = refl
  same_itself (boolean a) e h = flag_itself a
  same_itself (number m) (number n) h = whole_itself (as_integer m) (as_integer n) h
  same_itself (string a) e h = text_itself a
  same_itself (array ds) (array es) h = items_themselves ds es h
  same_itself (object ms) (object ns) h = members_themselves ms ns h
  same_itself d e h = cc

  items_themselves : (ds es : Items) → are_same_items ds es ≡ true → are_same_items ds ds ≡ true
  items_themselves no_items es h = refl
  items_themselves (item d ds) no_items h = cc
  items_themselves (item d ds) (item e es) h =
      let both = and_parts (is_same_json d e) (are_same_items ds es) h in
      and_from (is_same_json d d) (are_same_items ds ds) (same_itself d e both.0) (items_themselves ds es both.1)

  members_themselves : (ms ns : Members) → are_same_members ms ns ≡ true → are_same_members ms ms ≡ true
  members_themselves no_members ns h = refl
  members_themselves (member k d ms) no_members h = cc
  members_themselves (member k d ms) (member l e ns) h =
      let first = and_parts (bytes_eq k l) (is_same_json d e && are_same_members ms ns) h in
      let both = and_parts (is_same_json d e) (are_same_members ms ns) first.1 in
      and_from (bytes_eq k k) _ (text_itself k) (and_from (is_same_json d d) (are_same_members ms ms) (same_itself d e both.0)
      (members_themselves ms ns both.1))

-- ---- and to what it is tied with

mutual
  pub tied_same : (d e : Data) → json_cmp d e ≡ Equal → is_same_json d d ≡ true → is_same_json d e ≡ true
  tied_same null null h own = refl
  tied_same (boolean a) (boolean b) h own = tied_flags a b h
  tied_same (number m) (number n) h own = tied_whole (as_integer m) (as_integer n) h own
  tied_same (string a) (string b) h own = tied_texts a b h
  tied_same (array ds) (array es) h own = tied_items ds es h own
  tied_same (object ms) (object ns) h own = tied_members ms ns h own
  tied_same d e h own = cc

  tied_items : (ds es : Items) → items_cmp ds es ≡ Equal → are_same_items ds ds ≡ true → are_same_items ds es ≡ true
  tied_items no_items no_items h own = refl
  tied_items (item d ds) (item e es) h own =
      let tied = then_both (json_cmp d e) (items_cmp ds es) h in
      let both = and_parts (is_same_json d d) (are_same_items ds ds) own in
      and_from (is_same_json d e) (are_same_items ds es) (tied_same d e tied.0 both.0) (tied_items ds es tied.1 both.1)
  tied_items ds es h own = cc

  tied_members : (ms ns : Members) → members_cmp ms ns ≡ Equal → are_same_members ms ms ≡ true → are_same_members ms ns ≡ true
  tied_members no_members no_members h own = refl
  tied_members (member k d ms) (member l e ns) h own =
      let name = then_both (text_cmp k l) (ordering_then (json_cmp d e) (members_cmp ms ns)) h in
      let tied = then_both (json_cmp d e) (members_cmp ms ns) name.1 in
      let first = and_parts (bytes_eq k k) (is_same_json d d && are_same_members ms ms) own in
      let both = and_parts (is_same_json d d) (are_same_members ms ms) first.1 in
      and_from (bytes_eq k l) _ (tied_texts k l name.0) (and_from (is_same_json d e) (are_same_members ms ns) (tied_same d e tied.0 both.0)
      (tied_members ms ns tied.1 both.1))
  tied_members ms ns h own = cc

-- a value that is equal to one of two tied values is equal to the other
pub same_as_tied : (d e f : Data) → json_cmp e f ≡ Equal → is_same_json d e ≡ true → is_same_json d f ≡ true
same_as_tied d e f tied h =
    tied_same d f (sym (json_cmp_total.congr e d f (tied_back json_cmp_total d e (same_tied d e h))) ∙ tied) (same_itself d e h)
