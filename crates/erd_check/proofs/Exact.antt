-- Equality as JSON: trees that are equal as JSON are one tree.
use Rattle.erd_check.proofs.Common.{◌≡◌, ℕ, Bool, true, ◌&&◌, List, pos, negsuc, bytes_eq, refl, ap, ap₂, and_parts, bytes_eq-Decides, Num, unsigned, negative}
use Rattle.erd_check.proofs.Common.{float, Data, null, boolean, number, string, array, object, Items, no_items, item, Members, no_members, member, IsNumber}
use Rattle.erd_check.proofs.Common.{IsTree, AreTrees, AreMembers, same_flag, same_number, is_same_json, are_same_items, are_same_members, arith}
use Rattle.std.proofs.lemmas.Bool.Decides.{Decides-int_eq}

pub text_exact : (a b : List ℕ) → bytes_eq a b ≡ true → a ≡ b
text_exact a b e = (bytes_eq-Decides a b).0 e

pub text_itself : (a : List ℕ) → bytes_eq a a ≡ true
text_itself a = (bytes_eq-Decides a a).1 refl

pub flag_itself : (b : Bool) → same_flag b b ≡ true
flag_itself b = grind arith

pub same_flag_exact : (a b : Bool) → same_flag a b ≡ true → a ≡ b
same_flag_exact a b h = grind arith

same_number_exact : (m n : Num) → IsNumber m → IsNumber n → same_number m n ≡ true → m ≡ n
same_number_exact (unsigned m) (unsigned n) p q e = let h : pos m ≡ pos n = (Decides-int_eq (pos m) (pos n)).0 e in cc
same_number_exact (unsigned m) (negative (pos y)) p q e = absurd q
same_number_exact (unsigned m) (negative (negsuc y)) p q e = let h : pos m ≡ negsuc y = (Decides-int_eq (pos m) (negsuc y)).0 e in cc
same_number_exact (unsigned m) (float y) p q e = cc
same_number_exact (negative (pos x)) n p q e = absurd p
same_number_exact (negative (negsuc x)) (unsigned n) p q e = let h : negsuc x ≡ pos n = (Decides-int_eq (negsuc x) (pos n)).0 e in cc
same_number_exact (negative (negsuc x)) (negative y) p q e = ap negative ((Decides-int_eq (negsuc x) y).0 e)
same_number_exact (negative (negsuc x)) (float y) p q e = cc
same_number_exact (float x) n p q e = cc

mutual
  pub is_same_exact : (d e : Data) → IsTree d → IsTree e → is_same_json d e ≡ true → d ≡ e
  is_same_exact null null p q h = refl
  is_same_exact (boolean a) (boolean b) p q h = ap boolean (same_flag_exact a b h)
  is_same_exact (number m) (number n) p q h = ap number (same_number_exact m n p q h)
  is_same_exact (string a) (string b) p q h = ap string (text_exact a b h)
  is_same_exact (array ds) (array es) p q h = ap array (are_same_items_exact ds es p q h)
  is_same_exact (object ms) (object ns) p q h = ap object (are_same_members_exact ms ns p q h)
  is_same_exact _ _ p q h = cc

  pub are_same_items_exact : (ds es : Items) → AreTrees ds → AreTrees es → are_same_items ds es ≡ true → ds ≡ es
  are_same_items_exact no_items no_items p q h = refl
  are_same_items_exact (item d ds) (item e es) p q h =
      let b = and_parts (is_same_json d e) (are_same_items ds es) h in
      ap₂ item (is_same_exact d e p.0 q.0 b.0) (are_same_items_exact ds es p.1 q.1 b.1)
  are_same_items_exact _ _ p q h = cc

  pub are_same_members_exact : (ms ns : Members) → AreMembers ms → AreMembers ns → are_same_members ms ns ≡ true → ms ≡ ns
  are_same_members_exact no_members no_members p q h = refl
  are_same_members_exact (member k d ms) (member l e ns) p q h =
      let b = and_parts (bytes_eq k l) (is_same_json d e && are_same_members ms ns) h in
      let c = and_parts (is_same_json d e) (are_same_members ms ns) b.1 in
      let names = text_exact k l b.0 in
      let values = is_same_exact d e p.1 q.1 c.0 in
      let rest = are_same_members_exact ms ns p.2 q.2 c.1 in
      λ i. member (names i) (values i) (rest i)
  are_same_members_exact _ _ p q h = cc
