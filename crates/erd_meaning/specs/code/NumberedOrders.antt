-- The order of names with numbers in place of keys is total and tells unequal ones apart. It is the order of names if the
-- numbers are in the order of the keys.
use Rattle.std.proofs.Common.{◌≡◌, ℕ, List, [], ◌∷◌, map, true, Ordering, Less, Equal, Greater, nat_cmp, refl, sym, ap, ap₂, ◌∙◌, inl, inr}
use Rattle.std.specs.Cmp.{Equal-is, IsTotalOrder}
use Rattle.std.specs.Cmp.Lexicographic.{slice_cmp}
use Rattle.std.specs.Option.{option_cmp}
use Rattle.std.specs.Ordering.{bool_cmp, eq_by_cmp, int_cmp, ordering_then}
use Rattle.std.proofs.lemmas.Cmp.{nat_cmp_total, nat_list_cmp_total, lists_total, then_total, on_total}
use Rattle.std.proofs.lemmas.Map.Lookups.{CmpEqualImpliesEq, exact_unsigned}
use Rattle.erd_check.proofs.Order.{In}
use Rattle.erd_tables.proofs.PlaceOrder.{lists_exact, then_both}
use Rattle.erd_tables.specs.Classes.{class_name}
use Rattle.erd_tables.specs.Texts.{text_cmp}
use Rattle.erd_meaning.specs.Keys.{key_cmp}
use Rattle.erd_meaning.specs.NameParts.{NameParts}
use Rattle.erd_meaning.specs.SelectionNames.{class_cmp, name_cmp}
use Rattle.erd_meaning.specs.NumberedNames.{RankedParts, numbered_name_cmp, numbered_parts, without_keys}
use Rattle.erd_meaning.specs.code.Orders.{name_cmp_exact, name_cmp_total}
use Rattle.erd_meaning.specs.declared.keys.key.Key.{Key}

pub numbered_name_cmp_total : IsTotalOrder numbered_name_cmp
numbered_name_cmp_total =
    then_total (on_total (λ n. n.name.class) (on_total class_name nat_list_cmp_total))
    (then_total (on_total (λ n. n.ranks) (lists_total nat_cmp_total)) (on_total (λ n. n.name) name_cmp_total))

pub numbered_name_cmp_exact : CmpEqualImpliesEq numbered_name_cmp
numbered_name_cmp_exact a b e =
    let later = then_both (class_cmp a.name.class b.name.class) _ e in
    let parts = then_both (slice_cmp nat_cmp a.ranks b.ranks) (name_cmp a.name b.name) later.1 in
    let ranks = lists_exact nat_cmp exact_unsigned a.ranks b.ranks parts.0 in
    let name = name_cmp_exact a.name b.name parts.1 in
    λ i. record { name = name i; ranks = ranks i }

-- what is made of such a name is the same of an equal one
pub equal_numbered_alike : {B : Type 0} (f : RankedParts → B) (a b : RankedParts) → eq_by_cmp numbered_name_cmp a b ≡ true → f a ≡ f b
equal_numbered_alike f a b e = ap f (numbered_name_cmp_exact a b ((Equal-is (numbered_name_cmp a b)).0 e))

-- How the parts of two names compare that come after the keys.
abbrev pub after_keys_cmp : NameParts → NameParts → Ordering
after_keys_cmp a b =
    ordering_then (bool_cmp a.write_in b.write_in)
    (ordering_then (option_cmp int_cmp a.order b.order)
    (ordering_then (option_cmp text_cmp a.label b.label)
    (option_cmp key_cmp a.identifier b.identifier)))

-- names without keys are told apart by the parts after the keys if their classes are equal
pub by_later_parts : (m n : NameParts) (numbers : Ordering) → ordering_then (class_cmp m.class n.class) (ordering_then numbers (after_keys_cmp m n))
    ≡ ordering_then (class_cmp m.class n.class) (ordering_then numbers (name_cmp (without_keys m) (without_keys n)))
by_later_parts m n numbers = at (class_cmp m.class n.class) refl
  where
    at : (o : Ordering) → class_cmp m.class n.class ≡ o
        → ordering_then o (ordering_then numbers (after_keys_cmp m n)) ≡ ordering_then o (ordering_then numbers (name_cmp (without_keys m) (without_keys n)))
    at Less is = refl
    at Equal is = ap (ordering_then numbers) (sym (ap (λ o. ordering_then o (after_keys_cmp m n)) is))
    at Greater is = refl

-- numbers in the order of keys compare as the keys do
pub numbers_as_keys : (number : Key → ℕ) (ks ls : List Key) → ((k l : Key) → In k ks → In l ls → nat_cmp (number k) (number l) ≡ key_cmp k l)
    → slice_cmp nat_cmp (map number ks) (map number ls) ≡ slice_cmp key_cmp ks ls
numbers_as_keys number [] [] same = refl
numbers_as_keys number [] (l ∷ ls) same = refl
numbers_as_keys number (k ∷ ks) [] same = refl
numbers_as_keys number (k ∷ ks) (l ∷ ls) same =
    ap₂ ordering_then (same k l (inl refl) (inl refl)) (numbers_as_keys number ks ls (λ x y i j. same x y (inr i) (inr j)))

-- so names compare as before, if the numbers do as the keys wherever the classes are equal
pub numbered_as_named : (m n : NameParts) (ks ls : List ℕ) → (class_cmp m.class n.class ≡ Equal → slice_cmp nat_cmp ks ls ≡ slice_cmp key_cmp m.keys n.keys)
    → numbered_name_cmp (numbered_parts m ks) (numbered_parts n ls) ≡ name_cmp m n
numbered_as_named m n ks ls same = sym (by_later_parts m n (slice_cmp nat_cmp ks ls)) ∙ at (class_cmp m.class n.class) refl
  where
    at : (o : Ordering) → class_cmp m.class n.class ≡ o → ordering_then o (ordering_then (slice_cmp nat_cmp ks ls) (after_keys_cmp m n))
        ≡ ordering_then o (ordering_then (slice_cmp key_cmp m.keys n.keys) (after_keys_cmp m n))
    at Less is = refl
    at Equal is = ap (λ o. ordering_then o (after_keys_cmp m n)) (same is)
    at Greater is = refl
