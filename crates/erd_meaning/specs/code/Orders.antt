-- The orders of keys and names are total, and tell unequal ones apart.
use Rattle.std.proofs.Common.{◌≡◌, ℕ, List, Option, Some, None, true, false, Ordering, is_eq, int_cmp, refl, sym, ap, ◌∙◌, find}
use Rattle.std.specs.Cmp.{Equal-is, IsTotalOrder, bool_cmp_total}
use Rattle.std.specs.Cmp.Lexicographic.{slice_cmp, options_total}
use Rattle.std.specs.Option.{option_cmp}
use Rattle.std.specs.Ordering.{bool_cmp, eq_by_cmp, ordering_then}
use Rattle.std.proofs.lemmas.Cmp.{nat_list_cmp_total, int_cmp_total, lists_total, then_total, on_total}
use Rattle.std.proofs.lemmas.Map.Lookups.{CmpEqualImpliesEq, exact_bytes, exact_signed}
use Rattle.erd_tables.specs.declared.class.Class.{Class}
use Rattle.erd_tables.specs.Classes.{class_name, classes}
use Rattle.erd_tables.specs.Texts.{text_cmp}
use Rattle.erd_tables.proofs.PlaceOrder.{lists_exact, then_both}
use Rattle.erd_tables.specs.declared.class.Class.TheVariants as class
use Rattle.erd_meaning.specs.NameParts.{NameParts}
use Rattle.erd_meaning.specs.SelectionNames.{class_cmp, name_cmp}
use Rattle.erd_meaning.specs.Keys.{key_cmp}
use Rattle.erd_meaning.specs.declared.keys.key.Key.{Key}

pub key_cmp_total : IsTotalOrder key_cmp
key_cmp_total = then_total (on_total (λ k. k.kind) nat_list_cmp_total)
    (then_total (on_total (λ k. k.other) nat_list_cmp_total) (on_total (λ k. k.value) nat_list_cmp_total))

pub key_cmp_exact : CmpEqualImpliesEq key_cmp
key_cmp_exact k l e =
    let a = then_both (text_cmp k.kind l.kind) (ordering_then (text_cmp k.other l.other) (text_cmp k.value l.value)) e in
    let b = then_both (text_cmp k.other l.other) (text_cmp k.value l.value) a.1 in
    let c = exact_bytes k.kind l.kind a.0 in
    let d = exact_bytes k.other l.other b.0 in
    let f = exact_bytes k.value l.value b.1 in
    λ i. record { kind = c i; other = d i; value = f i }

options_exact : {A : Type 0} (cmp : A → A → Ordering) → CmpEqualImpliesEq cmp → CmpEqualImpliesEq (option_cmp cmp)
options_exact cmp exact None None e = refl
options_exact cmp exact None (Some y) e = cc
options_exact cmp exact (Some x) None e = cc
options_exact cmp exact (Some x) (Some y) e = ap Some (exact x y e)

flags_exact : CmpEqualImpliesEq bool_cmp
flags_exact true true e = refl
flags_exact true false e = cc
flags_exact false true e = cc
flags_exact false false e = refl

-- the class of a name
class_of_name : List ℕ → Option Class
class_of_name s = find (λ c. is_eq (text_cmp s (class_name c))) classes

class_of_name-own : (c : Class) → class_of_name (class_name c) ≡ Some c
unfolding class_of_name
class_of_name-own class.ElectionReport = refl
class_of_name-own c = refl

class_name_exact : (c d : Class) → class_name c ≡ class_name d → c ≡ d
class_name_exact c d e = let h : Some c ≡ Some d = sym (class_of_name-own c) ∙ ap class_of_name e ∙ class_of_name-own d in cc

pub classes_exact : CmpEqualImpliesEq class_cmp
classes_exact c d e = class_name_exact c d (exact_bytes (class_name c) (class_name d) e)

pub name_cmp_total : IsTotalOrder name_cmp
name_cmp_total =
    then_total (on_total (λ n. n.class) (on_total class_name nat_list_cmp_total))
    (then_total (on_total (λ n. n.keys) (lists_total key_cmp_total))
    (then_total (on_total (λ n. n.write_in) bool_cmp_total)
    (then_total (on_total (λ n. n.order) (options_total int_cmp_total))
    (then_total (on_total (λ n. n.label) (options_total nat_list_cmp_total))
    (on_total (λ n. n.identifier) (options_total key_cmp_total))))))

pub name_cmp_exact : CmpEqualImpliesEq name_cmp
name_cmp_exact m n e =
    let a = then_both (class_cmp m.class n.class) _ e in
    let b = then_both (slice_cmp key_cmp m.keys n.keys) _ a.1 in
    let c = then_both (bool_cmp m.write_in n.write_in) _ b.1 in
    let d = then_both (option_cmp int_cmp m.order n.order) _ c.1 in
    let f = then_both (option_cmp text_cmp m.label n.label) _ d.1 in
    let class_same = classes_exact m.class n.class a.0 in
    let keys_same = lists_exact key_cmp key_cmp_exact m.keys n.keys b.0 in
    let write_in_same = flags_exact m.write_in n.write_in c.0 in
    let order_same = options_exact int_cmp exact_signed m.order n.order d.0 in
    let label_same = options_exact text_cmp exact_bytes m.label n.label f.0 in
    let identifier_same = options_exact key_cmp key_cmp_exact m.identifier n.identifier f.1 in
    λ i. record {
      class = class_same i;
      keys = keys_same i;
      write_in = write_in_same i;
      order = order_same i;
      label = label_same i;
      identifier = identifier_same i;
    }

-- what is made of a key is the same of an equal one
pub equal_keys_alike : {B : Type 0} (f : Key → B) (k l : Key) → eq_by_cmp key_cmp k l ≡ true → f k ≡ f l
equal_keys_alike f k l e = ap f (key_cmp_exact k l ((Equal-is (key_cmp k l)).0 e))

-- what is made of a name is the same of an equal one
pub equal_names_alike : {B : Type 0} (f : NameParts → B) (m n : NameParts) → eq_by_cmp name_cmp m n ≡ true → f m ≡ f n
equal_names_alike f m n e = ap f (name_cmp_exact m n ((Equal-is (name_cmp m n)).0 e))
