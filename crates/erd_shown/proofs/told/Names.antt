-- Names of selections are written alike if and only if they are equal.
use Rattle.erd_text.proofs.Common.{⊤, ◌≡◌, ℕ, true, List, map, Some, None, Option, sym, refl, ap, ◌∙◌, Data, null, pos, negsuc, Class, class}
use Rattle.std.specs.Prelude.{ℤ}
use Rattle.serde_json.specs.Data.{number, unsigned, negative}
use Rattle.erd_tables.specs.Classes.{class_of_text, text_of_class}
use Rattle.erd_meaning.specs.NameParts.{NameParts}
use Rattle.erd_meaning.specs.declared.keys.key.Key.{Key}
use Rattle.erd_shown.proofs.told.Sets.{array_exact, key_exact, map_exact}
use Rattle.erd_shown.specs.KeyData.{array_of, shown_key, shown_key_or_null, shown_text_or_null, shown_name, shown_order, shown_whole}
use Rattle.erd_shown.specs.code.Fitting.{HasFittingOrder, fits_word}

class_own : (c : Class) → class_of_text (text_of_class c) ≡ Some c
class_own class.ElectionReport = refl
class_own c = refl

pub class_exact : (c d : Class) → text_of_class c ≡ text_of_class d → c ≡ d
class_exact c d e = let h : Some c ≡ Some d = sym (class_own c) ∙ ap class_of_text e ∙ class_own d in cc

pub keys_exact : (k l : Option Key) → shown_key_or_null k ≡ shown_key_or_null l → k ≡ l
keys_exact None None e = refl
keys_exact None (Some l) e = cc
keys_exact (Some k) None e = cc
keys_exact (Some k) (Some l) e = ap Some (key_exact k l e)

texts_exact : (o p : Option (List ℕ)) → shown_text_or_null o ≡ shown_text_or_null p → o ≡ p
texts_exact None None e = refl
texts_exact None (Some l) e = cc
texts_exact (Some k) None e = cc
texts_exact (Some k) (Some l) e = let same : k ≡ l = cc in ap Some same

-- a number that fits is written as a number
abbrev pub whole_number : ℤ → Data
whole_number (pos n) = number (unsigned n)
whole_number (negsuc n) = number (negative (negsuc n))

fitting : (z : ℤ) → fits_word z ≡ true → shown_whole z ≡ whole_number z
fitting (pos n) e = rw e
fitting (negsuc n) e = rw e

numbers_exact : (y z : ℤ) → whole_number y ≡ whole_number z → y ≡ z
numbers_exact (pos m) (pos n) e = let same : m ≡ n = cc in ap pos same
numbers_exact (pos m) (negsuc n) e = cc
numbers_exact (negsuc m) (pos n) e = cc
numbers_exact (negsuc m) (negsuc n) e = let same : m ≡ n = cc in ap negsuc same

not_null : (z : ℤ) → null ≡ whole_number z → ⊥
not_null (pos n) e = cc
not_null (negsuc n) e = cc

orders_exact : (o p : Option ℤ) → HasFittingOrder o → HasFittingOrder p → shown_order o ≡ shown_order p → o ≡ p
orders_exact None None g h e = refl
orders_exact None (Some z) g h e = absurd (not_null z (e ∙ fitting z h))
orders_exact (Some y) None g h e = absurd (not_null y (sym e ∙ fitting y g))
orders_exact (Some y) (Some z) g h e = ap Some (numbers_exact y z (sym (fitting y g) ∙ e ∙ fitting z h))

-- the order in a name fits
abbrev pub Fits : Option NameParts → Type 0
Fits None = ⊤
Fits (Some n) = HasFittingOrder n.order

pub names_exact : (m n : Option NameParts) → Fits m → Fits n → shown_name m ≡ shown_name n → m ≡ n
names_exact None None g h e = refl
names_exact None (Some n) g h e = cc
names_exact (Some m) None g h e = cc
names_exact (Some m) (Some n) g h e =
    let classes : text_of_class m.class ≡ text_of_class n.class = cc in
    let keys : array_of (map shown_key m.keys) ≡ array_of (map shown_key n.keys) = cc in
    let flags : m.write_in ≡ n.write_in = cc in
    let orders : shown_order m.order ≡ shown_order n.order = cc in
    let labels : shown_text_or_null m.label ≡ shown_text_or_null n.label = cc in
    let identifiers : shown_key_or_null m.identifier ≡ shown_key_or_null n.identifier = cc in
    let class_same = class_exact m.class n.class classes in
    let keys_same = map_exact shown_key key_exact m.keys n.keys (array_exact _ _ keys) in
    let order_same = orders_exact m.order n.order g h orders in
    let label_same = texts_exact m.label n.label labels in
    let identifier_same = keys_exact m.identifier n.identifier identifiers in
    λ i. Some
    (record { class = class_same i; keys = keys_same i; write_in = flags i; order = order_same i; label = label_same i; identifier = identifier_same i })
