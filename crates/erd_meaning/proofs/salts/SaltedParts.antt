-- What is written of each part of a report tells where it ends, so the bytes of all tell all parts.
use Rattle.std.proofs.Common.{◌≤◌, ◌+◌, ◌*◌, Bool, cond, is_some, true≢false, ◌≡◌, ◌<◌, ◌^◌, ◌-◌, ℕ, suc, pos, negsuc, List, [], ◌∷◌, ◌++◌, true, false, Option}
use Rattle.std.proofs.Common.{Some, None, IfSome, flat_map, refl, sym, ap, ◌∙◌, arith}
use Rattle.std.specs.Hash.{HashWrites, i64, le_bytes, u64, usize}
use Rattle.std.specs.List.{AllByRecursion}
use Rattle.serde_json.specs.Data.{unsigned, negative, float, Data, null, boolean, number, string, array, object, no_items, item, no_members, member}
use Rattle.erd_index.specs.Salts.{bytes_in, text_writes}
use Rattle.erd_index.proofs.SaltedTexts.{bytes_after, no_text, text_ends, word_ends}
use Rattle.erd_tables.specs.Classes.{family_number}
use Rattle.erd_tables.specs.declared.class.Family.{Family}
use Rattle.erd_tables.specs.declared.class.Family.TheVariants as family
use Rattle.std.proofs.lemmas.Bool.Decides.{Decides-eqb}
use Rattle.std.proofs.lemmas.Grind.{flat_map-append}
use Rattle.erd_meaning.proofs.identity.ObjectFamilies.{family_exact}
use Rattle.erd_meaning.specs.SaltWrites.{Hashed, value_writes, items_writes, members_writes, option_writes, triple_writes, hashed_writes, hashed_number}
use Rattle.erd_meaning.specs.SaltWrites.{parts_number, FitsText, FitsValue, FitsItems, FitsMembers, FitsKey, FitsHashed}

-- Two values that are written before something, and written alike, are equal.
abbrev Ends : {T : Type 0} → (T → Type 0) → (T → HashWrites) → Type 0
Ends {T} Fits writes = (x y : T) (us vs : List ℕ) → Fits x → Fits y → bytes_in (writes x) ++ us ≡ bytes_in (writes y) ++ vs → (x ≡ y) × (us ≡ vs)

-- Two words that begin what is written.
begins : (m n : ℕ) (ws xs : HashWrites) (us vs : List ℕ) → m < 2 ^ 64 → n < 2 ^ 64 → bytes_in (u64 m ++ ws) ++ us ≡ bytes_in (u64 n ++ xs) ++ vs
    → (m ≡ n) × (bytes_in ws ++ us ≡ bytes_in xs ++ vs)
begins m n ws xs us vs p q same = word_ends m n (bytes_in ws ++ us) (bytes_in xs ++ vs) p q (sym (bytes_after (u64 m) ws us) ∙ same ∙ bytes_after (u64 n) xs vs)

-- ---- optional values and keys

option_ends : {T : Type 0} (Fits : T → Type 0) (writes : T → HashWrites) → Ends Fits writes
    → (x y : Option T) (us vs : List ℕ) → is_some x ≡ is_some y → IfSome x Fits → IfSome y Fits
    → bytes_in (option_writes writes x) ++ us ≡ bytes_in (option_writes writes y) ++ vs → (x ≡ y) × (us ≡ vs)
option_ends Fits writes ends None None us vs both p q same = (refl, same)
option_ends Fits writes ends None (Some y) us vs both p q same = absurd (true≢false (sym both))
option_ends Fits writes ends (Some x) None us vs both p q same = absurd (true≢false both)
option_ends Fits writes ends (Some x) (Some y) us vs both p q same = let rest = ends x y us vs p q same in (ap Some rest.0, rest.1)

-- Two pairs of parts.
both_end : {S T : Type 0} (FitsS : S → Type 0) (FitsT : T → Type 0) (F : S → HashWrites) (G : T → HashWrites) → Ends FitsS F → Ends FitsT G
    → (a b : S) (x y : T) (us vs : List ℕ) → FitsS a → FitsS b → FitsT x → FitsT y → bytes_in (F a ++ G x) ++ us ≡ bytes_in (F b ++ G y) ++ vs
    → (a ≡ b) × (x ≡ y) × (us ≡ vs)
both_end FitsS FitsT F G first second a b x y us vs p q r s same =
    let one = first a b (bytes_in (G x) ++ us) (bytes_in (G y) ++ vs) p q (sym (bytes_after (F a) (G x) us) ∙ same ∙ bytes_after (F b) (G y) vs) in
    let other = second x y us vs r s one.1 in
    (one.0, other.0, other.1)

triple_ends : Ends FitsKey triple_writes
triple_ends k l us vs p q same =
    let kind = text_ends k.kind l.kind _ _ p.0 q.0 (sym (bytes_after (text_writes k.kind) (text_writes k.other ++ text_writes k.value) us) ∙ same
    ∙ bytes_after (text_writes l.kind) (text_writes l.other ++ text_writes l.value) vs) in
    let rest = both_end FitsText FitsText text_writes text_writes text_ends text_ends k.other l.other k.value l.value us vs p.1 q.1 p.2 q.2 kind.1 in
    ((λ i. record { kind = kind.0 i; other = rest.0 i; value = rest.1 i }), rest.2)

-- ---- numbers and values

-- The number that comes first, and what follows it.
abbrev tag : Data → ℕ
tag null = 1
tag (boolean false) = 2
tag (boolean true) = 3
tag (number (unsigned n)) = 4
tag (number (negative z)) = 8
tag (number (float x)) = 9
tag (string s) = 5
tag (array ds) = 6
tag (object ms) = 7

abbrev content : Data → HashWrites
content null = []
content (boolean false) = []
content (boolean true) = []
content (number (unsigned n)) = u64 n
content (number (negative z)) = i64 z
content (number (float x)) = []
content (string s) = text_writes s
content (array ds) = items_writes ds
content (object ms) = members_writes ms

begun : (d : Data) → value_writes d ≡ u64 (tag d) ++ content d
begun null = refl
begun (boolean false) = refl
begun (boolean true) = refl
begun (number (unsigned n)) = refl
begun (number (negative z)) = refl
begun (number (float x)) = refl
begun (string s) = refl
begun (array ds) = refl
begun (object ms) = refl

tag_small : (d : Data) → tag d < 2 ^ 64
tag_small null = omega arith
tag_small (boolean false) = omega arith
tag_small (boolean true) = omega arith
tag_small (number (unsigned n)) = omega arith
tag_small (number (negative z)) = omega arith
tag_small (number (float x)) = omega arith
tag_small (string s) = omega arith
tag_small (array ds) = omega arith
tag_small (object ms) = omega arith

tag_some : (d : Data) → 0 ≡ tag d → ⊥
tag_some null e = absurd (omega (arith, e))
tag_some (boolean false) e = absurd (omega (arith, e))
tag_some (boolean true) e = absurd (omega (arith, e))
tag_some (number (unsigned n)) e = absurd (omega (arith, e))
tag_some (number (negative z)) e = absurd (omega (arith, e))
tag_some (number (float x)) e = absurd (omega (arith, e))
tag_some (string s) e = absurd (omega (arith, e))
tag_some (array ds) e = absurd (omega (arith, e))
tag_some (object ms) e = absurd (omega (arith, e))

-- Two values that are written alike begin with one number.
alike : (d e : Data) (us vs : List ℕ) → bytes_in (value_writes d) ++ us ≡ bytes_in (value_writes e) ++ vs → (tag d ≡ tag e)
    × (bytes_in (content d) ++ us ≡ bytes_in (content e) ++ vs)
alike d e us vs same =
    begins (tag d) (tag e) (content d) (content e) us vs (tag_small d) (tag_small e)
    (ap (λ ws. bytes_in ws ++ us) (sym (begun d)) ∙ same ∙ ap (λ ws. bytes_in ws ++ vs) (begun e))

-- A value and the end of an array differ.
not_end : (d : Data) (ws : HashWrites) (us vs : List ℕ) → bytes_in (u64 0) ++ us ≡ bytes_in (value_writes d ++ ws) ++ vs → ⊥
not_end d ws us vs same =
    tag_some d (begins 0 (tag d) [] (content d) us (bytes_in ws ++ vs) (omega arith) (tag_small d)
    (same ∙ bytes_after (value_writes d) ws vs ∙ ap (λ xs. bytes_in xs ++ (bytes_in ws ++ vs)) (begun d))).0

negative_ends : (m n : ℕ) (us vs : List ℕ) → m < 2 ^ 63 → n < 2 ^ 63 → bytes_in (i64 (negsuc m)) ++ us ≡ bytes_in (i64 (negsuc n)) ++ vs → (m ≡ n) × (us ≡ vs)
negative_ends m n us vs p q same =
    let words = word_ends (2 ^ 64 - suc m) (2 ^ 64 - suc n) us vs (omega arith) (omega arith) same in
    let e : 2 ^ 64 - suc m ≡ 2 ^ 64 - suc n = words.0 in
    (omega (arith, e), words.1)

mutual
  value_ends : Ends FitsValue value_writes
  value_ends (number (float x)) e us vs p q same = absurd p
  value_ends (number (negative (pos n))) e us vs p q same = absurd p
  value_ends d (number (float x)) us vs p q same = absurd q
  value_ends d (number (negative (pos n))) us vs p q same = absurd q
  value_ends null null us vs p q same = (refl, (alike null null us vs same).1)
  value_ends (boolean false) (boolean false) us vs p q same = (refl, (alike (boolean false) (boolean false) us vs same).1)
  value_ends (boolean true) (boolean true) us vs p q same = (refl, (alike (boolean true) (boolean true) us vs same).1)
  value_ends (number (unsigned m)) (number (unsigned n)) us vs p q same =
      let words = word_ends m n us vs p q (alike (number (unsigned m)) (number (unsigned n)) us vs same).1 in
      (ap (λ k. number (unsigned k)) words.0, words.1)
  value_ends (number (negative (negsuc m))) (number (negative (negsuc n))) us vs p q same =
      let words = negative_ends m n us vs p q (alike (number (negative (negsuc m))) (number (negative (negsuc n))) us vs same).1 in
      (ap (λ k. number (negative (negsuc k))) words.0, words.1)
  value_ends (string s) (string t) us vs p q same =
      let texts = text_ends s t us vs p q (alike (string s) (string t) us vs same).1 in
      (ap string texts.0, texts.1)
  value_ends (array ds) (array es) us vs p q same =
      let items = items_end ds es us vs p q (alike (array ds) (array es) us vs same).1 in
      (ap array items.0, items.1)
  value_ends (object ms) (object ns) us vs p q same =
      let members = members_end ms ns us vs p q (alike (object ms) (object ns) us vs same).1 in
      (ap object members.0, members.1)
  value_ends (boolean false) e us vs p q same = let tags = (alike (boolean false) e us vs same).0 in absurd (omega (arith, tags))
  value_ends (boolean true) e us vs p q same = let tags = (alike (boolean true) e us vs same).0 in absurd (omega (arith, tags))
  value_ends d (boolean false) us vs p q same = let tags = (alike d (boolean false) us vs same).0 in absurd (omega (arith, tags))
  value_ends d (boolean true) us vs p q same = let tags = (alike d (boolean true) us vs same).0 in absurd (omega (arith, tags))
  value_ends d e us vs p q same = let tags = (alike d e us vs same).0 in absurd (omega (arith, tags))

  items_end : Ends FitsItems items_writes
  items_end no_items no_items us vs p q same = (refl, (begins 0 0 [] [] us vs (omega arith) (omega arith) same).1)
  items_end no_items (item e es) us vs p q same = absurd (not_end e (items_writes es) us vs same)
  items_end (item d ds) no_items us vs p q same = absurd (not_end d (items_writes ds) vs us (sym same))
  items_end (item d ds) (item e es) us vs p q same =
      let first = value_ends d e (bytes_in (items_writes ds) ++ us) (bytes_in (items_writes es) ++ vs) p.0 q.0
      (sym (bytes_after (value_writes d) (items_writes ds) us) ∙ same ∙ bytes_after (value_writes e) (items_writes es) vs) in
      let rest = items_end ds es us vs p.1 q.1 first.1 in
      ((λ i. item (first.0 i) (rest.0 i)), rest.1)

  members_end : Ends FitsMembers members_writes
  members_end no_members no_members us vs p q same = (refl, (begins (2 ^ 64 - 1) (2 ^ 64 - 1) [] [] us vs (omega arith) (omega arith) same).1)
  members_end no_members (member l e ns) us vs p q same =
      absurd (no_text l (bytes_in (value_writes e ++ members_writes ns) ++ vs) us
      (sym (bytes_after (text_writes l) (value_writes e ++ members_writes ns) vs) ∙ sym same))
  members_end (member k d ms) no_members us vs p q same =
      absurd (no_text k (bytes_in (value_writes d ++ members_writes ms) ++ us) vs
      (sym (bytes_after (text_writes k) (value_writes d ++ members_writes ms) us) ∙ same))
  members_end (member k d ms) (member l e ns) us vs p q same =
      let name =
      text_ends k l _ _ p.0 q.0 (sym (bytes_after (text_writes k) (value_writes d ++ members_writes ms) us) ∙ same
      ∙ bytes_after (text_writes l) (value_writes e ++ members_writes ns) vs) in
      let first = value_ends d e (bytes_in (members_writes ms) ++ us) (bytes_in (members_writes ns) ++ vs) p.1 q.1
      (sym (bytes_after (value_writes d) (members_writes ms) us) ∙ name.1 ∙ bytes_after (value_writes e) (members_writes ns) vs) in
      let rest = members_end ms ns us vs p.2 q.2 first.1 in
      ((λ i. member (name.0 i) (first.0 i) (rest.0 i)), rest.1)

-- ---- what is hashed of an object or of an election

family_alike : (f g : Family) → family_number f ≡ family_number g → f ≡ g
family_alike f g e = family_exact f g ((Decides-eqb (family_number f) (family_number g)).1 e)

number_small : (f : Option Family) → hashed_number f < 16
number_small None = omega arith
number_small (Some family.Unit) = omega arith
number_small (Some f) = omega arith

no_family : (f : Family) → 9 ≡ family_number f → ⊥
no_family family.Unit e = absurd (omega (arith, e))
no_family f e = absurd (omega (arith, e))

number_exact : (f g : Option Family) → hashed_number f ≡ hashed_number g → f ≡ g
number_exact None None e = refl
number_exact None (Some g) e = absurd (no_family g e)
number_exact (Some f) None e = absurd (no_family f (sym e))
number_exact (Some f) (Some g) e = ap Some (family_alike f g e)

abbrev bit : Bool → ℕ
bit b = cond b 1 0

bit_small : (b : Bool) → bit b ≤ 1
bit_small true = omega arith
bit_small false = omega arith

bit_exact : (a b : Bool) → bit a ≡ bit b → a ≡ b
bit_exact true true e = refl
bit_exact false false e = refl
bit_exact true false e = absurd (omega (arith, e))
bit_exact false true e = absurd (omega (arith, e))

-- The number that is written first of two objects tells their families, and which parts they have.
record SameParts (h k : Hashed) : Type 0 where
  family : h.family ≡ k.family
  id : is_some h.id ≡ is_some k.id
  key : is_some h.key ≡ is_some k.key
  selection : is_some h.selection ≡ is_some k.selection

first_number : Hashed → ℕ
first_number h = parts_number (hashed_number h.family) h.id h.key h.selection

first_small : (h : Hashed) → first_number h < 2 ^ 64
unfolding first_number
first_small h = omega (arith, number_small h.family, bit_small (is_some h.id), bit_small (is_some h.key), bit_small (is_some h.selection))

numbers_alike : (m n a b c d e f : ℕ) → m < 16 → n < 16 → a ≤ 1 → b ≤ 1 → c ≤ 1 → d ≤ 1 → e ≤ 1 → f ≤ 1
    → m + 16 * (a + 2 * b + 4 * c) ≡ n + 16 * (d + 2 * e + 4 * f) → (m ≡ n) × (a ≡ d) × (b ≡ e) × (c ≡ f)
numbers_alike m n a b c d e f p q r s t u v w same = (omega arith, omega arith, omega arith, omega arith)

parts_alike : (h k : Hashed) → first_number h ≡ first_number k → SameParts h k
unfolding first_number
parts_alike h k same =
    let bits = numbers_alike _ _ _ _ _ _ _ _ (number_small h.family) (number_small k.family) (bit_small (is_some h.id)) (bit_small (is_some h.key))
    (bit_small (is_some h.selection))
    (bit_small (is_some k.id)) (bit_small (is_some k.key)) (bit_small (is_some k.selection)) same in
    record {
      family = number_exact h.family k.family bits.0;
      id = bit_exact (is_some h.id) (is_some k.id) bits.1;
      key = bit_exact (is_some h.key) (is_some k.key) bits.2;
      selection = bit_exact (is_some h.selection) (is_some k.selection) bits.3;
    }

-- What follows that number.
hashed_rest : Hashed → HashWrites
hashed_rest h = option_writes text_writes h.id ++ (option_writes triple_writes h.key ++ option_writes value_writes h.selection)

hashed_ends : Ends FitsHashed hashed_writes
unfolding hashed_rest first_number
hashed_ends h k us vs p q same =
    let numbers = begins (first_number h) (first_number k) (hashed_rest h) (hashed_rest k) us vs (first_small h) (first_small k) same in
    let parts = parts_alike h k numbers.0 in
    let after = λ (l : Hashed). option_writes triple_writes l.key ++ option_writes value_writes l.selection in
    let ids = option_ends FitsText text_writes text_ends h.id k.id (bytes_in (after h) ++ us) (bytes_in (after k) ++ vs) parts.id p.id q.id
    (sym (bytes_after (option_writes text_writes h.id) (after h) us) ∙ numbers.1 ∙ bytes_after (option_writes text_writes k.id) (after k) vs) in
    let keys = option_ends FitsKey triple_writes triple_ends h.key k.key (bytes_in (option_writes value_writes h.selection) ++ us)
    (bytes_in (option_writes value_writes k.selection) ++ vs) parts.key p.key q.key
    (sym (bytes_after (option_writes triple_writes h.key) (option_writes value_writes h.selection) us) ∙ ids.1 ∙ bytes_after (option_writes triple_writes k.key)
    (option_writes value_writes k.selection) vs) in
    let selections = option_ends FitsValue value_writes value_ends h.selection k.selection us vs parts.selection p.selection q.selection keys.1 in
    ((λ i. record { family = parts.family i; id = ids.0 i; key = keys.0 i; selection = selections.0 i }), selections.1)

-- Something was written of an object.
some_bytes : (n : ℕ) (ws : HashWrites) → [] ≡ bytes_in (usize n ++ ws) → ⊥
unfolding le_bytes
some_bytes n ws e = cc

-- The bytes that are written of a list tell what is in it.
pub hashed_alike : (hs ks : List Hashed) → AllByRecursion FitsHashed hs → AllByRecursion FitsHashed ks
    → bytes_in (flat_map hashed_writes hs) ≡ bytes_in (flat_map hashed_writes ks) → hs ≡ ks
unfolding hashed_rest first_number
hashed_alike [] [] p q same = refl
hashed_alike [] (k ∷ ks) p q same = absurd (some_bytes (first_number k) (hashed_rest k ++ flat_map hashed_writes ks) same)
hashed_alike (h ∷ hs) [] p q same = absurd (some_bytes (first_number h) (hashed_rest h ++ flat_map hashed_writes hs) (sym same))
hashed_alike (h ∷ hs) (k ∷ ks) p q same =
    let first = hashed_ends h k (bytes_in (flat_map hashed_writes hs)) (bytes_in (flat_map hashed_writes ks)) p.0 q.0
    (sym (flat_map-append (λ w. w) (hashed_writes h) (flat_map hashed_writes hs)) ∙ same ∙ flat_map-append (λ w. w) (hashed_writes k)
    (flat_map hashed_writes ks)) in
    let rest = hashed_alike hs ks p.1 q.1 first.1 in
    λ i. first.0 i ∷ rest i
