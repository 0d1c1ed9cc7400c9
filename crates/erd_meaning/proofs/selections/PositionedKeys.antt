-- Keys with their positions: one more, in rising order, and those of a family with their ranks.
use Rattle.erd_meaning.proofs.Common.{◌≡◌, ℕ, zero, suc, ◌+◌, ◌<◌, Bool, false, List, [], ◌∷◌, ◌++◌, map, length, take, slice_get, Some, filter, Option}
use Rattle.erd_meaning.proofs.Common.{option_and_then, option_copied, is_lt, Ordering, sym, refl, ap, ◌∙◌, ap₂, inl, inr, arith, length-take, Bor, map-append}
use Rattle.erd_meaning.proofs.Common.{take_more, slice_get-map, get_or_from_slice_get, map-map, AllByRecursion, IsDistinct, enumerate_from, option_cmp}
use Rattle.erd_meaning.proofs.Common.{eq_by_cmp, Data, Family, In, all_weakened, key_cmp, Preference, key_of_family_object, rising_keys, Placed, objects}
use Rattle.erd_meaning.proofs.Common.{rising_list, positioned, seen_keys, keys_seen, lent_key_cmp, rank_in_keys, family_keys, IsOrder, those_of, Kept, AreRanks}
use Rattle.erd_meaning.proofs.Common.{key_at_among, rising_keys_among, Key, Order, cases_Bool, option_map-Some}
use Rattle.erd_meaning.proofs.finding.OneObject.{at_low}
use Rattle.erd_text.proofs.RisingOrders.{count_map, all_rising}
use Rattle.erd_text.proofs.RisingLists.{by_first, rising_list_map}
use Rattle.erd_meaning.proofs.selections.RankedKeys.{copied_cmp}

-- a borrowed key with a position
abbrev pub KeyEntry : Type 0
KeyEntry = Option (Bor Key) × ℕ

-- a key with a position
abbrev pub KeyPosition : Type 0
KeyPosition = Option Key × ℕ

-- ---- keys with positions

pub positioned-append : {K : Type 0} (i : ℕ) (ks : List K) (k : K) → positioned i (ks ++ k ∷ []) ≡ positioned i ks ++ (k, i + length ks) ∷ []
positioned-append {K} i [] k = let none : i ≡ i + 0 = omega arith in ap (λ n. (k, n) ∷ []) none
positioned-append {K} i (l ∷ ks) k =
    let next : i + 1 + length ks ≡ i + length (l ∷ ks) = omega arith in
    ap (λ ps. (l, i) ∷ ps) (positioned-append (i + 1) ks k ∙ ap (λ n. positioned (i + 1) ks ++ (k, n) ∷ []) next)

-- what is made of objects with their positions
pub positioned_made : {A K : Type 0} (key : A → K) (i : ℕ) (xs : List A) → positioned i (map key xs) ≡ map (λ (p : ℕ × A). (key p.1, p.0)) (enumerate_from i xs)
positioned_made key i [] = refl
positioned_made {A} {K} key i (x ∷ xs) = ap (λ (ps : List (K × ℕ)). (key x, i) ∷ ps) (positioned_made key (i + 1) xs)

-- without the positions, the keys are left
pub positioned_keys : {K : Type 0} (i : ℕ) (ks : List K) → map (λ (p : K × ℕ). p.0) (positioned i ks) ≡ ks
positioned_keys i [] = refl
positioned_keys i (k ∷ ks) = ap (λ ls. k ∷ ls) (positioned_keys (i + 1) ks)

-- as many pass a test
pub count_positioned : {K : Type 0} (test : K → Bool) (i : ℕ) (ks : List K) → length (filter (λ (p : K × ℕ). test p.0) (positioned i ks))
    ≡ length (filter test ks)
count_positioned test i [] = refl
count_positioned test i (k ∷ ks) =
    elim (cases_Bool (test k)) [ inl is ↦ rw is (ap suc (count_positioned test (i + 1) ks)) | inr is ↦ rw is (count_positioned test (i + 1) ks) ]

-- each key stands at its position
pub all_positioned : {K : Type 0} (all ks : List K) (i : ℕ) → ((j : ℕ) → slice_get ks j ≡ slice_get all (i + j))
    → AllByRecursion (λ (p : K × ℕ). slice_get all p.1 ≡ Some p.0) (positioned i ks)
all_positioned all [] i same = tt
all_positioned {K} all (k ∷ ks) i same =
    let here : slice_get all i ≡ Some k = let none : i ≡ i + 0 = omega arith in ap (slice_get all) none ∙ sym (same 0) in
    (here, all_positioned all ks (i + 1) (λ j. let next : i + suc j ≡ i + 1 + j = omega arith in same (suc j) ∙ ap (slice_get all) next))

pub length_positioned : {K : Type 0} (n : ℕ) (ks : List K) → length (positioned n ks) ≡ length ks
length_positioned n [] = refl
length_positioned n (k ∷ ks) = ap suc (length_positioned (n + 1) ks)

-- what stands at a position
pub record KeyAt {K : Type 0} (n : ℕ) (ks : List K) (p : K × ℕ) : Type 0 where
  pub index : ℕ
  pub at : slice_get ks index ≡ Some p.0
  pub is : p.1 ≡ n + index

pub key_positioned : {K : Type 0} (n : ℕ) (ks : List K) (p : K × ℕ) → In p (positioned n ks) → KeyAt n ks p
key_positioned n [] p i = absurd i
key_positioned n (k ∷ ks) p (inl e) = let count : n ≡ n + 0 = omega arith in record { index = 0; at = ap (λ x. Some x.0) e; is = sym (ap (λ x. x.1) e) ∙ count }
key_positioned n (k ∷ ks) p (inr i) =
    let rest = key_positioned (n + 1) ks p i in
    let count : (n + 1) + rest.index ≡ n + suc rest.index = omega arith in
    record { index = suc rest.index; at = rest.at; is = rest.is ∙ count }

-- keys of one position are one
pub one_positioned_at : {K : Type 0} (ks : List K) (p q : K × ℕ) → In p (positioned 0 ks) → In q (positioned 0 ks) → p.1 ≡ q.1 → p ≡ q
one_positioned_at ks p q a b e =
    let x = key_positioned 0 ks p a in
    let y = key_positioned 0 ks q b in
    let here : p.1 ≡ 0 + x.index = x.is in
    let there : q.1 ≡ 0 + y.index = y.is in
    let one : x.index ≡ y.index = omega (arith, e) in
    let same : Some p.0 ≡ Some q.0 = sym x.at ∙ (ap (slice_get ks) one ∙ y.at) in
    let keys : p.0 ≡ q.0 = cc in
    λ i. (keys i, e i)

-- each key stands at its position
pub stands_positioned : {K : Type 0} (n : ℕ) (ks : List K) (i : ℕ) (k : K) → slice_get ks i ≡ Some k → slice_get (positioned n ks) i ≡ Some (k, n + i)
stands_positioned n [] i k e = absurd (cc)
stands_positioned n (x ∷ ks) zero k e =
    let same : x ≡ k = cc in
    let count : n ≡ n + 0 = omega arith in
    ap (λ y. Some (y, n)) same ∙ ap (λ m. Some (k, m)) count
stands_positioned n (x ∷ ks) (suc i) k e = let count : (n + 1) + i ≡ n + suc i = omega arith in stands_positioned (n + 1) ks i k e ∙ ap (λ m. Some (k, m)) count

others_apart : {K : Type 0} (cmp : K → K → Ordering) (k : K) (m n : ℕ) (ks : List K) → AllByRecursion (λ x. eq_by_cmp cmp k x ≡ false) ks
    → AllByRecursion (λ q. eq_by_cmp (by_first cmp) (k, m) q ≡ false) (positioned n ks)
others_apart cmp k m n [] h = tt
others_apart cmp k m n (x ∷ ks) h = (h.0, others_apart cmp k m (n + 1) ks h.1)

-- distinct keys stay distinct beside their positions
pub apart_positioned : {K : Type 0} (cmp : K → K → Ordering) (n : ℕ) (ks : List K) → IsDistinct (eq_by_cmp cmp) ks
    → IsDistinct (eq_by_cmp (by_first cmp)) (positioned n ks)
unfolding IsDistinct
apart_positioned cmp n [] h = tt
apart_positioned cmp n (k ∷ ks) h = (others_apart cmp k n (n + 1) ks h.0, apart_positioned cmp (n + 1) ks h.1)

-- ---- one more key

pub one_positioned : (ks : List (Option Key)) (i : ℕ) (keys : List KeyEntry) (key : Option (Bor Key)) → i < length ks → seen_keys keys
    ≡ positioned 0 (take i ks)
    → option_copied key ≡ option_and_then (λ k. k) (slice_get ks i) → seen_keys (keys ++ (key, i) ∷ []) ≡ positioned 0 (take (i + 1) ks)
one_positioned ks i keys key low before is =
    let there = at_low ks i low in
    let k = there.0 in
    let here : option_copied key ≡ k = is ∙ ap (option_and_then (λ (l : Option Key). l)) there.1 in
    let long : i ≡ 0 + length (take i ks) = omega (arith, low, length-take {A = Option Key}) in
    map-append {A = KeyEntry} (λ p. (option_copied p.0, p.1)) keys ((key, i) ∷ [])
    ∙ ap₂ (λ (xs : List KeyPosition) x. xs ++ x ∷ []) before (ap₂ (λ (l : Option Key) n. (l, n)) here long) ∙ sym (positioned-append 0 (take i ks) k)
    ∙ ap (positioned 0) (sym (take_more ks i k low ∙ ap (λ (l : Option Key). take i ks ++ l ∷ []) (get_or_from_slice_get ks i k k there.1)))

-- the key of the object at a position
pub key_of_those : (os : List Kept) (i : ℕ) → option_and_then (λ (k : Kept). k.key) (slice_get os i) ≡ option_and_then (λ (k : Option Key). k)
    (slice_get (map (λ (k : Kept). k.key) os) i)
key_of_those [] i = refl
key_of_those (o ∷ os) zero = refl
key_of_those (o ∷ os) (suc i) = key_of_those os i

-- keys that stand with their positions, without these
pub keys_placed : (keys : List KeyEntry) (ks : List (Option Key)) → seen_keys keys ≡ positioned 0 ks → keys_seen keys ≡ ks
keys_placed keys ks are = sym (map-map (λ (p : KeyPosition). p.0) (λ (p : KeyEntry). (option_copied p.0, p.1)) keys)
    ∙ ap (map (λ (p : KeyPosition). p.0)) are ∙ positioned_keys 0 ks

-- ---- in rising order

abbrev see : KeyEntry → KeyPosition
see p = (option_copied p.0, p.1)

-- sorted borrowed keys are seen as the sorted keys
pub rising_seen : (keys : List KeyEntry) → seen_keys (rising_list (λ a b. lent_key_cmp a.0 b.0) keys)
    ≡ rising_list (λ a b. option_cmp key_cmp a.0 b.0) (seen_keys keys)
rising_seen keys =
    ap (λ (cmp : KeyEntry → KeyEntry → Ordering). map see (rising_list cmp keys)) (λ i a b. copied_cmp a.0 b.0 i)
    ∙ rising_list_map see (λ a b. option_cmp key_cmp a.0 b.0) keys

module _ (ks : List Kept) (f : Family) where
  key_there : (i : ℕ) (key : Option Key) → slice_get (family_keys ks f) i ≡ Some key → key ≡ key_at_among ks f i
  key_there i key e =
      let r = option_map-Some (λ (k : Kept). k.key) (slice_get (those_of f ks) i) key (sym (slice_get-map (λ (k : Kept). k.key) (those_of f ks) i) ∙ e) in
      sym r.2 ∙ sym (ap (option_and_then (λ (k : Kept). k.key)) r.1)

  -- each key is that of the object at its position
  pub each_there : AllByRecursion (λ (p : KeyPosition). p.0 ≡ key_at_among ks f p.1) (rising_keys_among ks f)
  each_there =
      all_rising (λ (p : KeyPosition). p.0 ≡ key_at_among ks f p.1) (λ a b. option_cmp key_cmp a.0 b.0) (positioned 0 (family_keys ks f))
      (all_weakened (λ (p : KeyPosition). slice_get (family_keys ks f) p.1 ≡ Some p.0) (λ (p : KeyPosition). p.0 ≡ key_at_among ks f p.1)
      (positioned 0 (family_keys ks f)) (λ p e. key_there p.1 p.0 e)
      (all_positioned (family_keys ks f) (family_keys ks f) 0 (λ j. let none : j ≡ 0 + j = omega arith in ap (slice_get (family_keys ks f)) none)))

  -- the positions give the keys back
  pub from_positions : map (λ i. (key_at_among ks f i, i)) (map (λ (p : KeyPosition). p.1) (rising_keys_among ks f)) ≡ rising_keys_among ks f
  from_positions = at (rising_keys_among ks f) each_there
    where
      at : (ps : List KeyPosition) → AllByRecursion (λ (p : KeyPosition). p.0 ≡ key_at_among ks f p.1) ps → map (λ i. (key_at_among ks f i, i))
          (map (λ (p : KeyPosition). p.1) ps) ≡ ps
      at [] h = refl
      at (p ∷ ps) h = ap₂ (λ (k : Option Key) (rest : List KeyPosition). (k, p.1) ∷ rest) (sym h.0) (at ps h.1)

  -- the ranks that an order has are those of the objects
  pub ranks_of_order : (order : Order) → IsOrder (family_keys ks f) order → AreRanks ks f order.ranks.items
  ranks_of_order order is =
      is.ranked ∙ map-map (rank_in_keys (family_keys ks f)) (λ (k : Kept). k.key) (those_of f ks)
      ∙ ap (λ (rank : Kept → ℕ). map rank (those_of f ks)) (λ i k. count_map (λ (l : Kept). l.key) (λ l. is_lt (option_cmp key_cmp l k.key)) (those_of f ks) i)

-- ---- of a report

-- the rising keys of a report
pub rising_positioned : (π : Preference) (t : Data) (f : Family)
    → rising_list (λ a b. option_cmp key_cmp a.0 b.0) (positioned 0 (map (λ (o : Placed). key_of_family_object π f o.value) (objects f t))) ≡ rising_keys π t f
rising_positioned π t f = ap (rising_list (λ a b. option_cmp key_cmp a.0 b.0))
    (positioned_made (λ (o : Placed). key_of_family_object π f o.value) 0 (objects f t))
