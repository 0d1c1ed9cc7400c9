-- Lists: what passes a test, what is built entry by entry, ranks, numbers and rising order.
use Rattle.erd_normal.proofs.Common.{◌≡◌, zero, suc, Bool, true, false, List, [], ◌∷◌, ◌++◌, Contains, flat_map, sym, refl, ap, ◌∙◌, subst, append_assoc}
use Rattle.erd_normal.proofs.Common.{append-nil, arith, lit<, and_parts, list_all, families, family_number, Family, family, IsDistinct, In, In-all}
use Rattle.erd_normal.proofs.Common.{In-append_left, all_from_In, inl, inr, ℕ, ◌≤◌, map, length, ◌==◌, Some, None, Option, ap₂, same_Some}
use Rattle.erd_normal.proofs.Common.{AllByRecursion, Data, array, Items, no_items, item, get_item, items_of, IsTree, list_of_items, entries_of, depth, is_array}
use Rattle.erd_normal.proofs.Common.{is_empty_array, AreTrees, items_depth, list_of_items-items_of, array_of, cond, filter, is_lt, is_gt}
use Rattle.erd_normal.proofs.Common.{Ordering, Less, Equal, Greater, true≢false, IsTotalOrder, all_weakened, with_inserted, rising_list, NeverFalls}
use Rattle.erd_normal.proofs.Common.{rising_never_falls, In-filter, ◌<◌, tied_itself, less, greater_turned, ◌+◌, ◌⊎◌, slice_get, option_map, length-map}
use Rattle.erd_normal.proofs.Common.{slice_get-map, enumerate_from, IsPermutation, IsSorted, option_and_then, nat_cmp, nat_cmp_total, CmpEqualImpliesEq}
use Rattle.erd_normal.proofs.Common.{exact_unsigned, ordering_reverse, as_str, key_cmp, Preference, key_named, keys_named, key_cmp_total, key_cmp_exact, ranked}
use Rattle.erd_normal.proofs.Common.{by_ranked, alike_right, reordered_rising, whole-reordered, rising_from_sort, inserted_exchange, IsPermutation-map}
use Rattle.erd_normal.proofs.Common.{IsPermutation-sym, IsPermutation-trans, reordered_kept}
use Rattle.erd_text.proofs.RisingOrders.{more_pass, no_fewer}
use Rattle.erd_meaning.proofs.selections.ContestSelections.{get_first, get_later, within_or_after}

-- ---- entries of a list that stand one after another

-- the entries stand in the list, with others before and after them
pub record IsPart {A : Type 0} (part whole : List A) : Type 0 where
  pub before : List A
  pub after : List A
  pub is : before ++ (part ++ after) ≡ whole

pub part_self : {A : Type 0} (xs : List A) → IsPart xs xs
part_self xs = record { before = []; after = []; is = append-nil xs }

distinct_after : {A : Type 0} (test : A → A → Bool) (xs ys : List A) → IsDistinct test (xs ++ ys) → IsDistinct test ys
unfolding IsDistinct
distinct_after test [] ys d = d
distinct_after test (x ∷ xs) ys d = distinct_after test xs ys d.1

distinct_before : {A : Type 0} (test : A → A → Bool) (xs ys : List A) → IsDistinct test (xs ++ ys) → IsDistinct test xs
unfolding IsDistinct
distinct_before test [] ys d = tt
distinct_before test (x ∷ xs) ys d =
    (all_from_In (λ y. test x y ≡ false) xs (λ y h. In-all (λ y. test x y ≡ false) y (xs ++ ys) d.0 (In-append_left y xs ys h)), distinct_before test xs ys d.1)

-- entries that are all different are so in a part
pub part_distinct : {A : Type 0} (test : A → A → Bool) (part whole : List A) → IsPart part whole → IsDistinct test whole → IsDistinct test part
part_distinct test part whole p d = distinct_before test part p.after (distinct_after test p.before (part ++ p.after) (subst (IsDistinct test) (sym p.is) d))

-- the list of one entry is a part of all entries' lists, one after another
pub part_flat : {A B : Type 0} (f : A → List B) (xs : List A) (x : A) → In x xs → IsPart (f x) (flat_map f xs)
part_flat f [] x h = absurd h
part_flat f (y ∷ ys) x (inl e) = record { before = []; after = flat_map f ys; is = ap (λ z. f z ++ flat_map f ys) (sym e) }
part_flat f (y ∷ ys) x (inr h) =
    let p = part_flat f ys x h in
    record { before = f y ++ p.before; after = p.after; is = append_assoc (f y) p.before (f x ++ p.after) ∙ ap (λ zs. f y ++ zs) p.is }

-- ---- lists whose elements each pass a test, and the list of families

pub passed : {A : Type 0} (test : A → Bool) (xs : List A) (x : A) → list_all test xs ≡ true → Contains xs x → test x ≡ true
passed test [] x h (k, low, is) = absurd (omega arith)
passed test (y ∷ ys) x h (zero, low, is) = subst (λ z. test z ≡ true) is (and_parts (test y) _ h).0
passed test (y ∷ ys) x h (suc k, low, is) = passed test ys x (and_parts (test y) _ h).1 (k, omega arith, is)

pub is_family : (f : Family) → Contains families f
is_family family.Unit = (0, lit< tt, refl)
is_family f = (family_number f, lit< tt, refl)

pub all_map : {A : Type 0} {B : Type 0} (P : A → Type 0) (Q : B → Type 0) (f : A → B) (xs : List A) → ((x : A) → P x → Q (f x)) → AllByRecursion P xs
    → AllByRecursion Q (map f xs)
all_map P Q f [] each all = tt
all_map P Q f (x ∷ xs) each all = (each x all.0, all_map P Q f xs each all.1)

-- where what becomes of each is the same
pub maps_agree : {A B : Type 0} (f g : A → B) (xs : List A) → ((x : A) → In x xs → f x ≡ g x) → map f xs ≡ map g xs
maps_agree f g [] each = refl
maps_agree f g (x ∷ xs) each = ap₂ (λ y ys. y ∷ ys) (each x (inl refl)) (maps_agree f g xs (λ y h. each y (inr h)))

pub all_both : (P Q : Data → Type 0) (xs : List Data) → AllByRecursion P xs → AllByRecursion Q xs → AllByRecursion (λ x. P x × Q x) xs
all_both P Q [] p q = tt
all_both P Q (x ∷ xs) p q = ((p.0, q.0), all_both P Q xs p.1 q.1)

-- ---- arrays

pub trees_listed : (ds : Items) → AreTrees ds → AllByRecursion IsTree (list_of_items ds)
trees_listed no_items trees = tt
trees_listed (item d ds) trees = (trees.0, trees_listed ds trees.1)

pub array_of-tree : (ds : List Data) → AllByRecursion IsTree ds → IsTree (array_of ds)
array_of-tree [] all = tt
array_of-tree (d ∷ ds) all = (all.0, array_of-tree ds all.1)

-- each entry is nested no deeper than all of them
pub listed_depth : (ds : Items) (n : ℕ) → items_depth ds ≤ n → AllByRecursion (λ d. depth d ≤ n) (list_of_items ds)
listed_depth no_items n low = tt
listed_depth (item d ds) n low = (omega arith, listed_depth ds n (omega arith))

pub items_of-depth : (ds : List Data) (n : ℕ) → AllByRecursion (λ d. depth d ≤ n) ds → items_depth (items_of ds) ≤ n
items_of-depth [] n all = omega arith
items_of-depth (d ∷ ds) n all =
    let here : depth d ≤ n = all.0 in
    let later : items_depth (items_of ds) ≤ n = items_of-depth ds n all.1 in
    omega arith

-- what holds of each entry of a list holds of each of its array
pub entry_holds : (P : Data → Type 0) (xs : List Data) (i : ℕ) (e : Data) → AllByRecursion P xs → get_item i (items_of xs) ≡ Some e → P e
entry_holds P [] i e all found = cc
entry_holds P (x ∷ xs) zero e all found = let same : x ≡ e = cc in subst P same all.0
entry_holds P (x ∷ xs) (suc i) e all found = entry_holds P xs i e all.1 found

-- an array has as many entries as another
pub as_empty : (d : Data) (es : List Data) → is_array d ≡ true → length es ≡ length (entries_of d) → is_empty_array (array_of es) ≡ is_empty_array d
as_empty (array ds) es is same = ap (λ n. n == 0) (ap length (list_of_items-items_of es) ∙ same)
as_empty d es is same = cc

-- the entries of an array make it again
pub items_again : (ds : Items) → items_of (list_of_items ds) ≡ ds
items_again no_items = refl
items_again (item d ds) = ap (item d) (items_again ds)

-- ---- what is kept of a list in rising order is the rising list of what is kept

module _ {A : Type 0} {cmp : A → A → Ordering} (order : IsTotalOrder cmp) where
  -- a value that is above none stands first
  stands_first : (x : A) (ys : List A) → AllByRecursion (λ y. is_lt (cmp y x) ≡ false) ys → with_inserted cmp x ys ≡ x ∷ ys
  stands_first x [] all = refl
  stands_first x (y ∷ ys) all = rw all.0 refl

  none_below : (x y : A) (zs : List A) → is_lt (cmp y x) ≡ false → AllByRecursion (λ z. is_gt (cmp y z) ≡ false) zs
      → AllByRecursion (λ z. is_lt (cmp z x) ≡ false) zs
  none_below x y zs low rise = all_weakened (λ z. is_gt (cmp y z) ≡ false) (λ z. is_lt (cmp z x) ≡ false) zs (λ z h. at z (cmp z x) (cmp y z) refl refl h) rise
    where
      at : (z : A) (o p : Ordering) → cmp z x ≡ o → cmp y z ≡ p → is_gt p ≡ false → is_lt (cmp z x) ≡ false
      at z Less Less e f h = absurd (true≢false (sym (ap is_lt (order.trans y z x f e)) ∙ low))
      at z Less Equal e f h = absurd (true≢false (sym (ap is_lt (order.congr y z x f ∙ e)) ∙ low))
      at z Less Greater e f h = cc
      at z d p e f h = ap is_lt e

  kept_inserted : (q : A → Bool) (x : A) (ys : List A) → NeverFalls cmp ys → filter q (with_inserted cmp x ys)
      ≡ cond (q x) (with_inserted cmp x (filter q ys)) (filter q ys)
  kept_inserted q x [] rise = refl
  kept_inserted q x (y ∷ ys) rise = at (is_lt (cmp y x)) refl (kept_inserted q x ys rise.1)
    where
      lower : (a b : Bool) (new old : List A) → is_lt (cmp y x) ≡ true → new ≡ cond a (with_inserted cmp x old) old
          → cond b (y ∷ new) new ≡ cond a (with_inserted cmp x (cond b (y ∷ old) old)) (cond b (y ∷ old) old)
      lower true true new old is more = rw is (ap (λ zs. y ∷ zs) more)
      lower true false new old is more = more
      lower false true new old is more = ap (λ zs. y ∷ zs) more
      lower false false new old is more = more

      at : (low : Bool) → is_lt (cmp y x) ≡ low → filter q (with_inserted cmp x ys) ≡ cond (q x) (with_inserted cmp x (filter q ys)) (filter q ys)
          → filter q (cond low (y ∷ with_inserted cmp x ys) (x ∷ (y ∷ ys))) ≡ cond (q x) (with_inserted cmp x (filter q (y ∷ ys))) (filter q (y ∷ ys))
      at true is more = lower (q x) (q y) (filter q (with_inserted cmp x ys)) (filter q ys) is more
      at false is more = ap (λ zs. cond (q x) zs (filter q (y ∷ ys)))
          (sym (stands_first x (filter q (y ∷ ys))
          (all_from_In (λ z. is_lt (cmp z x) ≡ false) (filter q (y ∷ ys))
          (λ z h. In-all (λ z. is_lt (cmp z x) ≡ false) z (y ∷ ys) (is, none_below x y ys is rise.0) (In-filter q z (y ∷ ys) h).0))))

  pub filter_rising : (q : A → Bool) (xs : List A) → filter q (rising_list cmp xs) ≡ rising_list cmp (filter q xs)
  filter_rising q [] = refl
  filter_rising q (x ∷ xs) =
      kept_inserted q x (rising_list cmp xs) (rising_never_falls order xs) ∙ ap (λ ys. cond (q x) (with_inserted cmp x ys) ys) (filter_rising q xs)
      ∙ elim (q x) as (λ b. cond b (with_inserted cmp x (rising_list cmp (filter q xs))) (rising_list cmp (filter q xs))
      ≡ rising_list cmp (cond b (x ∷ filter q xs) (filter q xs))) [ true ↦ refl | false ↦ refl ]

-- ---- the rank of a key in a list: how many entries have lesser keys, wherever they stand. Ranks tell the keys of entries apart

-- how many entries have keys below this one
abbrev pub rank_by : {A K : Type 0} → (A → K) → (K → K → Ordering) → K → List A → ℕ
rank_by key cmp k xs = length (filter (λ y. is_lt (cmp (key y) k)) xs)

all_pass : {A : Type 0} (xs : List A) → length (filter (λ x. true) xs) ≡ length xs
all_pass [] = refl
all_pass (x ∷ xs) = ap suc (all_pass xs)

-- ---- ranks tell keys apart

module _ {A K : Type 0} (key : A → K) {cmp : K → K → Ordering} (order : IsTotalOrder cmp) (xs : List A) where
  rank_rises : (x : A) (k : K) → In x xs → cmp (key x) k ≡ Less → rank_by key cmp (key x) xs < rank_by key cmp k xs
  rank_rises x k h below =
      more_pass (λ y. is_lt (cmp (key y) (key x))) (λ y. is_lt (cmp (key y) k))
      (λ y e. ap is_lt (order.trans (key y) (key x) k (less (cmp (key y) (key x)) e) below))
      x xs (ap is_lt (tied_itself order (key x))) (ap is_lt below) h

  -- the rank of an entry is below the number of entries
  pub rank_low : (x : A) → In x xs → rank_by key cmp (key x) xs < length xs
  rank_low x h =
      let low = more_pass (λ y. is_lt (cmp (key y) (key x))) (λ y. true) (λ y e. refl) x xs (ap is_lt (tied_itself order (key x))) refl h in
      let all : length (filter (λ y. true) xs) ≡ length xs = all_pass xs in
      omega (arith, low, all)

  -- two entries of one rank have keys that compare as equal
  pub rank_exact : (x y : A) → In x xs → In y xs → rank_by key cmp (key x) xs ≡ rank_by key cmp (key y) xs → cmp (key x) (key y) ≡ Equal
  rank_exact x y h k same = at (cmp (key x) (key y)) refl
    where
      at : (o : Ordering) → cmp (key x) (key y) ≡ o → o ≡ Equal
      at Less is = absurd (let low = rank_rises x (key y) h is in omega (arith, low, same))
      at Equal is = refl
      at Greater is = absurd (let low = rank_rises y (key x) k (greater_turned order (key x) (key y) is) in omega (arith, low, same))

-- ---- what a test keeps of a list, and lists whose entries are numbered

-- through a function
pub kept_map : {A B : Type 0} (f : A → B) (q : B → Bool) (xs : List A) → filter q (map f xs) ≡ map f (filter (λ x. q (f x)) xs)
kept_map f q [] = refl
kept_map f q (x ∷ xs) =
    let more = kept_map f q xs in
    elim (q (f x)) as (λ b. cond b (f x ∷ filter q (map f xs)) (filter q (map f xs)) ≡ map f (cond b (x ∷ filter (λ x. q (f x)) xs) (filter (λ x. q (f x)) xs)))
    [ true ↦ ap (λ ys. f x ∷ ys) more | false ↦ more ]

-- an entry and its number
pub numbered_stands : {A : Type 0} (n : ℕ) (xs : List A) (o : ℕ × A) → In o (enumerate_from n xs) → (i : ℕ) × (o.0 ≡ i + n) × (slice_get xs i ≡ Some o.1)
numbered_stands n [] o h = elim h [ ]
numbered_stands {A} n (x ∷ xs) o h = elim h [
  | inl e ↦ let first : n ≡ 0 + n = omega arith in (0, ap (λ (p : ℕ × A). p.0) (sym e) ∙ first, ap (λ (p : ℕ × A). Some p.1) e)
  | inr k ↦
      let rest = numbered_stands (n + 1) xs o k in
      let next : rest.0 + (n + 1) ≡ suc rest.0 + n = omega arith in
      (suc rest.0, rest.1 ∙ next, rest.2)
]

-- ---- lists put one after another, beside others of the same lengths whose elements have the numbers of their lists

-- what is found in a list of numbered elements
pair_from : {C : Type 0} (k n : ℕ) (x : Option C) (o : C) → option_map {U = ℕ × C} (λ o. (k, o)) x ≡ Some (n, o) → (x ≡ Some o) × (k ≡ n)
pair_from k n None o e = absurd (cc)
pair_from {C} k n (Some y) o e =
    let one : ℕ × C = (k, y) in
    let other : ℕ × C = (n, o) in
    let same : one ≡ other = same_Some one other e in
    (ap (λ (p : ℕ × C). Some p.1) same, ap (λ (p : ℕ × C). p.0) same)

module _ {A B C : Type 0} (f : A → List B) (g : A → List C) where
  -- the elements of a list, each with its number
  abbrev numbered_part : ℕ × A → List (ℕ × C)
  numbered_part c = map (λ o. (c.0, o)) (g c.1)

  -- what stands at position i: an element of the list with number n, counted from k
  pub record InPart (cs : List A) (k i n : ℕ) (o : C) : Type 0 where
    pub one : A
    pub index : ℕ
    pub after : n ≡ k + index
    pub at : slice_get cs index ≡ Some one
    pub inner : ℕ
    pub there : slice_get (g one) inner ≡ Some o
    pub same : slice_get (flat_map f cs) i ≡ slice_get (f one) inner

  pub in_part : ((x : A) → length (f x) ≡ length (g x)) → (cs : List A) (k i n : ℕ) (o : C) → slice_get (flat_map numbered_part (enumerate_from k cs)) i
      ≡ Some (n, o) → InPart cs k i n o
  in_part long [] k i n o e = absurd (cc)
  in_part long (c ∷ cs) k i n o e = at (in_part long cs (k + 1)) (within_or_after (length (f c)) i)
    where
      row : length (numbered_part (k, c)) ≡ length (f c)
      row = length-map (g c) (λ o. (k, o)) ∙ sym (long c)

      at : ((m n : ℕ) (o : C) → slice_get (flat_map numbered_part (enumerate_from (k + 1) cs)) m ≡ Some (n, o) → InPart cs (k + 1) m n o)
          → (i < length (f c)) ⊎ ((m : ℕ) × (i ≡ length (f c) + m)) → InPart (c ∷ cs) k i n o
      at rest (inl low) =
          let here = get_first (numbered_part (k, c)) (flat_map numbered_part (enumerate_from (k + 1) cs)) i (subst (λ m. i < m) (sym row) low) in
          let pair = pair_from k n (slice_get (g c) i) o (sym (slice_get-map (λ o. (k, o)) (g c) i) ∙ (sym here ∙ e)) in
          let first : k ≡ n = pair.1 in
          let after : n ≡ k + 0 = omega arith in
          record { one = c; index = 0; after = after; at = refl; inner = i; there = pair.0; same = get_first (f c) (flat_map f cs) i low }
      at rest (inr r) =
          let here = get_later (numbered_part (k, c)) (flat_map numbered_part (enumerate_from (k + 1) cs)) i r.0 (r.1 ∙ ap (λ m. m + r.0) (sym row)) in
          let later = rest r.0 n o (sym here ∙ e) in
          let count : (k + 1) + later.index ≡ k + suc later.index = omega arith in
          record {
            one = later.one;
            index = suc later.index;
            after = later.after ∙ count;
            at = later.at;
            inner = later.inner;
            there = later.there;
            same = get_later (f c) (flat_map f cs) i r.0 r.1 ∙ later.same;
          }

-- ---- a list in the order of an exact comparison is the same, in whichever order its entries came

module _ {A : Type 0} {cmp : A → A → Ordering} (order : IsTotalOrder cmp) (exact : CmpEqualImpliesEq cmp) where
  pub rising-reordered : {xs ys : List A} → IsPermutation xs ys → rising_list cmp xs ≡ rising_list cmp ys
  rising-reordered h = whole-reordered (rising_list cmp) (with_inserted cmp) (λ x xs. refl) (inserted_exchange order exact) h

pub rising_keys_named-reordered : (π : Preference) (t : Data) (f : Family) {ds es : List Data} → IsPermutation ds es → rising_list key_cmp (keys_named π t f ds)
    ≡ rising_list key_cmp (keys_named π t f es)
rising_keys_named-reordered π t f h = rising-reordered key_cmp_total key_cmp_exact (reordered_kept (λ r. option_and_then (key_named π t f) (as_str r)) h)

-- ---- a list that never falls is in order

not_below : (o : Ordering) → is_gt o ≡ false → is_lt (ordering_reverse o) ≡ false
not_below Greater e = cc
not_below d e = refl

module _ {A : Type 0} {cmp : A → A → Ordering} (order : IsTotalOrder cmp) where
  stays_first : (x : A) (ys : List A) → AllByRecursion (λ y. is_gt (cmp x y) ≡ false) ys → with_inserted cmp x ys ≡ x ∷ ys
  stays_first x [] h = refl
  stays_first x (y ∷ ys) h = ap (λ b. cond b (y ∷ with_inserted cmp x ys) (x ∷ (y ∷ ys))) (ap is_lt (order.antisymm y x) ∙ not_below (cmp x y) h.0)

  stays : (xs : List A) → NeverFalls cmp xs → rising_list cmp xs ≡ xs
  stays [] h = refl
  stays (x ∷ xs) h = ap (with_inserted cmp x) (stays xs h.1) ∙ stays_first x xs h.0

-- ---- numbers

not_above : (m n : ℕ) → m ≤ n → is_gt (nat_cmp m n) ≡ false
not_above m n low = by_ranked (m < n) (m ≡ n) (n < m) (nat_cmp m n) (ranked m n _ refl) (λ e _. ap is_gt e) (λ e _. ap is_gt e) (λ _ l. absurd (omega arith))

module _ {A : Type 0} {cmp : A → A → Ordering} (order : IsTotalOrder cmp) (number : A → ℕ)
    (climbs : (a b : A) → is_gt (cmp a b) ≡ false → number a ≤ number b) where
  numbers_never_fall : (xs : List A) → NeverFalls cmp xs → NeverFalls nat_cmp (map number xs)
  numbers_never_fall [] h = tt
  numbers_never_fall (x ∷ xs) h = (
    all_map (λ y. is_gt (cmp x y) ≡ false) (λ n. is_gt (nat_cmp (number x) n) ≡ false) number xs (λ y e. not_above (number x) (number y) (climbs x y e)) h.0,
    numbers_never_fall xs h.1,
  )

  -- sorted numbers are those of the sorted values
  pub numbers_in_order : (xs : List A) (ns : List ℕ) → IsPermutation (map number xs) ns → IsSorted nat_cmp ns → ns ≡ map number (rising_list cmp xs)
  numbers_in_order xs ns same sorted =
      let all : IsPermutation ns (map number (rising_list cmp xs)) =
      IsPermutation-trans _ _ _ (IsPermutation-sym _ _ same) (IsPermutation-map number _ _ (reordered_rising cmp xs)) in
      rising_from_sort nat_cmp nat_cmp_total ns ns sorted (λ z. refl) ∙ (rising-reordered nat_cmp_total exact_unsigned all
      ∙ stays nat_cmp_total (map number (rising_list cmp xs)) (numbers_never_fall (rising_list cmp xs) (rising_never_falls order xs)))

-- ---- ranks

module _ {K X : Type 0} {cmp : K → K → Ordering} (order : IsTotalOrder cmp) (key : X → K) where
  below_too_at : (k l : K) (x : X) (o : Ordering) → cmp k l ≡ o → is_gt o ≡ false → is_lt (cmp (key x) k) ≡ true → is_lt (cmp (key x) l) ≡ true
  below_too_at k l x Less is low below = ap is_lt (order.trans (key x) k l (less (cmp (key x) k) below) is)
  below_too_at k l x Equal is low below = ap is_lt (sym (alike_right order k l (key x) is)) ∙ below
  below_too_at k l x Greater is low below = cc

  -- how many have lesser keys never falls along the order of keys
  pub ranks_climb : (k l : K) (xs : List X) → is_gt (cmp k l) ≡ false → length (filter (λ x. is_lt (cmp (key x) k)) xs) ≤ length
      (filter (λ x. is_lt (cmp (key x) l)) xs)
  ranks_climb k l xs low = no_fewer (λ x. is_lt (cmp (key x) k)) (λ x. is_lt (cmp (key x) l)) (λ x. below_too_at k l x (cmp k l) refl low) xs
