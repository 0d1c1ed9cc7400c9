-- Lists in rising order: they have the same entries, they rise, and the position of an entry is its rank.
use Rattle.erd_text.proofs.Common.{◌≡◌, ℕ, zero, suc, ◌<◌, Bool, cond, List, [], ◌∷◌, ◌++◌, length, get_or, slice_set, Some, None, filter, Option}
use Rattle.erd_text.proofs.Common.{option_to_list, swap, flat_map, filter_map, IsPermutation, is_lt, Ordering, sym, refl, ap, ◌∙◌, append_assoc, arith}
use Rattle.erd_text.proofs.Common.{AllByRecursion, cons_option, IsPermutation-refl, IsPermutation-cons, IsPermutation-swap, IsPermutation-sym}
use Rattle.erd_text.proofs.Common.{IsPermutation-trans, with_inserted, rising_list, IsPermutation-append_left, IsPermutation-append_right}
use Rattle.erd_text.proofs.Common.{IsPermutation-append_comm, IsPermutation-keeps, sum_by-IsPermutation, cond_both, ◌≤◌, true, false, map, inl, inr, In, ◌⊎◌}
use Rattle.erd_text.proofs.Common.{subst, length_permutation, slice_get, is_eq, is_gt, Less, Equal, Greater, tied_itself, tied_back, on_total}
use Rattle.erd_text.proofs.Common.{CmpEqualImpliesEq, IsTotalOrder, IsDistinct, IsStrictlySortedBy, eq_by_cmp, ordering_reverse, ⊤, less, all_from_In, In-all}
use Rattle.erd_text.proofs.Common.{all_weakened, in_at, compact_cmp, compact_text, nat_list_cmp_total}
use Rattle.std.proofs.lemmas.List.Sums.{length-filter}
use Rattle.erd_text.proofs.RisingLists.{Rises, list_rises}

-- the first two entries change places
pub two_exchanged : {A : Type 0} {x y : A} {xs : List A} → IsPermutation (x ∷ (y ∷ xs)) (y ∷ (x ∷ xs))
two_exchanged {x = x} {y = y} {xs = xs} = IsPermutation-swap (x ∷ (y ∷ xs)) (y ∷ (x ∷ xs)) 0 1 (omega arith) (omega arith) refl

-- the list in rising order
pub reordered_inserted : {A : Type 0} (cmp : A → A → Ordering) (x : A) (ys : List A) → IsPermutation (x ∷ ys) (with_inserted cmp x ys)
reordered_inserted cmp x [] = IsPermutation-refl (x ∷ [])
reordered_inserted cmp x (y ∷ ys) =
    cond_both (is_lt (cmp y x)) (y ∷ with_inserted cmp x ys) (x ∷ (y ∷ ys)) (IsPermutation (x ∷ (y ∷ ys)))
    (λ _. IsPermutation-trans _ _ _ two_exchanged (IsPermutation-cons y _ _ (reordered_inserted cmp x ys))) (λ _. IsPermutation-refl (x ∷ (y ∷ ys)))

pub reordered_rising : {A : Type 0} (cmp : A → A → Ordering) (xs : List A) → IsPermutation xs (rising_list cmp xs)
reordered_rising cmp [] = IsPermutation-refl []
reordered_rising cmp (x ∷ xs) = IsPermutation-trans _ _ _ (IsPermutation-cons x _ _ (reordered_rising cmp xs)) (reordered_inserted cmp x (rising_list cmp xs))

-- what holds of a list and itself, under a further entry, of two exchanged entries, and from list to list, holds of lists with
-- the same entries
module _ {A : Type 0} (P : List A → List A → Type 0) (same : (xs : List A) → P xs xs)
    (kept : (x : A) (xs ys : List A) → IsPermutation xs ys → P xs ys → P (x ∷ xs) (x ∷ ys))
    (exchanged : (x y : A) (xs : List A) → P (x ∷ (y ∷ xs)) (y ∷ (x ∷ xs)))
    (chain : (xs ys zs : List A) → IsPermutation xs ys → P xs ys → P ys zs → P xs zs) where
  abbrev Along : List A → List A → Type 0
  Along xs ys = IsPermutation xs ys × P xs ys

  link : {xs ys zs : List A} → Along xs ys → Along ys zs → Along xs zs
  link h k = (IsPermutation-trans _ _ _ h.0 k.0, chain _ _ _ h.0 h.1 k.1)

  keep : (x : A) {xs ys : List A} → Along xs ys → Along (x ∷ xs) (x ∷ ys)
  keep x h = (IsPermutation-cons x _ _ h.0, kept x _ _ h.0 h.1)

  first_with : (x d : A) (xs : List A) (j : ℕ) → j < length xs → Along (x ∷ xs) (get_or xs j d ∷ slice_set xs j x)
  first_with x d [] j low = absurd (omega arith)
  first_with x d (y ∷ ys) zero low = (two_exchanged, exchanged x y ys)
  first_with x d (y ∷ ys) (suc j) low =
      link (two_exchanged, exchanged x y ys) (link (keep y (first_with x d ys j (omega arith))) (two_exchanged, exchanged y (get_or ys j d) (slice_set ys j x)))

  both_set : (d : A) (xs : List A) (i j : ℕ) → i < length xs → j < length xs → Along xs (slice_set (slice_set xs i (get_or xs j d)) j (get_or xs i d))
  both_set d [] i j low high = absurd (omega arith)
  both_set d (x ∷ xs) zero zero low high = (IsPermutation-refl (x ∷ xs), same (x ∷ xs))
  both_set d (x ∷ xs) zero (suc j) low high = first_with x d xs j (omega arith)
  both_set d (x ∷ xs) (suc i) zero low high = first_with x d xs i (omega arith)
  both_set d (x ∷ xs) (suc i) (suc j) low high = keep x (both_set d xs i j (omega arith) (omega arith))

  swapped : (xs : List A) (i j : ℕ) → i < length xs → j < length xs → Along xs (swap xs i j)
  swapped [] i j low high = absurd (omega arith)
  swapped (x ∷ xs) i j low high = both_set x (x ∷ xs) i j low high

  pub along_permutation : {xs ys : List A} → IsPermutation xs ys → P xs ys
  along_permutation {xs} {ys} h =
      (IsPermutation-keeps xs (Along xs) (IsPermutation-refl xs, same xs) (λ l i j low high k. link k (swapped l i j low high)) ys h).1

-- ---- what is made of lists with the same entries

pub reordered_flat : {A B : Type 0} (f : A → List B) {xs ys : List A} → IsPermutation xs ys → IsPermutation (flat_map f xs) (flat_map f ys)
reordered_flat f = along_permutation (λ xs ys. IsPermutation (flat_map f xs) (flat_map f ys))
    (λ xs. IsPermutation-refl (flat_map f xs))
    (λ x xs ys p h. IsPermutation-append_right (f x) _ _ h)
    (λ x y xs. rw (← append_assoc (f x), ← append_assoc (f y)) (IsPermutation-append_left (flat_map f xs) _ _ (IsPermutation-append_comm (f x) (f y))))
    (λ xs ys zs p. IsPermutation-trans _ _ _)

-- the values that a function keeps
pub reordered_kept : {A B : Type 0} (f : A → Option B) {xs ys : List A} → IsPermutation xs ys → IsPermutation (filter_map f xs) (filter_map f ys)
reordered_kept {A} {B} f {xs} {ys} h = rw (flat xs, flat ys) (reordered_flat (λ x. option_to_list (f x)) h)
  where
    one : (o : Option B) (zs : List B) → cons_option o zs ≡ option_to_list o ++ zs
    one None zs = refl
    one (Some z) zs = refl

    flat : (zs : List A) → filter_map f zs ≡ flat_map (λ x. option_to_list (f x)) zs
    flat [] = refl
    flat (z ∷ zs) = one (f z) (filter_map f zs) ∙ ap (λ ws. option_to_list (f z) ++ ws) (flat zs)

-- ---- what doesn't depend on the order

-- a value made of a list entry by entry, whose entries change places freely
pub whole-reordered : {A B : Type 0} (whole : List A → B) (step : A → B → B) → ((x : A) (xs : List A) → whole (x ∷ xs) ≡ step x (whole xs))
    → ((x y : A) (b : B) → step x (step y b) ≡ step y (step x b)) → {xs ys : List A} → IsPermutation xs ys → whole xs ≡ whole ys
whole-reordered whole step steps exchanges = along_permutation (λ xs ys. whole xs ≡ whole ys)
    (λ xs. refl)
    (λ x xs ys p h. steps x xs ∙ ap (step x) h ∙ sym (steps x ys))
    (λ x y xs. steps x (y ∷ xs) ∙ ap (step x) (steps y xs) ∙ exchanges x y (whole xs) ∙ ap (step y) (sym (steps x xs)) ∙ sym (steps y (x ∷ xs)))
    (λ xs ys zs p h k. h ∙ k)

-- how many entries pass a test
pub count-reordered : {A : Type 0} (test : A → Bool) {xs ys : List A} → IsPermutation xs ys → length (filter test xs) ≡ length (filter test ys)
count-reordered test {xs} {ys} h = length-filter test xs ∙ sym (sum_by-IsPermutation (λ x. cond (test x) 1 0) xs ys h) ∙ sym (length-filter test ys)

-- what holds of all entries
pub all-reordered : {A : Type 0} (P : A → Type 0) {xs ys : List A} → IsPermutation xs ys → AllByRecursion P xs → AllByRecursion P ys
all-reordered P = along_permutation (λ xs ys. AllByRecursion P xs → AllByRecursion P ys) (λ xs all. all) (λ x xs ys p h all. (all.0, h all.1))
    (λ x y xs all. (all.1.0, (all.0, all.1.1))) (λ xs ys zs p h k all. k (h all))

-- what stands in the list
pub reordered-In : {A : Type 0} {xs ys : List A} (z : A) → IsPermutation xs ys → In z xs → In z ys
reordered-In {xs = xs} {ys = ys} z h i =
    In-all (λ z. In z ys) z xs (all-reordered (λ z. In z ys) (IsPermutation-sym xs ys h) (all_from_In (λ z. In z ys) ys (λ w j. j))) i

-- ---- a test that passes more

module _ {A : Type 0} (test more : A → Bool) (too : (y : A) → test y ≡ true → more y ≡ true) where
  pub no_fewer : (xs : List A) → length (filter test xs) ≤ length (filter more xs)
  no_fewer [] = omega arith
  no_fewer (x ∷ xs) = grind (arith, no_fewer xs, too x)

  -- more pass a test that one entry passes which fails the other
  pub more_pass : (x : A) (xs : List A) → test x ≡ false → more x ≡ true → In x xs → length (filter test xs) < length (filter more xs)
  more_pass x [] fails passes h = absurd h
  more_pass x (y ∷ ys) fails passes (inl e) = let first : y ≡ x = e in grind (arith, no_fewer ys, ap test e, ap more e)
  more_pass x (y ∷ ys) fails passes (inr i) = grind (arith, more_pass x ys fails passes i, too y)

-- ---- after a map

-- how many values of a map pass a test
pub count_map : {A B : Type 0} (f : A → B) (test : B → Bool) (xs : List A) → length (filter test (map f xs)) ≡ length (filter (λ x. test (f x)) xs)
count_map f test [] = refl
count_map f test (x ∷ xs) = grind (arith, count_map f test xs)

-- how many entries pass a test, in rising order
pub count-rising : {A : Type 0} (cmp : A → A → Ordering) (test : A → Bool) (xs : List A) → length (filter test (rising_list cmp xs)) ≡ length (filter test xs)
count-rising cmp test xs = sym (count-reordered test (reordered_rising cmp xs))

-- ---- what doesn't depend on the order of a list

pub length-rising : {A : Type 0} (cmp : A → A → Ordering) (xs : List A) → length (rising_list cmp xs) ≡ length xs
length-rising cmp xs = length_permutation xs _ (reordered_rising cmp xs)

-- ---- what stands in the list

pub In-inserted : {A : Type 0} (cmp : A → A → Ordering) (x z : A) (ys : List A) → In z (with_inserted cmp x ys) → (x ≡ z) ⊎ In z ys
In-inserted cmp x z ys h = reordered-In z (IsPermutation-sym _ _ (reordered_inserted cmp x ys)) h

pub In-rising : {A : Type 0} (cmp : A → A → Ordering) (z : A) (xs : List A) → In z (rising_list cmp xs) → In z xs
In-rising cmp z xs h = reordered-In z (IsPermutation-sym _ _ (reordered_rising cmp xs)) h

pub rising-In : {A : Type 0} (cmp : A → A → Ordering) (z : A) (xs : List A) → In z xs → In z (rising_list cmp xs)
rising-In cmp z xs h = reordered-In z (reordered_rising cmp xs) h

-- ---- answers of a comparison

module _ {A : Type 0} {cmp : A → A → Ordering} (order : IsTotalOrder cmp) where
  pub greater_turned : (x y : A) → cmp x y ≡ Greater → cmp y x ≡ Less
  greater_turned x y e = order.antisymm y x ∙ ap ordering_reverse e

  pub less_turned : (x y : A) → cmp x y ≡ Less → cmp y x ≡ Greater
  less_turned x y e = order.antisymm y x ∙ ap ordering_reverse e

-- ---- two values go in, one after the other: the list is the same, whichever goes in first

module _ {A : Type 0} {cmp : A → A → Ordering} (order : IsTotalOrder cmp) where
  goes_after : (x z : A) (zs : List A) → is_lt (cmp z x) ≡ true → with_inserted cmp x (z ∷ zs) ≡ z ∷ with_inserted cmp x zs
  goes_after x z zs e = ap (λ b. cond b (z ∷ with_inserted cmp x zs) (x ∷ (z ∷ zs))) e

  goes_before : (x z : A) (zs : List A) → is_lt (cmp z x) ≡ false → with_inserted cmp x (z ∷ zs) ≡ x ∷ (z ∷ zs)
  goes_before x z zs e = ap (λ b. cond b (z ∷ with_inserted cmp x zs) (x ∷ (z ∷ zs))) e

  lesser_at : (x y z : A) (zs : List A) (p q : Bool) → cmp x y ≡ Less → is_lt (cmp z x) ≡ p → is_lt (cmp z y) ≡ q
      → with_inserted cmp x (with_inserted cmp y zs) ≡ with_inserted cmp y (with_inserted cmp x zs)
      → with_inserted cmp x (with_inserted cmp y (z ∷ zs)) ≡ with_inserted cmp y (with_inserted cmp x (z ∷ zs))
  lesser_at x y z zs true true e p q more =
      ap (with_inserted cmp x) (goes_after y z zs q) ∙ goes_after x z (with_inserted cmp y zs) p ∙ ap (λ ws. z ∷ ws) more
      ∙ sym (ap (with_inserted cmp y) (goes_after x z zs p) ∙ goes_after y z (with_inserted cmp x zs) q)
  lesser_at x y z zs true false e p q more =
      let h : true ≡ false = sym (ap is_lt (order.trans z x y (less (cmp z x) p) e)) ∙ q in cc
  lesser_at x y z zs false true e p q more =
      ap (with_inserted cmp x) (goes_after y z zs q) ∙ goes_before x z (with_inserted cmp y zs) p
      ∙ sym (ap (with_inserted cmp y) (goes_before x z zs p) ∙ goes_after y x (z ∷ zs) (ap is_lt e) ∙ ap (λ ws. x ∷ ws) (goes_after y z zs q))
  lesser_at x y z zs false false e p q more =
      ap (with_inserted cmp x) (goes_before y z zs q) ∙ goes_before x y (z ∷ zs) (ap is_lt (less_turned order x y e))
      ∙ sym (ap (with_inserted cmp y) (goes_before x z zs p) ∙ goes_after y x (z ∷ zs) (ap is_lt e) ∙ ap (λ ws. x ∷ ws) (goes_before y z zs q))

  lesser_first : (x y : A) (zs : List A) → cmp x y ≡ Less → with_inserted cmp x (with_inserted cmp y zs) ≡ with_inserted cmp y (with_inserted cmp x zs)
  lesser_first x y [] e = goes_before x y [] (ap is_lt (less_turned order x y e)) ∙ sym (goes_after y x [] (ap is_lt e))
  lesser_first x y (z ∷ zs) e = lesser_at x y z zs (is_lt (cmp z x)) (is_lt (cmp z y)) e refl refl (lesser_first x y zs e)

  module _ (exact : CmpEqualImpliesEq cmp) where
    exchanged_at : (x y : A) (zs : List A) (o : Ordering) → cmp x y ≡ o → with_inserted cmp x (with_inserted cmp y zs) ≡ with_inserted cmp y
        (with_inserted cmp x zs)
    exchanged_at x y zs Less e = lesser_first x y zs e
    exchanged_at x y zs Equal e = let same : x ≡ y = exact x y e in ap (λ w. with_inserted cmp w (with_inserted cmp y zs)) same
        ∙ ap (λ w. with_inserted cmp y (with_inserted cmp w zs)) (sym same)
    exchanged_at x y zs Greater e = sym (lesser_first y x zs (greater_turned order x y e))

    pub inserted_exchange : (x y : A) (zs : List A) → with_inserted cmp x (with_inserted cmp y zs) ≡ with_inserted cmp y (with_inserted cmp x zs)
    inserted_exchange x y zs = exchanged_at x y zs (cmp x y) refl

-- ---- orders that agree on the entries of a list sort it alike

-- what holds of each entry of a list holds of each after a sort
pub all_rising : {A : Type 0} (P : A → Type 0) (cmp : A → A → Ordering) (xs : List A) → AllByRecursion P xs → AllByRecursion P (rising_list cmp xs)
all_rising P cmp xs h = all-reordered P (reordered_rising cmp xs) h

module _ {A : Type 0} (P : A → Type 0) (one other : A → A → Ordering) (same : (a b : A) → P a → P b → one a b ≡ other a b) where
  inserted_alike : (x : A) (ys : List A) → P x → AllByRecursion P ys → with_inserted one x ys ≡ with_inserted other x ys
  inserted_alike x [] p h = refl
  inserted_alike x (y ∷ ys) p h =
      ap (λ b. cond b (y ∷ with_inserted one x ys) (x ∷ (y ∷ ys))) (ap is_lt (same y x h.0 p))
      ∙ ap (λ zs. cond (is_lt (other y x)) (y ∷ zs) (x ∷ (y ∷ ys))) (inserted_alike x ys p h.1)

  pub rising_alike : (xs : List A) → AllByRecursion P xs → rising_list one xs ≡ rising_list other xs
  rising_alike [] h = refl
  rising_alike (x ∷ xs) h = inserted_alike x (rising_list one xs) h.0 (all_rising P one xs h.1) ∙ ap (with_inserted other x) (rising_alike xs h.1)

-- ---- it rises: strictly, if no two entries compare as equal

level : (o : Ordering) → is_eq o ≡ false → o ≡ Equal → ⊥
level o e is = let h : true ≡ false = ap is_eq (sym is) ∙ e in cc

-- no entry is above a later one
abbrev pub NeverFalls : {A : Type 0} → (A → A → Ordering) → List A → Type 0
NeverFalls cmp [] = ⊤
NeverFalls cmp (x ∷ xs) = AllByRecursion (λ y. is_gt (cmp x y) ≡ false) xs × NeverFalls cmp xs

module _ {A : Type 0} {cmp : A → A → Ordering} (order : IsTotalOrder cmp) where
  -- ---- lists that rise strictly

  inserted_strictly_at : (x y : A) (ys : List A) (o : Ordering) → cmp y x ≡ o → IsStrictlySortedBy cmp (y ∷ ys)
      → AllByRecursion (λ z. eq_by_cmp cmp x z ≡ false) (y ∷ ys)
      → IsStrictlySortedBy cmp (with_inserted cmp x ys) → IsStrictlySortedBy cmp (cond (is_lt o) (y ∷ with_inserted cmp x ys) (x ∷ (y ∷ ys)))
  unfolding IsStrictlySortedBy
  inserted_strictly_at x y ys Less is rise apart more =
      let below : (z : A) → In z (with_inserted cmp x ys) → cmp y z ≡ Less =
      λ z i. elim (In-inserted cmp x z ys i) [ inl e ↦ subst (λ w. cmp y w ≡ Less) e is | inr k ↦ In-all (λ w. cmp y w ≡ Less) z ys rise.0 k ] in
      (all_from_In (λ z. cmp y z ≡ Less) (with_inserted cmp x ys) below, more)
  inserted_strictly_at x y ys Equal is rise apart more = absurd (level (cmp x y) apart.0 (tied_back order y x is))
  inserted_strictly_at x y ys Greater is rise apart more =
      let first : cmp x y ≡ Less = greater_turned order y x is in
      let below : (z : A) → In z ys → cmp x z ≡ Less = λ z i. order.trans x y z first (In-all (λ w. cmp y w ≡ Less) z ys rise.0 i) in
      ((first, all_from_In (λ z. cmp x z ≡ Less) ys below), rise)

  pub inserted_strictly : (x : A) (ys : List A) → IsStrictlySortedBy cmp ys → AllByRecursion (λ z. eq_by_cmp cmp x z ≡ false) ys
      → IsStrictlySortedBy cmp (with_inserted cmp x ys)
  unfolding IsStrictlySortedBy
  inserted_strictly x [] rise apart = (tt, tt)
  inserted_strictly x (y ∷ ys) rise apart = inserted_strictly_at x y ys (cmp y x) refl rise apart (inserted_strictly x ys rise.1 apart.1)

  -- no two entries of the list compare as equal
  pub rising_strictly : (xs : List A) → IsDistinct (eq_by_cmp cmp) xs → IsStrictlySortedBy cmp (rising_list cmp xs)
  unfolding IsStrictlySortedBy IsDistinct
  rising_strictly [] h = tt
  rising_strictly (x ∷ xs) h =
      let apart = all_from_In (λ z. eq_by_cmp cmp x z ≡ false) (rising_list cmp xs)
      (λ z i. In-all (λ z. eq_by_cmp cmp x z ≡ false) z xs h.0 (In-rising cmp z xs i)) in
      inserted_strictly x (rising_list cmp xs) (rising_strictly xs h.1) apart

  -- ---- lists that don't fall

  falls_never : (xs : List A) → Rises cmp order xs → NeverFalls cmp xs
  falls_never [] h = tt
  falls_never (x ∷ xs) h = (
    all_weakened (λ y. is_lt (cmp y x) ≡ false) (λ y. is_gt (cmp x y) ≡ false) xs (λ y e. ap is_gt (order.antisymm x y) ∙ turned (cmp y x) ∙ e) h.0,
    falls_never xs h.1,
  )
    where
      turned : (o : Ordering) → is_gt (ordering_reverse o) ≡ is_lt o
      turned o = grind arith

  -- entries may compare as equal here
  pub rising_never_falls : (xs : List A) → NeverFalls cmp (rising_list cmp xs)
  rising_never_falls xs = falls_never (rising_list cmp xs) (list_rises cmp order xs)

-- ---- the position of an entry is how many entries are below it

-- how many entries of a list are below a value
abbrev pub rank_in : {A : Type 0} → (A → A → Ordering) → A → List A → ℕ
rank_in cmp x xs = length (filter (λ y. is_lt (cmp y x)) xs)

-- an entry that fails a test, and one that passes, in front
pub fails_first : {A : Type 0} (test : A → Bool) (x : A) (xs : List A) → test x ≡ false → length (filter test (x ∷ xs)) ≡ length (filter test xs)
fails_first test x xs e = ap (λ b. length (cond b (x ∷ filter test xs) (filter test xs))) e

pub passes_first : {A : Type 0} (test : A → Bool) (x : A) (xs : List A) → test x ≡ true → length (filter test (x ∷ xs)) ≡ suc (length (filter test xs))
passes_first test x xs e = ap (λ b. length (cond b (x ∷ filter test xs) (filter test xs))) e

none_passes : {A : Type 0} (test : A → Bool) (xs : List A) → AllByRecursion (λ y. test y ≡ false) xs → length (filter test xs) ≡ 0
none_passes test [] h = refl
none_passes test (x ∷ xs) h = fails_first test x xs h.0 ∙ none_passes test xs h.1

module _ {A : Type 0} {cmp : A → A → Ordering} (order : IsTotalOrder cmp) where
  -- nothing is below the first of a list that rises
  first_rank : (x : A) (xs : List A) → AllByRecursion (λ y. cmp x y ≡ Less) xs → rank_in cmp x (x ∷ xs) ≡ 0
  first_rank x xs h = none_passes (λ y. is_lt (cmp y x)) (x ∷ xs) (
    ap is_lt (tied_itself order x),
    all_from_In (λ y. is_lt (cmp y x) ≡ false) xs (λ y i. ap is_lt (less_turned order x y (In-all (λ y. cmp x y ≡ Less) y xs h i))),
  )

  rank_at_strictly : (xs : List A) (i : ℕ) (x : A) → IsStrictlySortedBy cmp xs → slice_get xs i ≡ Some x → rank_in cmp x xs ≡ i
  unfolding IsStrictlySortedBy
  rank_at_strictly [] i x rise e = cc
  rank_at_strictly (y ∷ xs) zero x rise e =
      let same : y ≡ x = cc in subst (λ z. rank_in cmp z (y ∷ xs) ≡ 0) same (first_rank y xs rise.0)
  rank_at_strictly (y ∷ xs) (suc i) x rise e =
      let below : cmp y x ≡ Less = In-all (λ z. cmp y z ≡ Less) x xs rise.0 (in_at xs i x e) in
      passes_first (λ z. is_lt (cmp z x)) y xs (ap is_lt below) ∙ ap suc (rank_at_strictly xs i x rise.1 e)

  stands_at_strictly : (xs : List A) (x : A) → IsStrictlySortedBy cmp xs → In x xs → slice_get xs (rank_in cmp x xs) ≡ Some x
  unfolding IsStrictlySortedBy
  stands_at_strictly [] x rise h = absurd h
  stands_at_strictly (y ∷ xs) x rise (inl e) =
      subst (λ z. slice_get (y ∷ xs) (rank_in cmp z (y ∷ xs)) ≡ Some z) e (ap (slice_get (y ∷ xs)) (first_rank y xs rise.0))
  stands_at_strictly (y ∷ xs) x rise (inr i) =
      let below : cmp y x ≡ Less = In-all (λ z. cmp y z ≡ Less) x xs rise.0 i in
      ap (slice_get (y ∷ xs)) (passes_first (λ z. is_lt (cmp z x)) y xs (ap is_lt below)) ∙ stands_at_strictly xs x rise.1 i

  -- the rank of the entry at a position is the position
  pub rank_at : (xs : List A) (i : ℕ) (x : A) → IsDistinct (eq_by_cmp cmp) xs → slice_get (rising_list cmp xs) i ≡ Some x → rank_in cmp x xs ≡ i
  rank_at xs i x apart e = sym (count-rising cmp (λ y. is_lt (cmp y x)) xs) ∙ rank_at_strictly (rising_list cmp xs) i x (rising_strictly order xs apart) e

  -- an entry stands at the position that is its rank
  pub stands_at_rank : (xs : List A) (x : A) → IsDistinct (eq_by_cmp cmp) xs → In x xs → slice_get (rising_list cmp xs) (rank_in cmp x xs) ≡ Some x
  stands_at_rank xs x apart i =
      ap (slice_get (rising_list cmp xs)) (sym (count-rising cmp (λ y. is_lt (cmp y x)) xs)) ∙ stands_at_strictly (rising_list cmp xs) x
      (rising_strictly order xs apart) (rising-In cmp x xs i)

-- ranks by a part of the entries, where the entries are the values of a map
pub rank_map : {A B K : Type 0} (f : A → B) (key : B → K) (cmp : K → K → Ordering) (k : K) (xs : List A)
    → length (filter (λ b. is_lt (cmp (key b) k)) (map f xs)) ≡ length (filter (λ a. is_lt (cmp (key (f a)) k)) xs)
rank_map f key cmp k xs = count_map f (λ b. is_lt (cmp (key b) k)) xs

-- the rank of the entry at a position, by a part of the entries
pub rank_by_at : {A K : Type 0} (key : A → K) (cmp : K → K → Ordering) → IsTotalOrder cmp → (xs : List A) (i : ℕ) (x : A)
    → IsDistinct (λ a b. eq_by_cmp cmp (key a) (key b)) xs
    → slice_get (rising_list (λ a b. cmp (key a) (key b)) xs) i ≡ Some x → length (filter (λ y. is_lt (cmp (key y) (key x))) xs) ≡ i
rank_by_at key cmp order xs i x apart e = rank_at (on_total key order) xs i x apart e

-- ---- compact texts

pub compact_cmp_total : IsTotalOrder compact_cmp
compact_cmp_total = on_total compact_text nat_list_cmp_total
