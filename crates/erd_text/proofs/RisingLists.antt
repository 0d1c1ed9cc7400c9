-- A stable sort gives the rising list: a list in order is determined by what ties with each value, in its order.
use Rattle.erd_text.proofs.Common.{◌≡◌, suc, Bool, true, false, cond, not, List, [], ◌∷◌, map, filter, IsSorted, is_lt, Ordering, sym, refl, ap, ◌∙◌, subst}
use Rattle.erd_text.proofs.Common.{add-one, arith, ranks_by, IsStrictWeakOrder, IsTotalOrder, AllByRecursion, IsStable, ties, with_inserted, rising_list, inl}
use Rattle.erd_text.proofs.Common.{inr, not-true, and_parts, tied_itself, cases_Bool, cond_both, true≢false}

-- pairs by their keys
abbrev pub by_first : {K T : Type 0} → (K → K → Ordering) → K × T → K × T → Ordering
by_first cmp a b = cmp a.0 b.0

-- ---- lists in order

module _ {A : Type 0} (cmp : A → A → Ordering) (order : IsTotalOrder cmp) where
  -- the first is below the second
  abbrev pub below : A → A → Bool
  below x y = is_lt (cmp x y)

  abbrev tied : A → A → Bool
  tied = ties below

  -- none of the values is below x
  abbrev pub NoneBelow : A → List A → Type 0
  NoneBelow x ys = AllByRecursion (λ y. below y x ≡ false) ys

  -- no value is below an earlier one
  abbrev pub Rises : List A → Type 0
  Rises [] = Unit {0}
  Rises (x ∷ xs) = NoneBelow x xs × Rises xs

  weak : IsStrictWeakOrder below
  weak = ranks_by order (λ x. x)

  self : (x : A) → below x x ≡ false
  self x = ap is_lt (tied_itself order x)

  none_further : (x y : A) (zs : List A) → below y x ≡ false → NoneBelow y zs → NoneBelow x zs
  none_further x y [] e h = tt
  none_further x y (z ∷ zs) e h = (weak.chain z y x h.0 e, none_further x y zs e h.1)

  -- ---- two lists in order

  tied_self : (x : A) → tied x x ≡ true
  tied_self x = rw (self x)

  not_above : (x y : A) → tied x y ≡ true → below x y ≡ false
  not_above x y e = not-true (below x y) (and_parts (not (below x y)) (not (below y x)) e).0

  not_below : (x y : A) → tied x y ≡ true → below y x ≡ false
  not_below x y e = not-true (below y x) (and_parts (not (below x y)) (not (below y x)) e).1

  -- the first that ties with x, where x is the first of the same elsewhere, is x
  found_above : (x y : A) (rest zs : List A) → NoneBelow y zs → filter (tied x) zs ≡ x ∷ rest → below x y ≡ false
  found_above x y rest [] h e = cc
  found_above x y rest (z ∷ zs) h e = elim (cases_Bool (tied x z)) [
    | inl is ↦ let k : z ∷ filter (tied x) zs ≡ x ∷ rest = rw is at e in let same : z ≡ x = cc in subst (λ w. below w y ≡ false) same h.0
    | inr is ↦ found_above x y rest zs h.1 (rw is at e)
  ]

  least : (x y : A) (rest zs : List A) → NoneBelow y zs → filter (tied x) (y ∷ zs) ≡ x ∷ rest → below x y ≡ false
  least x y rest zs h e = elim (cases_Bool (tied x y)) [ inl is ↦ not_above x y is | inr is ↦ found_above x y rest zs h (rw is at e) ]

  tied_both : (x y : A) → below x y ≡ false → below y x ≡ false → tied x y ≡ true
  tied_both x y e f = rw (e, f)

  kept_first : (x : A) (xs : List A) → filter (tied x) (x ∷ xs) ≡ x ∷ filter (tied x) xs
  kept_first x xs = ap (λ b. cond b (x ∷ filter (tied x) xs) (filter (tied x) xs)) (tied_self x)

  tails : (b : Bool) (x : A) (ps qs : List A) → cond b (x ∷ ps) ps ≡ cond b (x ∷ qs) qs → ps ≡ qs
  tails b x ps qs e = grind arith

  determined : (xs ys : List A) → Rises xs → Rises ys → ((z : A) → filter (tied z) xs ≡ filter (tied z) ys) → xs ≡ ys
  determined [] [] h k same = refl
  determined [] (y ∷ ys) h k same = let e : [] ≡ y ∷ filter (tied y) ys = same y ∙ kept_first y ys in cc
  determined (x ∷ xs) [] h k same = let e : x ∷ filter (tied x) xs ≡ [] = sym (kept_first x xs) ∙ same x in cc
  determined (x ∷ xs) (y ∷ ys) h k same =
      let e = least x y (filter (tied x) xs) ys k.0 (sym (same x) ∙ kept_first x xs) in
      let f = least y x (filter (tied y) ys) xs h.0 (same y ∙ kept_first y ys) in
      let first : x ∷ filter (tied x) xs ≡ y ∷ filter (tied x) ys =
      sym (kept_first x xs) ∙ same x ∙ ap (λ b. cond b (y ∷ filter (tied x) ys) (filter (tied x) ys)) (tied_both x y e f) in
      let one : x ≡ y = cc in
      let rest : xs ≡ ys =
      determined xs ys h.1 k.1
      (λ z. tails (tied z x) x (filter (tied z) xs) (filter (tied z) ys)
      (subst (λ w. filter (tied z) (x ∷ xs) ≡ filter (tied z) (w ∷ ys)) (sym one) (same z))) in
      cc

  -- ---- the rising list

  none_inserted : (y x : A) (ys : List A) → below x y ≡ false → NoneBelow y ys → NoneBelow y (with_inserted cmp x ys)
  none_inserted y x [] e h = (e, tt)
  none_inserted y x (z ∷ zs) e h = cond_both (below z x) (z ∷ with_inserted cmp x zs) (x ∷ (z ∷ zs)) (NoneBelow y)
      (λ _. (h.0, none_inserted y x zs e h.1)) (λ _. (e, h))

  insert_rises : (x : A) (ys : List A) → Rises ys → Rises (with_inserted cmp x ys)
  insert_rises x [] h = (tt, tt)
  insert_rises x (y ∷ ys) h =
      cond_both (below y x) (y ∷ with_inserted cmp x ys) (x ∷ (y ∷ ys)) Rises (λ e. (none_inserted y x ys (weak.one_way y x e) h.0, insert_rises x ys h.1))
      (λ e. ((e, none_further x y ys e h.0), h))

  pub list_rises : (xs : List A) → Rises (rising_list cmp xs)
  list_rises [] = tt
  list_rises (x ∷ xs) = insert_rises x (rising_list cmp xs) (list_rises xs)

  -- what ties with z, where y is below x, can be taken in either order
  exchanged : (z x y : A) (zs : List A) → below y x ≡ true
      → cond (tied z y) (y ∷ cond (tied z x) (x ∷ zs) zs) (cond (tied z x) (x ∷ zs) zs) ≡ cond (tied z x) (x ∷ cond (tied z y) (y ∷ zs) zs)
      (cond (tied z y) (y ∷ zs) zs)
  exchanged z x y zs e = let apart : tied z y ≡ true → tied z x ≡ true → ⊥ = λ f g. true≢false (sym e ∙ weak.chain y z x (not_below z y f) (not_above z x g)) in
      grind (arith, apart)

  insert_stable : (z x : A) (ys : List A) → filter (tied z) (with_inserted cmp x ys) ≡ filter (tied z) (x ∷ ys)
  insert_stable z x [] = refl
  insert_stable z x (y ∷ ys) =
      cond_both (below y x) (y ∷ with_inserted cmp x ys) (x ∷ (y ∷ ys)) (λ ws. filter (tied z) ws ≡ filter (tied z) (x ∷ (y ∷ ys)))
      (λ e. ap (λ ws. cond (tied z y) (y ∷ ws) ws) (insert_stable z x ys) ∙ exchanged z x y (filter (tied z) ys) e) (λ _. refl)

  list_stable : (z : A) (xs : List A) → filter (tied z) (rising_list cmp xs) ≡ filter (tied z) xs
  list_stable z [] = refl
  list_stable z (x ∷ xs) = insert_stable z x (rising_list cmp xs) ∙ ap (λ ws. cond (tied z x) (x ∷ ws) ws) (list_stable z xs)

  -- ---- what a sort ensures

  none_after : (x : A) (ys : List A) → IsSorted cmp (x ∷ ys) → Rises ys → NoneBelow x ys
  none_after x [] h r = tt
  none_after x (y ∷ ys) h r = let e : below y x ≡ false = h 0 x (omega arith) (omega arith) in (e, none_further x y ys e r.0)

  rises : (xs : List A) → IsSorted cmp xs → Rises xs
  rises [] h = tt
  rises (x ∷ xs) h =
      let rest : Rises xs = rises xs (λ k d low high. rw (add-one k) (rw (add-one (suc k)) at (h (suc k) d (omega arith) (omega arith)))) in
      (none_after x xs h rest, rest)

  pub rising_from_sort : (xs ys : List A) → IsSorted cmp ys → IsStable cmp xs ys → ys ≡ rising_list cmp xs
  rising_from_sort xs ys sorted stable = determined ys (rising_list cmp xs) (rises ys sorted) (list_rises xs) (λ z. stable z ∙ sym (list_stable z xs))
  -- ---- what is below a value stands first

-- ---- through a function

with_inserted_map : {A B : Type 0} (f : A → B) (cmp : B → B → Ordering) (x : A) (ys : List A) → map f (with_inserted (λ a b. cmp (f a) (f b)) x ys)
    ≡ with_inserted cmp (f x) (map f ys)
with_inserted_map f cmp x [] = refl
with_inserted_map f cmp x (y ∷ ys) =
    elim (cases_Bool (is_lt (cmp (f y) (f x)))) [ inl is ↦ rw is (ap (λ zs. f y ∷ zs) (with_inserted_map f cmp x ys)) | inr is ↦ rw is refl ]

pub rising_list_map : {A B : Type 0} (f : A → B) (cmp : B → B → Ordering) (xs : List A) → map f (rising_list (λ a b. cmp (f a) (f b)) xs)
    ≡ rising_list cmp (map f xs)
rising_list_map f cmp [] = refl
rising_list_map f cmp (x ∷ xs) = with_inserted_map f cmp x (rising_list (λ a b. cmp (f a) (f b)) xs) ∙ ap (with_inserted cmp (f x)) (rising_list_map f cmp xs)
