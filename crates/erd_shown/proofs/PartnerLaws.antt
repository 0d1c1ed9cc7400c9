-- Partners are each other's.
use Rattle.erd_text.proofs.Common.{◌≡◌, ℕ, zero, suc, ◌+◌, ◌≤◌, Bool, true, false, cond, ◌&&◌, List, [], ◌∷◌, ◌==◌, Some, None, Option, option_map}
use Rattle.erd_text.proofs.Common.{sym, refl, ap, ap₂, ◌∙◌, arith, slice_get, ne_eqb, and_parts, Decides-eqb}
use Rattle.std.proofs.lemmas.Option.{slice_get-map}
use Rattle.std.proofs.lemmas.Cmp.{nat_eq_equiv}
use Rattle.std.specs.Cmp.{IsEquivalence}
use Rattle.std.specs.Option.{option_or}
use Rattle.erd_shown.specs.Partners.{is_same_occurrence, occurrences, occurrences_after, partners, place_from, times}
use Rattle.erd_shown.proofs.PartnerLists.{times_of_one}

module _ {K : Type 0} (same : K → K → Bool) (laws : IsEquivalence same) where
  one_more_time : (x q : K) (ys : List K) → times same q ys ≤ times same q (x ∷ ys)
  one_more_time x q ys = at (same q x)
    where
      at : (b : Bool) → times same q ys ≤ cond b (suc (times same q ys)) (times same q ys)
      at true = omega arith
      at false = omega arith

  -- what has stood more often is not this occurrence
  unlike : (x : K) (q : K × ℕ) (before : List K) → suc q.1 ≤ times same q.0 before → is_same_occurrence same (x, times same x before) q ≡ false
  unlike x q before low = at (same x q.0) refl
    where
      at : (b : Bool) → same x q.0 ≡ b → (b && (times same x before == q.1)) ≡ false
      at true e = let one : times same x before ≡ times same q.0 before = times_of_one same laws x q.0 e before in
          ne_eqb (times same x before) q.1 (λ f. omega (arith, low, one, f))
      at false e = refl

  none_later : (q : K × ℕ) (before xs : List K) (i : ℕ) → suc q.1 ≤ times same q.0 before → place_from same i (occurrences_after same before xs) q ≡ None
  none_later q before [] i low = refl
  none_later q before (x ∷ xs) i low =
      let more : times same q.0 before ≤ times same q.0 (x ∷ before) = one_more_time x q.0 before in
      ap₂ (λ o b. option_or o (cond b (Some i) None)) (none_later q (x ∷ before) xs (i + 1) (omega (arith, low, more))) (unlike x q before low)

  -- the occurrence that stands at a place is found there
  pub found_at : (before xs : List K) (k i : ℕ) (p q : K × ℕ) → slice_get (occurrences_after same before xs) i ≡ Some p → is_same_occurrence same p q ≡ true
      → place_from same k (occurrences_after same before xs) q ≡ Some (k + i)
  found_at before [] k zero p q e s = cc
  found_at before [] k (suc i) p q e s = cc
  found_at before (x ∷ xs) k zero p q e s =
      let head : (x, times same x before) ≡ p = cc in
      let alike : is_same_occurrence same (x, times same x before) q ≡ true = ap (λ r. is_same_occurrence same r q) head ∙ s in
      ap₂ (λ o b. option_or o (cond b (Some k) None)) (none_later q (x ∷ before) xs (k + 1) (stood x q before alike)) alike
      ∙ ap Some (let none : k ≡ k + 0 = omega arith in none)
    where
      stood : (x : K) (q : K × ℕ) (before : List K) → is_same_occurrence same (x, times same x before) q ≡ true → suc q.1 ≤ times same q.0 (x ∷ before)
      stood x q before alike = at (same x q.0) refl (times same x before == q.1) refl alike
        where
          at : (b : Bool) → same x q.0 ≡ b → (c : Bool) → (times same x before == q.1) ≡ c → (b && c) ≡ true → suc q.1 ≤ times same q.0 (x ∷ before)
          at true e true f g =
              let one : times same x before ≡ times same q.0 before = times_of_one same laws x q.0 e before in
              let count : times same x before ≡ q.1 = (Decides-eqb (times same x before) q.1).0 f in
              let here : times same q.0 (x ∷ before) ≡ suc (times same q.0 before) =
              ap (λ b. cond b (suc (times same q.0 before)) (times same q.0 before)) (laws.symm q.0 x ∙ e) in
              omega (arith, one, count, here)
          at true e false f g = cc
          at false e c f g = cc
  found_at before (x ∷ xs) k (suc i) p q e s =
      ap (λ o. option_or o (cond (is_same_occurrence same (x, times same x before) q) (Some k) None)) (found_at (x ∷ before) xs (k + 1) i p q e s)
      ∙ ap Some (let next : k + 1 + i ≡ k + suc i = omega arith in next)

  -- what is found is that occurrence
  abbrev IsFound : List (K × ℕ) → ℕ → ℕ → K × ℕ → Type 0
  IsFound qs k j p = (h : ℕ) × (q : K × ℕ) × (j ≡ k + h) × (slice_get qs h ≡ Some q) × (is_same_occurrence same q p ≡ true)

  found_is : (qs : List (K × ℕ)) (k j : ℕ) (p : K × ℕ) → place_from same k qs p ≡ Some j → IsFound qs k j p
  found_is [] k j p e = cc
  found_is (q ∷ qs) k j p e = at (place_from same (k + 1) qs p) refl (is_same_occurrence same q p) refl e (λ f. found_is qs (k + 1) j p f)
    where
      at : (o : Option ℕ) → place_from same (k + 1) qs p ≡ o → (b : Bool) → is_same_occurrence same q p ≡ b → option_or o (cond b (Some k) None) ≡ Some j
          → (place_from same (k + 1) qs p ≡ Some j → IsFound qs (k + 1) j p) → IsFound (q ∷ qs) k j p
      at (Some m) f b s g later =
          let rest = later (f ∙ g) in
          let place : j ≡ k + suc rest.0 = omega (arith, rest.2) in
          (suc rest.0, rest.1, place, rest.3, rest.4)
      at None f true s g later = let here : k ≡ j = cc in let place : j ≡ k + 0 = omega (arith, here) in (0, q, place, refl, s)
      at None f false s g later = cc

  turned : (p q : K × ℕ) → is_same_occurrence same p q ≡ is_same_occurrence same q p
  turned p q = ap₂ (λ a b. a && b) (laws.symm p.0 q.0) (nat_eq_equiv.symm p.1 q.1)

  pub each_other : (xs ys : List K) (i j : ℕ) → slice_get (partners same xs ys) i ≡ Some (Some j) → slice_get (partners same ys xs) j ≡ Some (Some i)
  each_other xs ys i j e =
      at (slice_get (occurrences same xs) i) refl (sym (slice_get-map (place_from same 0 (occurrences same ys)) (occurrences same xs) i) ∙ e)
    where
      at : (o : Option (K × ℕ)) → slice_get (occurrences same xs) i ≡ o → option_map (place_from same 0 (occurrences same ys)) o ≡ Some (Some j)
          → slice_get (partners same ys xs) j ≡ Some (Some i)
      at None f g = cc
      at (Some p) f g =
          let found : place_from same 0 (occurrences same ys) p ≡ Some j = cc in
          let there = found_is (occurrences same ys) 0 j p found in
          let place : there.0 ≡ j = omega (arith, there.2) in
          let other : slice_get (occurrences same ys) j ≡ Some there.1 = ap (slice_get (occurrences same ys)) (sym place) ∙ there.3 in
          slice_get-map (place_from same 0 (occurrences same xs)) (occurrences same ys) j
          ∙ ap (option_map (place_from same 0 (occurrences same xs))) other
          ∙ ap Some (found_at [] xs 0 i p there.1 f (turned p there.1 ∙ there.4) ∙ ap Some (let start : 0 + i ≡ i = omega arith in start))

  -- ---- what partners are

  pub first_of : (before xs : List K) (i : ℕ) (p : K × ℕ) → slice_get (occurrences_after same before xs) i ≡ Some p → slice_get xs i ≡ Some p.0
  first_of before [] zero p e = cc
  first_of before [] (suc i) p e = cc
  first_of before (x ∷ xs) zero p e = let head : (x, times same x before) ≡ p = cc in ap (λ q. Some q.0) head
  first_of before (x ∷ xs) (suc i) p e = first_of (x ∷ before) xs i p e

  -- partners are one thing
  pub one_thing : (xs ys : List K) (i j : ℕ) → slice_get (partners same xs ys) i ≡ Some (Some j)
      → (x : K) × (y : K) × (slice_get xs i ≡ Some x) × (slice_get ys j ≡ Some y) × (same y x ≡ true)
  one_thing xs ys i j e =
      at (slice_get (occurrences same xs) i) refl (sym (slice_get-map (place_from same 0 (occurrences same ys)) (occurrences same xs) i) ∙ e)
    where
      at : (o : Option (K × ℕ)) → slice_get (occurrences same xs) i ≡ o → option_map (place_from same 0 (occurrences same ys)) o ≡ Some (Some j)
          → (x : K) × (y : K) × (slice_get xs i ≡ Some x) × (slice_get ys j ≡ Some y) × (same y x ≡ true)
      at None f g = cc
      at (Some p) f g =
          let found : place_from same 0 (occurrences same ys) p ≡ Some j = cc in
          let there = found_is (occurrences same ys) 0 j p found in
          let place : there.0 ≡ j = omega (arith, there.2) in
          let other : slice_get (occurrences same ys) j ≡ Some there.1 = ap (slice_get (occurrences same ys)) (sym place) ∙ there.3 in
          (p.0, there.1.0, first_of [] xs i p f, first_of [] ys j there.1 other, (and_parts (same there.1.0 p.0) (there.1.1 == p.1) there.4).0)
