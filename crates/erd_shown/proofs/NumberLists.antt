-- Numbers that are given to things.
use Rattle.std.proofs.Common.{◌≡◌, ℕ, ◌+◌, ◌<◌, Bool, true, false, cond, List, [], ◌∷◌, ◌++◌, map, drop, ◌==◌, Some, None, Option, nat_cmp}
use Rattle.std.proofs.Common.{unwrap_or, sym, refl, ap, ap₂, ◌∙◌, arith, append_assoc, append-nil, subst}
use Rattle.std.proofs.lemmas.Bool.Decides.{Decides-eqb}
use Rattle.std.proofs.lemmas.List.{map-append}
use Rattle.std.specs.Cmp.{IsEquivalence, both_ways, unsigned_tied}
use Rattle.std.specs.List.{AllByRecursion}
use Rattle.std.specs.Map.{lookup}
use Rattle.std.specs.Ordering.{eq_by_cmp}
use Rattle.erd_shown.specs.Partners.{partners}
use Rattle.erd_shown.specs.code.NumbersGiven.{AreAllNumbered, AreDistinct, AreKept, AreNumbered, IsGrown, IsNumbered}
use Rattle.erd_shown.proofs.PartnerLists.{partners_within}

module _ {K : Type 0} (same : K → K → Bool) (laws : IsEquivalence same) where
  -- a map has one value for things that are the same
  found_alike : (x y : K) → same x y ≡ true → (es : List (K × ℕ)) → lookup (same x) es ≡ lookup (same y) es
  found_alike x y one [] = refl
  found_alike x y one (e ∷ es) = ap₂ (λ b o. cond b (Some e.1) o) (laws.congr x y e.0 one) (found_alike x y one es)

  -- a thing that has a number keeps it
  pub has_number : (x : K) (es : List (K × ℕ)) (next n : ℕ) → lookup (same x) es ≡ Some n → IsNumbered same x es next es next n
  has_number x es next n found = record { grown = record { kept = λ y m h. h; distinct = λ d. d }; has = found }

  -- a thing that has none gets the next one
  module _ (x : K) (old new : List (K × ℕ)) (n next : ℕ) (lacks : lookup (same x) old ≡ None) (is : next ≡ n + 1)
      (updates : (q : K) → lookup (same q) new ≡ cond (same x q) (Some n) (lookup (same q) old)) where
    given_kept : AreKept same old new
    given_kept q m h = updates q ∙ at (same x q) refl
      where
        at : (b : Bool) → same x q ≡ b → cond b (Some n) (lookup (same q) old) ≡ Some m
        at true e = let none : lookup (same q) old ≡ None = sym (found_alike x q e old) ∙ lacks in cc
        at false e = h

    given_below : AreDistinct same old n → (q : K) (m : ℕ) → lookup (same q) new ≡ Some m → m < next
    given_below d q m h = at (same x q) (sym (updates q) ∙ h)
      where
        at : (b : Bool) → cond b (Some n) (lookup (same q) old) ≡ Some m → m < next
        at true e = let one : n ≡ m = cc in omega (arith, one, is)
        at false e = omega (arith, d.below q m e, is)

    given_one : AreDistinct same old n → (p q : K) (m : ℕ) → lookup (same p) new ≡ Some m → lookup (same q) new ≡ Some m → same p q ≡ true
    given_one d p q m f g = at (same x p) refl (same x q) refl (sym (updates p) ∙ f) (sym (updates q) ∙ g)
      where
        at : (a : Bool) → same x p ≡ a → (b : Bool) → same x q ≡ b → cond a (Some n) (lookup (same p) old) ≡ Some m
            → cond b (Some n) (lookup (same q) old) ≡ Some m → same p q ≡ true
        at true i true j f g = sym (laws.congr x p q i) ∙ j
        at true i false j f g = let one : n ≡ m = cc in absurd (omega (arith, one, d.below q m g))
        at false i true j f g = let one : n ≡ m = cc in absurd (omega (arith, one, d.below p m f))
        at false i false j f g = d.one p q m f g

    pub gets_number : IsNumbered same x old n new next n
    gets_number = record {
      grown = record { kept = given_kept; distinct = λ d. record { below = given_below d; one = given_one d } };
      has = updates x ∙ ap (λ b. cond b (Some n) (lookup (same x) old)) (laws.refl x);
    }

module _ {K : Type 0} (same : K → K → Bool) where
  -- things keep their numbers
  pub all_kept : (old new : List (K × ℕ)) → AreKept same old new → (xs : List K) (ns : List ℕ) → map (λ x. lookup (same x) old) xs ≡ map Some ns
      → map (λ x. lookup (same x) new) xs ≡ map Some ns
  all_kept old new kept [] [] e = refl
  all_kept old new kept [] (n ∷ ns) e = cc
  all_kept old new kept (x ∷ xs) [] e = cc
  all_kept old new kept (x ∷ xs) (n ∷ ns) e =
      let first : lookup (same x) old ≡ Some n = cc in
      let rest : map (λ x. lookup (same x) old) xs ≡ map Some ns = cc in
      ap₂ ◌∷◌ (kept x n first) (all_kept old new kept xs ns rest)

  pub grown_twice : (a b c : List (K × ℕ)) (i j k : ℕ) → IsGrown same a i b j → IsGrown same b j c k → IsGrown same a i c k
  grown_twice a b c i j k one two = record { kept = λ x n h. two.kept x n (one.kept x n h); distinct = λ d. two.distinct (one.distinct d) }

  -- the first things of a list have numbers
  pub record HaveNumbers (things : List K) (i : ℕ) (old : List (K × ℕ)) (before : ℕ) (new : List (K × ℕ)) (next : ℕ) (ns : List ℕ) : Type 0 where
    pub first : List K
    pub splits : first ++ drop i things ≡ things
    pub numbered : AreAllNumbered same first old before new next ns

  pub numbered_none : (things : List K) (old : List (K × ℕ)) (before : ℕ) (ns : List ℕ) → ns ≡ [] → HaveNumbers things 0 old before old before ns
  numbered_none things old before ns none = record {
    first = [];
    splits = refl;
    numbered = record { grown = record { kept = λ x n h. h; distinct = λ d. d }; have = sym (ap (map Some) none) };
  }

  pub numbered_one : (things : List K) (i : ℕ) (x : K) (old m n : List (K × ℕ)) (before j k number : ℕ) (ns more : List ℕ)
      → drop i things ≡ x ∷ drop (i + 1) things → more ≡ ns ++ number ∷ [] → IsNumbered same x m j n k number
      → HaveNumbers things i old before m j ns → HaveNumbers things (i + 1) old before n k more
  numbered_one things i x old m n before j k number ns more rest pushed one had = record {
    first = had.first ++ x ∷ [];
    splits = append_assoc had.first (x ∷ []) (drop (i + 1) things) ∙ ap (λ xs. had.first ++ xs) (sym rest) ∙ had.splits;
    numbered = record {
      grown = grown_twice old m n before j k had.numbered.grown one.grown;
      have =
          map-append (λ y. lookup (same y) n) had.first (x ∷ [])
          ∙ ap₂ (λ os o. os ++ o ∷ []) (all_kept m n one.grown.kept had.first ns had.numbered.have) one.has
          ∙ sym (ap (map Some) pushed ∙ map-append Some ns (number ∷ []));
    };
  }

  pub numbered_all : (things : List K) (i : ℕ) (old : List (K × ℕ)) (before : ℕ) (new : List (K × ℕ)) (next : ℕ) (ns : List ℕ)
      → drop i things ≡ [] → HaveNumbers things i old before new next ns → AreAllNumbered same things old before new next ns
  numbered_all things i old before new next ns none had =
      subst (λ xs. AreAllNumbered same xs old before new next ns)
      (sym (append-nil had.first) ∙ ap (λ xs. had.first ++ xs) (sym none) ∙ had.splits) had.numbered

-- two lists have numbers
pub both_numbered : {K : Type 0} (same : K → K → Bool) → IsEquivalence same → (xs ys : List K) (m n : List (K × ℕ)) (j k : ℕ) (ms ns : List ℕ)
    → AreAllNumbered same xs [] 0 m j ms → AreAllNumbered same ys m j n k ns → AreNumbered same xs ys ms ns
both_numbered same laws xs ys m n j k ms ns one other =
    let none : AreDistinct same [] 0 = record { below = λ x i h. cc; one = λ x y i h g. cc } in
    let distinct = other.grown.distinct (one.grown.distinct none) in
    record {
      number = λ x. lookup (same x) n;
      lefts = all_kept same m n other.grown.kept xs ms one.have;
      rights = other.have;
      alike = λ x y e. found_alike same laws x y e n;
      one = distinct.one;
    }

-- ---- partners by number

abbrev HasNumber : {K : Type 0} → (K → Option ℕ) → K → Type 0
HasNumber number x = (n : ℕ) × (number x ≡ Some n)

each_numbered : {K : Type 0} (number : K → Option ℕ) (xs : List K) (ns : List ℕ) → map number xs ≡ map Some ns → AllByRecursion (HasNumber number) xs
each_numbered number [] ns e = tt
each_numbered number (x ∷ xs) [] e = cc
each_numbered number (x ∷ xs) (n ∷ ns) e =
    let first : number x ≡ Some n = cc in
    let rest : map number xs ≡ map Some ns = cc in
    ((n, first), each_numbered number xs ns rest)

numbers_are : {K : Type 0} (number : K → Option ℕ) (xs : List K) (ns : List ℕ) → map number xs ≡ map Some ns → map (λ x. unwrap_or (number x) 0) xs ≡ ns
numbers_are number [] [] e = refl
numbers_are number [] (n ∷ ns) e = cc
numbers_are number (x ∷ xs) [] e = cc
numbers_are number (x ∷ xs) (n ∷ ns) e =
    let first : number x ≡ Some n = cc in
    let rest : map number xs ≡ map Some ns = cc in
    ap₂ ◌∷◌ (ap (λ o. unwrap_or o 0) first) (numbers_are number xs ns rest)

module _ {K : Type 0} (same : K → K → Bool) (xs ys : List K) (ms ns : List ℕ) (are : AreNumbered same xs ys ms ns) where
  abbrev number_of : K → ℕ
  number_of x = unwrap_or (are.number x) 0

  agree : (x y : K) → HasNumber are.number x → HasNumber are.number y → same x y ≡ eq_by_cmp nat_cmp (number_of x) (number_of y)
  agree x y (m, f) (n, g) =
      both_ways (same x y) (m == n)
      (λ e. let same_number : Some m ≡ Some n = sym f ∙ are.alike x y e ∙ g in (Decides-eqb m n).1 (cc))
      (λ e. are.one x y m f (g ∙ ap Some (sym ((Decides-eqb m n).0 e))))
      ∙ sym (unsigned_tied m n) ∙ ap₂ (λ o p. eq_by_cmp nat_cmp (unwrap_or o 0) (unwrap_or p 0)) (sym f) (sym g)

  partners_there : (here there : List K) (is js : List ℕ) → map are.number here ≡ map Some is → map are.number there ≡ map Some js
      → partners same here there ≡ partners (eq_by_cmp nat_cmp) is js
  partners_there here there is js one other =
      partners_within (HasNumber are.number) number_of same (eq_by_cmp nat_cmp) agree here there (each_numbered are.number here is one)
      (each_numbered are.number there js other)
      ∙ ap₂ (partners (eq_by_cmp nat_cmp)) (numbers_are are.number here is one) (numbers_are are.number there js other)

  -- partners by number are partners
  pub partners_here : partners same xs ys ≡ partners (eq_by_cmp nat_cmp) ms ns
  partners_here = partners_there xs ys ms ns are.lefts are.rights

  pub partners_back : partners same ys xs ≡ partners (eq_by_cmp nat_cmp) ns ms
  partners_back = partners_there ys xs ns ms are.rights are.lefts
