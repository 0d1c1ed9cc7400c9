-- Occurrences that are counted, and places that are put into a map.
use Rattle.erd_text.proofs.Common.{◌≡◌, ℕ, suc, ◌+◌, ◌≤◌, Bool, true, false, cond, ◌&&◌, List, [], ◌∷◌, ◌++◌, map, length, drop, ◌==◌, Some, None, Option}
use Rattle.erd_text.proofs.Common.{nat_cmp, is_eq, Ordering, Less, Equal, Greater, unwrap_or, sym, refl, ap, ◌∙◌, arith, append_assoc}
use Rattle.std.specs.Bool.{⊤}
use Rattle.std.specs.Cmp.{IsEquivalence, unsigned_tied}
use Rattle.std.specs.List.{AllByRecursion}
use Rattle.std.specs.Map.{lookup}
use Rattle.std.specs.Option.{option_or}
use Rattle.std.specs.Ordering.{eq_by_cmp, ordering_then}
use Rattle.erd_shown.specs.Partners.{is_same_occurrence, occurrences, occurrences_after, partners, place_from, times}
use Rattle.erd_shown.specs.code.PlacesFound.{occurrence_cmp}

module _ {K : Type 0} (same : K → K → Bool) where
  -- a thing stands no more often than the list is long
  pub times_most : (x : K) (ys : List K) → times same x ys ≤ length ys
  times_most x [] = omega arith
  times_most x (y ∷ ys) = at (same x y) (times_most x ys)
    where
      at : (b : Bool) → times same x ys ≤ length ys → cond b (suc (times same x ys)) (times same x ys) ≤ suc (length ys)
      at true most = omega (arith, most)
      at false most = omega (arith, most)

  -- one thing stands as often under either name
  pub times_of_one : (laws : IsEquivalence same) (x q : K) → same x q ≡ true → (ys : List K) → times same x ys ≡ times same q ys
  times_of_one laws x q one [] = refl
  times_of_one laws x q one (y ∷ ys) = ap (λ b. cond b (suc (times same x ys)) (times same x ys)) (laws.congr x q y one) ∙ ap (λ n. cond (same q y) (suc n) n)
      (times_of_one laws x q one ys)

  -- the entries of a map tell how often each thing stands
  abbrev pub HaveTimes : List (K × ℕ) → List K → Type 0
  HaveTimes entries before = (q : K) → unwrap_or (lookup (same q) entries) 0 ≡ times same q before

  pub counted : (laws : IsEquivalence same) (x : K) (m n : List (K × ℕ)) (next : ℕ) (before : List K) → next ≡ unwrap_or (lookup (same x) m) 0 + 1
      → ((q : K) → lookup (same q) n ≡ cond (same x q) (Some next) (lookup (same q) m)) → HaveTimes m before → HaveTimes n (x ∷ before)
  counted laws x m n next before is updates had q = ap (λ o. unwrap_or o 0) (updates q) ∙ at (same x q) refl
    where
      at : (b : Bool) → same x q ≡ b → unwrap_or (cond b (Some next) (lookup (same q) m)) 0 ≡ times same q (x ∷ before)
      at true e =
          (is ∙ ap (λ k. k + 1) (had x ∙ times_of_one laws x q e before) ∙ let one : times same q before + 1 ≡ suc (times same q before) = omega arith in one)
          ∙ ap (λ b. cond b (suc (times same q before)) (times same q before)) (sym (laws.symm q x ∙ e))
      at false e = had q ∙ ap (λ b. cond b (suc (times same q before)) (times same q before)) (sym (laws.symm q x ∙ e))

-- the order of occurrences tells apart what the test does
then_equal : (o p : Ordering) → is_eq (ordering_then o p) ≡ (is_eq o && is_eq p)
then_equal Less p = refl
then_equal Equal p = refl
then_equal Greater p = refl

pub same_occurrence : {K : Type 0} (cmp : K → K → Ordering) (p q : K × ℕ) → eq_by_cmp (occurrence_cmp cmp) p q ≡ is_same_occurrence (eq_by_cmp cmp) p q
same_occurrence cmp p q = then_equal (cmp p.0 q.0) (nat_cmp p.1 q.1) ∙ ap (λ b. is_eq (cmp p.0 q.0) && b) (unsigned_tied p.1 q.1)

module _ {K : Type 0} (cmp : K → K → Ordering) where
  -- the entries of a map tell where each occurrence stands, but for those that are left, of which the first has the position i
  abbrev pub HavePlacesBut : List (K × ℕ) → ℕ → List (K × ℕ) → List ((K × ℕ) × ℕ) → Type 0
  HavePlacesBut all i left entries = (p : K × ℕ) → option_or (place_from (eq_by_cmp cmp) i left p) (lookup (eq_by_cmp (occurrence_cmp cmp) p) entries)
      ≡ place_from (eq_by_cmp cmp) 0 all p

  pub placed_one : (all : List (K × ℕ)) (i : ℕ) (x : K × ℕ) (left : List (K × ℕ)) (m n : List ((K × ℕ) × ℕ))
      → ((q : K × ℕ) → lookup (eq_by_cmp (occurrence_cmp cmp) q) n ≡ cond (eq_by_cmp (occurrence_cmp cmp) x q) (Some i)
      (lookup (eq_by_cmp (occurrence_cmp cmp) q) m))
      → HavePlacesBut all i (x ∷ left) m → HavePlacesBut all (i + 1) left n
  placed_one all i x left m n updates had p =
      ap (option_or (place_from (eq_by_cmp cmp) (i + 1) left p))
      (updates p ∙ ap (λ b. cond b (Some i) (lookup (eq_by_cmp (occurrence_cmp cmp) p) m)) (same_occurrence cmp x p))
      ∙ (at (place_from (eq_by_cmp cmp) (i + 1) left p) (is_same_occurrence (eq_by_cmp cmp) x p) (lookup (eq_by_cmp (occurrence_cmp cmp) p) m) ∙ had p)
    where
      at : (o : Option ℕ) (b : Bool) (r : Option ℕ) → option_or o (cond b (Some i) r) ≡ option_or (option_or o (cond b (Some i) None)) r
      at (Some k) b r = refl
      at None true r = refl
      at None false r = refl

-- the first things of a list are counted
pub record AreCounted {K : Type 0} (same : K → K → Bool) (things : List K) (i : ℕ) (entries found : List (K × ℕ)) : Type 0 where
  pub before : List K
  pub counts : HaveTimes same entries before
  pub so_far : found ++ occurrences_after same before (drop i things) ≡ occurrences same things

pub counted_one : {K : Type 0} (same : K → K → Bool) → IsEquivalence same → (things : List K) (i : ℕ) (x : K) (m n : List (K × ℕ)) (c next : ℕ)
    (found more : List (K × ℕ))
    → drop i things ≡ x ∷ drop (i + 1) things → c ≡ unwrap_or (lookup (same x) m) 0 → next ≡ c + 1
    → ((q : K) → lookup (same q) n ≡ cond (same x q) (Some next) (lookup (same q) m)) → more ≡ found ++ (x, c) ∷ []
    → AreCounted same things i m found → AreCounted same things (i + 1) n more
counted_one same laws things i x m n c next found more rest is one updates pushed had = record {
  before = x ∷ had.before;
  counts = counted same laws x m n next had.before (one ∙ ap (λ k. k + 1) is) updates had.counts;
  so_far =
      ap (λ es. es ++ occurrences_after same (x ∷ had.before) (drop (i + 1) things)) pushed
      ∙ (append_assoc found ((x, c) ∷ []) (occurrences_after same (x ∷ had.before) (drop (i + 1) things))
      ∙ (ap (λ k. found ++ (x, k) ∷ occurrences_after same (x ∷ had.before) (drop (i + 1) things)) (is ∙ had.counts x)
      ∙ (ap (λ xs. found ++ occurrences_after same had.before xs) (sym rest) ∙ had.so_far)));
}

-- one more is put behind what a map has given
pub map_next : {A B : Type 0} (f : A → B) (xs : List A) (i : ℕ) (x : A) (old new all : List B) → drop i xs ≡ x ∷ drop (i + 1) xs → new ≡ old ++ f x ∷ []
    → old ++ map f (drop i xs) ≡ all → new ++ map f (drop (i + 1) xs) ≡ all
map_next f xs i x old new all rest pushed before =
    ap (λ ys. ys ++ map f (drop (i + 1) xs)) pushed ∙ (append_assoc old (f x ∷ []) (map f (drop (i + 1) xs)) ∙ (ap (λ ys. old ++ map f ys) (sym rest) ∙ before))

-- ---- things that stand for others

module _ {A B : Type 0} (has : A → Type 0) (f : A → B) (same : A → A → Bool) (alike : B → B → Bool)
    (agree : (x y : A) → has x → has y → same x y ≡ alike (f x) (f y)) where
  abbrev stand_for : A × ℕ → B × ℕ
  stand_for p = (f p.0, p.1)

  abbrev Counted : A × ℕ → Type 0
  Counted p = has p.0

  times_for : (x : A) (ys : List A) → has x → AllByRecursion has ys → times same x ys ≡ times alike (f x) (map f ys)
  times_for x [] h all = refl
  times_for x (y ∷ ys) h all =
      ap (λ b. cond b (suc (times same x ys)) (times same x ys)) (agree x y h all.0)
      ∙ ap (λ n. cond (alike (f x) (f y)) (suc n) n) (times_for x ys h all.1)

  occurrences_for : (before xs : List A) → AllByRecursion has before → AllByRecursion has xs
      → map stand_for (occurrences_after same before xs) ≡ occurrences_after alike (map f before) (map f xs)
  occurrences_for before [] stood all = refl
  occurrences_for before (x ∷ xs) stood all =
      ap (λ n. (f x, n) ∷ map stand_for (occurrences_after same (x ∷ before) xs)) (times_for x before all.0 stood)
      ∙ ap (λ ps. (f x, times alike (f x) (map f before)) ∷ ps) (occurrences_for (x ∷ before) xs (all.0, stood) all.1)

  all_counted : (before xs : List A) → AllByRecursion has xs → AllByRecursion Counted (occurrences_after same before xs)
  all_counted before [] all = tt
  all_counted before (x ∷ xs) all = (all.0, all_counted (x ∷ before) xs all.1)

  place_for : (i : ℕ) (qs : List (A × ℕ)) (p : A × ℕ) → AllByRecursion Counted qs → has p.0
      → place_from same i qs p ≡ place_from alike i (map stand_for qs) (stand_for p)
  place_for i [] p all h = refl
  place_for i (q ∷ qs) p all h =
      ap (λ b. option_or (place_from same (i + 1) qs p) (cond (b && (q.1 == p.1)) (Some i) None)) (agree q.0 p.0 all.0 h)
      ∙ ap (λ o. option_or o (cond (alike (f q.0) (f p.0) && (q.1 == p.1)) (Some i) None)) (place_for (i + 1) qs p all.1 h)

  places_for : (qs ps : List (A × ℕ)) → AllByRecursion Counted qs → AllByRecursion Counted ps
      → map (place_from same 0 qs) ps ≡ map (place_from alike 0 (map stand_for qs)) (map stand_for ps)
  places_for qs [] all these = refl
  places_for qs (p ∷ ps) all these =
      ap (λ o. o ∷ map (place_from same 0 qs) ps) (place_for 0 qs p all these.0)
      ∙ ap (λ os. place_from alike 0 (map stand_for qs) (stand_for p) ∷ os) (places_for qs ps all these.1)

  pub partners_within : (xs ys : List A) → AllByRecursion has xs → AllByRecursion has ys → partners same xs ys ≡ partners alike (map f xs) (map f ys)
  partners_within xs ys ones others =
      places_for (occurrences same ys) (occurrences same xs) (all_counted [] ys others) (all_counted [] xs ones)
      ∙ ap (λ qs. map (place_from alike 0 qs) (map stand_for (occurrences same xs))) (occurrences_for [] ys tt others)
      ∙ ap (map (place_from alike 0 (occurrences alike (map f ys)))) (occurrences_for [] xs tt ones)

each_so : {A : Type 0} (xs : List A) → AllByRecursion (λ (x : A). ⊤) xs
each_so [] = tt
each_so (x ∷ xs) = (tt, each_so xs)

-- the same where each thing may stand
pub partners_for : {A B : Type 0} (f : A → B) (same : A → A → Bool) (alike : B → B → Bool) → ((x y : A) → same x y ≡ alike (f x) (f y)) → (xs ys : List A)
    → partners same xs ys ≡ partners alike (map f xs) (map f ys)
partners_for f same alike agree xs ys = partners_within (λ x. ⊤) f same alike (λ x y _ _. agree x y) xs ys (each_so xs) (each_so ys)
