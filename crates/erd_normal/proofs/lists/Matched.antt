-- Lists that are searched part by part, and lists whose entries are related one by one.
use Rattle.erd_normal.proofs.Common.{◌≡◌, ℕ, Bool, true, false, cond, List, [], ◌∷◌, map, Some, None, option_map, find, flat_map, sym, refl, ◌∙◌}
use Rattle.erd_normal.proofs.Common.{AllByRecursion, option_map_or, option_or, Data, family, Placed, contests, selections_of_contest, objects, has_id, owner, ⊤}
use Rattle.erd_normal.proofs.Common.{find-Some, option_map-Some, contest_with, selection_with, In, suc, ◌≤◌, ◌||◌, ◌++◌, length, filter, Option, filter_map}
use Rattle.erd_normal.proofs.Common.{option_and_then, is_eq, Ordering, Less, Equal, ap, subst, ap₂, true≢false, arith, false_from_ne_true, on_total}
use Rattle.erd_normal.proofs.Common.{IsTotalOrder, cons_option, list_any, eq_by_cmp, ordering_reverse, all_weakened, rising_unique, IsDistinct}
use Rattle.erd_normal.proofs.Common.{IsStrictlySortedBy, reordered_flat, count-reordered, all-reordered, IsPermutation, IsPermutation-map}
use Rattle.erd_normal.proofs.Common.{IsPermutation-append_left, IsPermutation-append_right, length_permutation, list_any-IsPermutation, IsPermutation-refl}
use Rattle.erd_normal.proofs.Common.{IsPermutation-sym, IsPermutation-trans, along_permutation, In-all, In-map, all_from_In, inl, inr, reordered-In, ⊎_elim}
use Rattle.std.proofs.lemmas.List.Folds.{find-append}

-- ---- lists of which no two entries pass a test, and what is found by a value

-- no two entries pass the test
abbrev pub AreApart : {A : Type 0} → (A → Bool) → List A → Type 0
AreApart test [] = ⊤
AreApart test (x ∷ xs) = (test x ≡ true → AllByRecursion (λ y. test y ≡ false) xs) × AreApart test xs

-- what is found by a value
pub find_values : {A B : Type 0} (test : B → Bool) (value : A → B) (xs : List A) → option_map value (find (λ x. test (value x)) xs) ≡ find test (map value xs)
find_values test value [] = refl
find_values test value (x ∷ xs) =
    elim (test (value x)) as (λ b. option_map value (cond b (Some x) (find (λ x. test (value x)) xs)) ≡ cond b (Some (value x)) (find test (map value xs)))
    [ true ↦ refl | false ↦ find_values test value xs ]

-- ---- what is found in lists that are put together is found in the first of them that has it

module _ {A B : Type 0} (test : B → Bool) (f : A → List B) where
  -- a list has what passes
  abbrev has_one : A → Bool
  has_one x = option_map_or (λ y. true) (find test (f x)) false

  found_in : (xs : List A) (y : B) → find test (flat_map f xs) ≡ Some y → (x : A) × (find has_one xs ≡ Some x) × (find test (f x) ≡ Some y)
  found_in [] y e = cc
  found_in (x ∷ xs) y e =
      (elim (find test (f x)) as (λ o. find test (f x) ≡ o → option_or o (find test (flat_map f xs)) ≡ Some y → (z : A) × (find has_one (x ∷ xs) ≡ Some z)
      × (find test (f z) ≡ Some y)) [
        | None ↦ λ is found. let r = found_in xs y found in (r.0, rw is r.1, r.2)
        | Some z ↦ λ is found. (x, rw is refl, is ∙ found)
      ]) refl (sym (find-append test (f x) (flat_map f xs)) ∙ e)

-- the contest and the selection that the owner of an `@id` is
pub record FoundSelection (t : Data) (id : List ℕ) (d : Data) : Type 0 where
  pub contest : Placed
  pub selection : Placed
  pub contest_is : contest_with t id ≡ Some contest
  pub selection_is : selection_with id contest ≡ Some selection
  pub value : selection.value ≡ d
  pub of_report : In contest (objects family.Contest t)
  pub of_contest : In selection (selections_of_contest contest)

pub owner_found : (t : Data) (id : List ℕ) (d : Data) → owner t family.Selection id ≡ Some d → FoundSelection t id d
owner_found t id d e =
    let o = option_map-Some (λ (o : Placed). o.value) (find (λ o. has_id id o.value) (objects family.Selection t)) d e in
    let x = found_in (λ (o : Placed). has_id id o.value) selections_of_contest (contests t) o.0 o.1 in
    record {
      contest = x.0;
      selection = o.0;
      contest_is = x.1;
      selection_is = x.2;
      value = o.2;
      of_report = (find-Some (has_one (λ (o : Placed). has_id id o.value) selections_of_contest) (contests t) x.0 x.1).0;
      of_contest = (find-Some (λ (o : Placed). has_id id o.value) (selections_of_contest x.0) o.0 x.2).0;
    }

-- ---- lists whose entries are related one by one

-- entry by entry
pub data Paired {A B : Type 0} (R : A → B → Type 0) : List A → List B → Type 0 where
  none : Paired R [] []
  more : {x : A} {y : B} {xs : List A} {ys : List B} → R x y → Paired R xs ys → Paired R (x ∷ xs) (y ∷ ys)

pub paired_self : {A : Type 0} {R : A → A → Type 0} (xs : List A) → ((x : A) → R x x) → Paired R xs xs
paired_self [] each = none
paired_self (x ∷ xs) each = more (each x) (paired_self xs each)

-- ---- lists whose entries are related one by one, but for their order

-- the entries of the one list are related to those of the other, each to one, in some order
pub record Matched {A B : Type 0} (R : A → B → Type 0) (xs : List A) (ys : List B) : Type 0 where
  pub middle : List B
  pub paired : Paired R xs middle
  pub reordered : IsPermutation middle ys

-- ---- entry by entry

pub paired_map : {A B C : Type 0} {R : A → B → Type 0} (f : A → C) (g : B → C) → ((x : A) (y : B) → R x y → f x ≡ g y) → {xs : List A} {ys : List B}
    → Paired R xs ys → map f xs ≡ map g ys
paired_map f g same none = refl
paired_map f g same (more {x = x} {y = y} r rest) = ap₂ ◌∷◌ (same x y r) (paired_map f g same rest)

pub paired_append : {A B : Type 0} {R : A → B → Type 0} {xs : List A} {ys : List B} (us : List A) (vs : List B) → Paired R xs ys → Paired R us vs
    → Paired R (xs ++ us) (ys ++ vs)
paired_append us vs none h = h
paired_append us vs (more r rest) h = more r (paired_append us vs rest h)

-- a relation that holds of related entries of the lists
pub paired_within : {A B : Type 0} {R : A → B → Type 0} (S : A → B → Type 0) {xs : List A} {ys : List B} → ((x : A) (y : B) → In x xs → R x y → S x y)
    → Paired R xs ys → Paired S xs ys
paired_within S h none = none
paired_within S h (more {x = x} {y = y} r rest) = more (h x y (inl refl) r) (paired_within S (λ a b i. h a b (inr i)) rest)

paired_back : {A B : Type 0} {R : A → B → Type 0} {xs : List A} {ys : List B} (y : B) → Paired R xs ys → In y ys → (x : A) × In x xs × R x y
paired_back y none h = absurd h
paired_back {A} {B} {R} y (more {x = x} r rest) (inl e) = (x, inl refl, subst (R x) e r)
paired_back y (more r rest) (inr h) = let b = paired_back y rest h in (b.0, inr b.1, b.2)

-- ---- in some order

pub matched_none : {A B : Type 0} (R : A → B → Type 0) → Matched R [] []
matched_none R = record { middle = []; paired = none; reordered = IsPermutation-refl [] }

pub matched_then : {A B : Type 0} {R : A → B → Type 0} {xs : List A} {ys zs : List B} → Matched R xs ys → IsPermutation ys zs → Matched R xs zs
matched_then h k = record { middle = h.middle; paired = h.paired; reordered = IsPermutation-trans _ _ _ h.reordered k }

pub matched_within : {A B : Type 0} {R : A → B → Type 0} (S : A → B → Type 0) {xs : List A} {ys : List B} → ((x : A) (y : B) → In x xs → R x y → S x y)
    → Matched R xs ys → Matched S xs ys
matched_within S h m = record { middle = m.middle; paired = paired_within S h m.paired; reordered = m.reordered }

-- each entry of the second list has one of the first to which it is related
pub matched_back : {A B : Type 0} {R : A → B → Type 0} {xs : List A} {ys : List B} (y : B) → Matched R xs ys → In y ys → (x : A) × In x xs × R x y
matched_back y m h = paired_back y m.paired (reordered-In y (IsPermutation-sym _ _ m.reordered) h)

paired_on : {A B : Type 0} {R : A → B → Type 0} {xs : List A} {ys : List B} (x : A) → Paired R xs ys → In x xs → (y : B) × In y ys × R x y
paired_on x none h = absurd h
paired_on {A} {B} {R} x (more {y = y} r rest) (inl e) = (y, inl refl, subst (λ z. R z y) e r)
paired_on x (more r rest) (inr h) = let b = paired_on x rest h in (b.0, inr b.1, b.2)

-- and each of the first has one of the second
pub matched_on : {A B : Type 0} {R : A → B → Type 0} {xs : List A} {ys : List B} (x : A) → Matched R xs ys → In x xs → (y : B) × In y ys × R x y
matched_on x m h = let b = paired_on x m.paired h in (b.0, reordered-In b.0 m.reordered b.1, b.2)

pub matched_append : {A B : Type 0} {R : A → B → Type 0} {xs us : List A} {ys vs : List B} → Matched R xs ys → Matched R us vs → Matched R (xs ++ us) (ys ++ vs)
matched_append {ys = ys} m n = record {
  middle = m.middle ++ n.middle;
  paired = paired_append _ n.middle m.paired n.paired;
  reordered = IsPermutation-trans _ _ _ (IsPermutation-append_left n.middle _ _ m.reordered) (IsPermutation-append_right ys _ _ n.reordered);
}

flat_paired : {A B C D : Type 0} {R : A → B → Type 0} {S : C → D → Type 0} (f : A → List C) (g : B → List D) → {xs : List A} {ys : List B}
    → ((x : A) (y : B) → In x xs → R x y → Matched S (f x) (g y)) → Paired R xs ys → Matched S (flat_map f xs) (flat_map g ys)
flat_paired {S = S} f g each none = matched_none S
flat_paired f g each (more {x = x} {y = y} r rest) = matched_append (each x y (inl refl) r) (flat_paired f g (λ a b h. each a b (inr h)) rest)

-- lists of lists
pub matched_flat : {A B C D : Type 0} {R : A → B → Type 0} {S : C → D → Type 0} (f : A → List C) (g : B → List D) → {xs : List A} {ys : List B}
    → ((x : A) (y : B) → In x xs → R x y → Matched S (f x) (g y)) → Matched R xs ys → Matched S (flat_map f xs) (flat_map g ys)
matched_flat f g each m = matched_then (flat_paired f g each m.paired) (reordered_flat g m.reordered)

-- values of functions of related entries
paired_mapped : {A B C D : Type 0} {R : A → B → Type 0} {S : C → D → Type 0} (f : A → C) (g : B → D) → ((x : A) (y : B) → R x y → S (f x) (g y))
    → {xs : List A} {ys : List B} → Paired R xs ys → Paired S (map f xs) (map g ys)
paired_mapped f g h none = none
paired_mapped f g h (more {x = x} {y = y} r rest) = more (h x y r) (paired_mapped f g h rest)

pub matched_mapped : {A B C D : Type 0} {R : A → B → Type 0} {S : C → D → Type 0} (f : A → C) (g : B → D) → ((x : A) (y : B) → R x y → S (f x) (g y))
    → {xs : List A} {ys : List B} → Matched R xs ys → Matched S (map f xs) (map g ys)
matched_mapped f g h m = record { middle = map g m.middle; paired = paired_mapped f g h m.paired; reordered = IsPermutation-map g _ _ m.reordered }

-- ---- what is found

-- one entry at most passes the test
pub record AtMostOne {A : Type 0} (test : A → Bool) (xs : List A) : Type 0 where
  pub few : length (filter test xs) ≤ 1

nothing_kept : {A : Type 0} (test : A → Bool) (xs : List A) → AllByRecursion (λ x. test x ≡ false) xs → filter test xs ≡ []
nothing_kept test [] h = refl
nothing_kept test (x ∷ xs) h = ap (λ b. cond b (x ∷ filter test xs) (filter test xs)) h.0 ∙ nothing_kept test xs h.1

pub one_if_apart : {A : Type 0} (test : A → Bool) (xs : List A) → AreApart test xs → AtMostOne test xs
one_if_apart test [] h = record { few = omega arith }
one_if_apart test (x ∷ xs) h = record {
  few = (elim (test x) as (λ b. test x ≡ b → length (cond b (x ∷ filter test xs) (filter test xs)) ≤ 1) [
    | true ↦ λ is. rw (nothing_kept test xs (h.0 is)) (omega arith)
    | false ↦ λ is. (one_if_apart test xs h.1).few
  ]) refl;
}

rest_few : {A : Type 0} (test : A → Bool) (x : A) (xs : List A) → AtMostOne test (x ∷ xs) → AtMostOne test xs
rest_few test x xs h = record {
  few = (elim (test x) as (λ b. length (cond b (x ∷ filter test xs) (filter test xs)) ≤ 1 → length (filter test xs) ≤ 1)
      [ true ↦ λ l. omega arith | false ↦ λ l. l ]) h.few;
}

not_both : {A : Type 0} (test : A → Bool) (x y : A) (xs : List A) → AtMostOne test (x ∷ (y ∷ xs)) → test x ≡ true → test y ≡ true → ⊥
not_both test x y xs h p q =
    let e : filter test (x ∷ (y ∷ xs)) ≡ x ∷ (y ∷ filter test xs) = rw (p, q) refl in
    let l = ap length e in let f = h.few in omega arith

either_first : {A : Type 0} (test : A → Bool) (x y : A) (xs : List A) → AtMostOne test (x ∷ (y ∷ xs)) → find test (x ∷ (y ∷ xs)) ≡ find test (y ∷ (x ∷ xs))
either_first {A} test x y xs h = at (test x) (test y) refl refl
  where
    at : (a b : Bool) → test x ≡ a → test y ≡ b → cond (test x) (Some x) (cond (test y) (Some y) (find test xs)) ≡ cond (test y) (Some y)
        (cond (test x) (Some x) (find test xs))
    at true true p q = absurd (not_both test x y xs h p q)
    at a b p q = rw (p, q) refl

pub find-reordered : {A : Type 0} (test : A → Bool) {xs ys : List A} → IsPermutation xs ys → AtMostOne test xs → find test xs ≡ find test ys
find-reordered test = along_permutation (λ xs ys. AtMostOne test xs → find test xs ≡ find test ys)
    (λ xs few. refl)
    (λ x xs ys p h few. ap (λ o. cond (test x) (Some x) o) (h (rest_few test x xs few)))
    (either_first test)
    (λ xs ys zs p h k few. h few ∙ k (record { few = subst (λ n. n ≤ 1) (count-reordered test p) few.few }))

-- what is found in both, or in neither
pub data Both {A B : Type 0} (R : A → B → Type 0) : Option A → Option B → Type 0 where
  neither : Both R None None
  both : {x : A} {y : B} → R x y → Both R (Some x) (Some y)

-- what is said of both, or of neither
pub said_same : {A B C : Type 0} {R : A → B → Type 0} (f : A → Option C) (g : B → Option C) → ((x : A) (y : B) → R x y → f x ≡ g y)
    → (o : Option A) (p : Option B) → Both R o p → option_and_then f o ≡ option_and_then g p
said_same f g same None None neither = refl
said_same f g same (Some x) (Some y) (both r) = same x y r
said_same f g same None (Some y) h = elim h [ ]
said_same f g same (Some x) None h = elim h [ ]

module _ {A B : Type 0} {R : A → B → Type 0} (test : A → Bool) (test' : B → Bool) (same : (x : A) (y : B) → R x y → test x ≡ test' y) where
  pub paired_find : {xs : List A} {ys : List B} → Paired R xs ys → Both R (find test xs) (find test' ys)
  paired_find none = neither
  paired_find (more {x = x} {y = y} {xs = xs} {ys = ys} r rest) =
      rw (same x y r) (elim (test' y) as (λ b. Both R (cond b (Some x) (find test xs)) (cond b (Some y) (find test' ys)))
      [ true ↦ both r | false ↦ paired_find rest ])

  pub paired_count : {xs : List A} {ys : List B} → Paired R xs ys → length (filter test xs) ≡ length (filter test' ys)
  paired_count none = refl
  paired_count (more {x = x} {y = y} {xs = xs} {ys = ys} r rest) =
      rw (same x y r)
      (elim (test' y) as (λ b. length (cond b (x ∷ filter test xs) (filter test xs)) ≡ length (cond b (y ∷ filter test' ys) (filter test' ys)))
      [ true ↦ ap suc (paired_count rest) | false ↦ paired_count rest ])

  pub matched_find : {xs : List A} {ys : List B} → Matched R xs ys → AtMostOne test xs → Both R (find test xs) (find test' ys)
  matched_find {xs = xs} m few =
      subst (Both R (find test xs)) (find-reordered test' m.reordered (record { few = subst (λ n. n ≤ 1) (paired_count m.paired) few.few }))
      (paired_find m.paired)

  -- as many entries pass
  pub matched_count : {xs : List A} {ys : List B} → Matched R xs ys → length (filter test xs) ≡ length (filter test' ys)
  matched_count m = paired_count m.paired ∙ count-reordered test' m.reordered

-- ---- lists of values that are all different

pub distinct-reordered : {A : Type 0} (test : A → A → Bool) {xs ys : List A} → IsPermutation xs ys
    → ((x y : A) → In x xs → In y xs → test x y ≡ false → test y x ≡ false) → IsDistinct test xs → IsDistinct test ys
unfolding IsDistinct
distinct-reordered {A} test =
    along_permutation (λ xs ys. ((x y : A) → In x xs → In y xs → test x y ≡ false → test y x ≡ false) → IsDistinct test xs → IsDistinct test ys)
    (λ xs turns d. d)
    (λ x xs ys p h turns d. (all-reordered (λ y. test x y ≡ false) p d.0, h (λ y z i j. turns y z (inr i) (inr j)) d.1))
    (λ x y xs turns d. ((turns x y (inl refl) (inr (inl refl)) d.0.0, d.1.0), (d.0.1, d.1.1)))
    (λ xs ys zs p h k turns d. k (λ x y i j. turns x y (reordered-In x (IsPermutation-sym xs ys p) i) (reordered-In y (IsPermutation-sym xs ys p) j))
    (h turns d))

-- lists of values that are all different are matched by such lists, where a test that tells the others' entries apart tells
-- theirs apart
pub distinct-paired : {A B : Type 0} {R : A → B → Type 0} (test : A → A → Bool) (test' : B → B → Bool) {xs : List A} {ys : List B}
    → ((x x' : A) (y y' : B) → In x xs → In x' xs → R x y → R x' y' → test' y y' ≡ true → test x x' ≡ true) → Paired R xs ys
    → IsDistinct test xs → IsDistinct test' ys
unfolding IsDistinct
distinct-paired test test' tells none d = tt
distinct-paired {A} {B} {R} test test' tells (more {x = x} {y = y} {xs = xs} {ys = ys} r rest) d = (
  apart (λ x' h. h) rest d.0,
  distinct-paired test test' (λ a a' b b' i j. tells a a' b b' (inr i) (inr j)) rest d.1,
)
  where
    apart : {us : List A} {vs : List B} → ((x' : A) → In x' us → In x' xs) → Paired R us vs → AllByRecursion (λ x'. test x x' ≡ false) us
        → AllByRecursion (λ y'. test' y y' ≡ false) vs
    apart inside none a = tt
    apart inside (more {x = x'} {y = y'} s more_of) a = (
      false_from_ne_true (test' y y') (λ e. true≢false (sym (tells x x' y y' (inl refl) (inr (inside x' (inl refl))) r s e) ∙ a.0)),
      apart (λ z h. inside z (inr h)) more_of a.1,
    )

-- a test that sees no order
abbrev pub IsEven : {A : Type 0} → (A → A → Bool) → Type 0
IsEven {A} test = (x y : A) → test x y ≡ false → test y x ≡ false

pub distinct_matched : {A B : Type 0} {R : A → B → Type 0} (test : A → A → Bool) (test' : B → B → Bool) {xs : List A} {ys : List B} → IsEven test'
    → ((x x' : A) (y y' : B) → In x xs → In x' xs → R x y → R x' y' → test' y y' ≡ true → test x x' ≡ true) → Matched R xs ys
    → IsDistinct test xs → IsDistinct test' ys
distinct_matched test test' even tells m d = distinct-reordered test' m.reordered (λ x y i j. even x y) (distinct-paired test test' tells m.paired d)

pub even_order : {A : Type 0} (cmp : A → A → Ordering) → IsTotalOrder cmp → IsEven (eq_by_cmp cmp)
even_order cmp order d e h = ap is_eq (order.antisymm e d) ∙ at (cmp d e) h
  where
    at : (o : Ordering) → is_eq o ≡ false → is_eq (ordering_reverse o) ≡ false
    at Equal e = e
    at d e = refl

-- as many entries
paired_length : {A B : Type 0} {R : A → B → Type 0} {xs : List A} {ys : List B} → Paired R xs ys → length xs ≡ length ys
paired_length none = refl
paired_length (more r rest) = ap suc (paired_length rest)

pub matched_length : {A B : Type 0} {R : A → B → Type 0} {xs : List A} {ys : List B} → Matched R xs ys → length xs ≡ length ys
matched_length m = paired_length m.paired ∙ sym (length_permutation _ _ m.reordered)

-- entries that are equal are the same entries in some order
pub paired_equal : {A : Type 0} {R : A → A → Type 0} {xs ys : List A} → ((x y : A) → R x y → x ≡ y) → Paired R xs ys → xs ≡ ys
paired_equal same none = refl
paired_equal same (more {x = x} {y = y} r rest) = ap₂ ◌∷◌ (same x y r) (paired_equal same rest)

pub matched_equal : {A : Type 0} {R : A → A → Type 0} {xs ys : List A} → ((x y : A) → R x y → x ≡ y) → Matched R xs ys → IsPermutation xs ys
matched_equal {ys = ys} same m = subst (λ zs. IsPermutation zs ys) (sym (paired_equal same m.paired)) m.reordered

-- whether an entry passes a test
pub paired_any : {A B : Type 0} {R : A → B → Type 0} (test : A → Bool) (test' : B → Bool) {xs : List A} {ys : List B}
    → ((x : A) (y : B) → R x y → test x ≡ test' y) → Paired R xs ys → list_any test xs ≡ list_any test' ys
paired_any test test' same none = refl
paired_any test test' same (more {x = x} {y = y} r rest) = ap₂ ◌||◌ (same x y r) (paired_any test test' same rest)

pub matched_any : {A B : Type 0} {R : A → B → Type 0} (test : A → Bool) (test' : B → Bool) {xs : List A} {ys : List B}
    → ((x : A) (y : B) → R x y → test x ≡ test' y) → Matched R xs ys → list_any test xs ≡ list_any test' ys
matched_any test test' same m = paired_any test test' same m.paired ∙ list_any-IsPermutation test' _ _ m.reordered

-- no two entries pass a test that two different ones do not pass
pub apart_distinct : {A : Type 0} (test : A → Bool) (both_pass : A → A → Bool) (xs : List A)
    → ((x y : A) → test x ≡ true → test y ≡ true → both_pass x y ≡ true) → IsDistinct both_pass xs → AreApart test xs
unfolding IsDistinct
apart_distinct test both_pass [] passes d = tt
apart_distinct test both_pass (x ∷ xs) passes d = (
  λ h. all_weakened (λ y. both_pass x y ≡ false) (λ y. test y ≡ false) xs
      (λ y apart. false_from_ne_true (test y) (λ k. true≢false (sym (passes x y h k) ∙ apart))) d.0,
  apart_distinct test both_pass xs passes d.1,
)

-- the values that a function keeps
pub paired_kept : {A B C : Type 0} {R : A → B → Type 0} (f : A → Option C) (g : B → Option C) {xs : List A} {ys : List B}
    → ((x : A) (y : B) → R x y → f x ≡ g y) → Paired R xs ys → filter_map f xs ≡ filter_map g ys
paired_kept f g same none = refl
paired_kept f g same (more {x = x} {y = y} r rest) = ap₂ cons_option (same x y r) (paired_kept f g same rest)

-- ---- matched lists that both rise strictly by keys which their related entries share are related entry by entry

rising_by : {B K : Type 0} (cmp : K → K → Ordering) (key : B → K) (ys : List B) → IsStrictlySortedBy cmp (map key ys)
    → IsStrictlySortedBy (λ x y. cmp (key x) (key y)) ys
unfolding IsStrictlySortedBy
rising_by cmp key [] rise = tt
rising_by cmp key (y ∷ ys) rise = (
  all_from_In (λ z. cmp (key y) (key z) ≡ Less) ys (λ z h. In-all (λ l. cmp (key y) l ≡ Less) (key z) (map key ys) rise.0 (In-map key z ys h)),
  rising_by cmp key ys rise.1,
)

pub matched_rising : {A B K : Type 0} {R : A → B → Type 0} (cmp : K → K → Ordering) → IsTotalOrder cmp → (key : A → K) (key' : B → K)
    → ((x : A) (y : B) → R x y → key x ≡ key' y) → (xs : List A) (ys : List B)
    → IsStrictlySortedBy cmp (map key xs) → IsStrictlySortedBy cmp (map key' ys) → Matched R xs ys → Paired R xs ys
matched_rising {R = R} cmp order key key' same xs ys rise rise' m =
    subst (Paired R xs)
    (rising_unique (λ x y. cmp (key' x) (key' y)) (on_total key' order) m.middle ys
    (rising_by cmp key' m.middle (subst (IsStrictlySortedBy cmp) (paired_map key key' same m.paired) rise)) (rising_by cmp key' ys rise')
    (λ y h. reordered-In y m.reordered h) (λ y h. reordered-In y (IsPermutation-sym _ _ m.reordered) h))
    m.paired

-- what a list keeps comes from an entry
pub kept_has : {A K : Type 0} (key : A → Option K) (k : K) (xs : List A) → In k (filter_map key xs) → (x : A) × In x xs × (key x ≡ Some k)
kept_has key k [] h = elim h [ ]
kept_has {A} {K} key k (y ∷ ys) h = at (key y) refl h (kept_has key k ys)
  where
    at : (o : Option K) → key y ≡ o → In k (cons_option o (filter_map key ys)) → (In k (filter_map key ys) → (x : A) × In x ys × (key x ≡ Some k)) → (x : A)
        × In x (y ∷ ys) × (key x ≡ Some k)
    at None is i rest = let r = rest i in (r.0, inr r.1, r.2)
    at (Some l) is i rest = ⊎_elim (λ e. (y, inl refl, is ∙ ap Some e)) (λ j. let r = rest j in (r.0, inr r.1, r.2)) i
