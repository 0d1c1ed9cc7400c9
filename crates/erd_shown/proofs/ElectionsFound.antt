-- The election with a key, sought among the positions in the order of the keys.
use Rattle.erd_shown.proofs.Common.{◌≡◌, ℕ, zero, suc, ◌+◌, Bool, true, false, List, [], ◌∷◌, map, length, slice_get, Some, None, Option, get_or}
use Rattle.erd_shown.proofs.Common.{option_and_then, option_map, option_cmp, is_eq, is_lt, is_gt, Ordering, Equal, Less, Greater, ordering_reverse, sym, refl}
use Rattle.erd_shown.proofs.Common.{ap, ap₂, ◌∙◌, subst, inl, inr, arith, cases_lt, slice_get-map, slice_get_within, get_or_from_slice_get, option_map-Some}
use Rattle.erd_shown.proofs.Common.{Equal-is, IsTotalOrder, options_total, on_total, AllByRecursion, eq_by_cmp, tied_itself, Data, In, In-all, In-map}
use Rattle.erd_shown.proofs.Common.{In-map_from, all_weakened, position_of, in_at, any_at, find-Some, find-any, rising_list, rising_list_map}
use Rattle.erd_shown.proofs.Common.{rising_never_falls, In-rising, NeverFalls, by_first, key_cmp, key_cmp_total, equal_keys, options_exact, distinct_one}
use Rattle.erd_shown.proofs.Common.{no_identity_fault, IsAccepted, Preference, key_of, Key, Placed, elections, rising_election_keys}
use Rattle.std.specs.Prelude.{IsSortedBy, MatchResult, Result, Ok, Err}
use Rattle.std.specs.List.Sorted.{IsBinarySearchResult, IsNonDecreasingBy, IsSearchInRange}
use Rattle.std.specs.Ordering.{ordering_index}
use Rattle.std.proofs.lemmas.List.{map-id}
use Rattle.std.proofs.lemmas.List.Sorted.{searchable_from_sorted}
use Rattle.std.proofs.lemmas.Option.{slice_get-get_or}
use Rattle.erd_text.proofs.RisingOrders.{rising-In}
use Rattle.erd_meaning.proofs.Common.{map-map}
use Rattle.erd_meaning.proofs.accepted.DistinctKeys.{election_keys_distinct}
use Rattle.erd_meaning.proofs.finding.ElectionsHeld.{election_key_is}
use Rattle.erd_meaning.proofs.selections.PositionedKeys.{KeyPosition, all_positioned, positioned_made, stands_positioned}
use Rattle.erd_meaning.specs.Lookups.{election_key_in}
use Rattle.erd_meaning.specs.Records.{election_with_key}
use Rattle.erd_meaning.specs.code.KeyOrders.{positioned}
use Rattle.erd_meaning.specs.code.ObjectWalk.{election_keys}

-- ---- a list that doesn't fall is sorted

module _ {A : Type 0} {cmp : A → A → Ordering} (order : IsTotalOrder cmp) where
  turned : (o : Ordering) → is_lt (ordering_reverse o) ≡ is_gt o
  turned o = grind arith

  not_below : (x y : A) → is_gt (cmp x y) ≡ false → is_lt (cmp y x) ≡ false
  not_below x y e = ap is_lt (order.antisymm y x) ∙ (turned (cmp x y) ∙ e)

  pub sorted_rising : (xs : List A) → NeverFalls cmp xs → IsSortedBy (λ x y. is_lt (cmp x y)) xs
  sorted_rising [] h k d low high = absurd (omega arith)
  sorted_rising (x ∷ []) h k d low high = absurd (omega arith)
  sorted_rising (x ∷ (y ∷ ys)) h zero d low high = not_below x y h.0.0
  sorted_rising (x ∷ (y ∷ ys)) h (suc k) d low high =
      let next : suc k + 1 ≡ suc (k + 1) = omega arith in
      ap (λ n. is_lt (cmp (get_or (x ∷ (y ∷ ys)) n d) (get_or (y ∷ ys) k d))) next
      ∙ sorted_rising (y ∷ ys) h.1 k d (omega arith) (omega (arith, high))

-- ---- the positions of the elections

-- the test that finds the election with a key, or without a key
abbrev has_given_key : Preference → Option Key → Placed → Bool
has_given_key π k e = is_eq (option_cmp key_cmp (key_of π e.value) k)

module _ (π : Preference) (t : Data) where
  abbrev key_at : ℕ → Option Key
  key_at = election_key_in π t

  abbrev pub order_at : Option Key → ℕ → Ordering
  order_at k i = option_cmp key_cmp (election_key_in π t i) k

  abbrev by_key : ℕ → ℕ → Ordering
  by_key i j = option_cmp key_cmp (key_at i) (key_at j)

  -- the positions in the order of the keys
  abbrev pub places : List ℕ
  places = map (λ p. p.1) (rising_election_keys π t)

  abbrev keyed : List KeyPosition
  keyed = positioned 0 (election_keys π t)

  rising_keyed : rising_election_keys π t ≡ rising_list (by_first (option_cmp key_cmp)) keyed
  rising_keyed = ap (rising_list (by_first (option_cmp key_cmp))) (sym (positioned_made (λ (e : Placed). key_of π e.value) 0 (elections t)))

  at_itself : (j : ℕ) → slice_get (election_keys π t) j ≡ slice_get (election_keys π t) (0 + j)
  at_itself j = let same : j ≡ 0 + j = omega arith in ap (slice_get (election_keys π t)) same

  -- each key stands beside its position
  beside : AllByRecursion (λ (p : KeyPosition). p.0 ≡ key_at p.1) keyed
  beside =
      all_weakened (λ (p : KeyPosition). slice_get (election_keys π t) p.1 ≡ Some p.0) (λ (p : KeyPosition). p.0 ≡ key_at p.1) keyed
      (λ p e. ap (λ (o : Option (Option Key)). option_and_then (λ k. k) o) (sym e) ∙ election_key_is π t p.1)
      (all_positioned (election_keys π t) (election_keys π t) 0 at_itself)

  by_position : (ps : List KeyPosition) → AllByRecursion (λ (p : KeyPosition). p.0 ≡ key_at p.1) ps
      → map (λ (n : ℕ). (key_at n, n)) (map (λ (p : KeyPosition). p.1) ps) ≡ ps
  by_position [] h = refl
  by_position (p ∷ ps) h = ap₂ (λ (k : Option Key) (qs : List KeyPosition). (k, p.1) ∷ qs) (sym h.0) (by_position ps h.1)

  places_rise : places ≡ rising_list by_key (map (λ (p : KeyPosition). p.1) keyed)
  places_rise =
      let ns = map (λ (p : KeyPosition). p.1) keyed in
      let f : ℕ → KeyPosition = λ n. (key_at n, n) in
      ap (map (λ (p : KeyPosition). p.1))
      (rising_keyed ∙ ap (rising_list (by_first (option_cmp key_cmp))) (sym (by_position keyed beside))
      ∙ sym (rising_list_map f (by_first (option_cmp key_cmp)) ns))
      ∙ map-map (λ (p : KeyPosition). p.1) f (rising_list by_key ns) ∙ map-id (rising_list by_key ns)

  -- what a binary search by a key asks
  pub searchable : (k : Option Key) → IsNonDecreasingBy (λ i. ordering_index (order_at k i)) places
  searchable k =
      let total = on_total key_at (options_total key_cmp_total) in
      searchable_from_sorted (options_total key_cmp_total) key_at places k
      (subst (IsSortedBy (λ i j. is_lt (by_key i j))) (sym places_rise)
      (sorted_rising total (rising_list by_key (map (λ (p : KeyPosition). p.1) keyed))
      (rising_never_falls total (map (λ (p : KeyPosition). p.1) keyed))))

  -- an election stands at each of the positions, and the position of each is one of them
  stands : (i : ℕ) → In i places → (e : Placed) × (slice_get (elections t) i ≡ Some e)
  stands i h =
      let p = In-map_from (λ (p : KeyPosition). p.1) (rising_election_keys π t) i h in
      let old = In-rising (by_first (option_cmp key_cmp)) p.0 keyed (subst (In p.0) rising_keyed p.1) in
      let there = In-all (λ (p : KeyPosition). slice_get (election_keys π t) p.1 ≡ Some p.0) p.0 keyed
      (all_positioned (election_keys π t) (election_keys π t) 0 at_itself) old in
      let e = option_map-Some (λ (e : Placed). key_of π e.value) (slice_get (elections t) i) p.0.0
      (sym (slice_get-map (λ (e : Placed). key_of π e.value) (elections t) i) ∙ ap (slice_get (election_keys π t)) (sym p.2) ∙ there) in
      (e.0, e.1)

  is_place : (i : ℕ) (e : Placed) → slice_get (elections t) i ≡ Some e → In i places
  is_place i e there =
      let key = slice_get-map (λ (e : Placed). key_of π e.value) (elections t) i ∙ ap (option_map (λ (e : Placed). key_of π e.value)) there in
      let itself : 0 + i ≡ i = omega arith in
      let old = in_at keyed i (key_of π e.value, i)
      (stands_positioned 0 (election_keys π t) i (key_of π e.value) key ∙ ap (λ n. Some (key_of π e.value, n)) itself) in
      In-map (λ (p : KeyPosition). p.1) (key_of π e.value, i) (rising_election_keys π t)
      (subst (In (key_of π e.value, i)) (sym rising_keyed) (rising-In (by_first (option_cmp key_cmp)) (key_of π e.value, i) keyed old))

  -- ---- what is found

  module _ (accepted : IsAccepted π t) (k : Option Key) where
    same_key : (e : Placed) → has_given_key π k e ≡ true → key_of π e.value ≡ k
    same_key e h = options_exact key_cmp equal_keys (key_of π e.value) k h

    -- a position at which the key stands
    found : (i : ℕ) → In i places → order_at k i ≡ Equal → slice_get (elections t) i ≡ election_with_key π t k
    found i h equal =
        let e = stands i h in
        let has : has_given_key π k e.0 ≡ true =
        sym (ap (λ (o : Option Placed). is_eq (option_cmp key_cmp (option_and_then (λ (e : Placed). key_of π e.value) o) k)) e.1) ∙ ap is_eq equal in
        let here = in_at (elections t) i e.0 e.1 in
        let r = find-any (has_given_key π k) (elections t) (any_at (has_given_key π k) e.0 (elections t) here has) in
        let tie : (d c : Placed) → has_given_key π k d ≡ true → has_given_key π k c ≡ true
        → eq_by_cmp (option_cmp key_cmp) (key_of π d.value) (key_of π c.value) ≡ true =
        λ d c x y. ap₂ (λ l m. is_eq (option_cmp key_cmp l m)) (same_key d x) (same_key c y) ∙ ap is_eq (tied_itself (options_total key_cmp_total) k) in
        let same : e.0 ≡ r.0 = distinct_one (λ (e : Placed). key_of π e.value) (eq_by_cmp (option_cmp key_cmp)) (elections t)
        (election_keys_distinct π t (no_identity_fault π t accepted)) e.0 r.0 here r.3 (tie e.0 r.0 has r.2) (tie r.0 e.0 r.2 has) in
        e.1 ∙ (ap Some same ∙ sym r.1)

    -- a key that stands nowhere
    absent : ((i : ℕ) → In i places → order_at k i ≡ Equal → ⊥) → None ≡ election_with_key π t k
    absent nowhere = at (election_with_key π t k) refl
      where
        at : (o : Option Placed) → election_with_key π t k ≡ o → None ≡ election_with_key π t k
        at None is = sym is
        at (Some e) is =
            let r = find-Some (has_given_key π k) (elections t) e is in
            let p = position_of (elections t) e r.0 in
            let equal : order_at k p.0 ≡ Equal =
            ap (λ (o : Option Placed). option_cmp key_cmp (option_and_then (λ (e : Placed). key_of π e.value) o) k) p.1
            ∙ (Equal-is (option_cmp key_cmp (key_of π e.value) k)).0 r.1 in
            absurd (nowhere p.0 (is_place p.0 e p.1) equal)

    -- what a binary search ends with
    pub searched : (r : Result ℕ ℕ) → IsSearchInRange r (length places) → IsBinarySearchResult (order_at k) places r
        → MatchResult r (λ j. slice_get (elections t) (get_or places j 0) ≡ election_with_key π t k) (λ j. None ≡ election_with_key π t k)
    searched (Ok j) bound is =
        found (get_or places j 0) (in_at places j (get_or places j 0) (slice_get-get_or places j 0 bound)) (is 0)
    searched (Err j) bound is = absent (λ i h equal.
        let p = position_of places i h in
        let within = slice_get_within places p.0 i p.1 in
        let there : get_or places p.0 0 ≡ i = get_or_from_slice_get places p.0 i 0 p.1 in
        let parted = is (searchable k) in
        elim (cases_lt p.0 j) [
          | inl low ↦ let clash : Less ≡ Equal = sym (parted.0 p.0 0 (omega arith) low) ∙ (ap (order_at k) there ∙ equal) in cc
          | inr high ↦ let clash : Greater ≡ Equal = sym (parted.1 p.0 0 high within) ∙ (ap (order_at k) there ∙ equal) in cc
        ])
