-- The order that is made of distinct keys: the positions in the rising order of the keys, and the rank of each key.
use Rattle.erd_meaning.proofs.Common.{◌≡◌, ℕ, ◌+◌, ◌<◌, List, [], ◌∷◌, map, length, replicate, slice_get, Some, option_map, is_lt, Ordering, sym, ap, ◌∙◌}
use Rattle.erd_meaning.proofs.Common.{subst, arith, on_total, length-map, length-replicate, slice_get-map, slice_get_within, IsTotalOrder, AllByRecursion}
use Rattle.erd_meaning.proofs.Common.{IsDistinct, eq_by_cmp, all_from_In, places_put, rising_list, positioned, rank_by, positions_by, option_map-Some, in_at}
use Rattle.erd_meaning.proofs.rising.PlacesPut.{StandOnce, length_put, put_at, same_entries}
use Rattle.erd_text.proofs.RisingLists.{by_first}
use Rattle.erd_text.proofs.RisingOrders.{rank_at, rank_in, stands_at_rank, In-rising, length-rising}
use Rattle.erd_meaning.proofs.selections.PositionedKeys.{apart_positioned, count_positioned, key_positioned, length_positioned, one_positioned_at}
use Rattle.erd_meaning.proofs.selections.PositionedKeys.{stands_positioned}

module _ {K : Type 0} (cmp : K → K → Ordering) (total : IsTotalOrder cmp) (ks : List K) where
  -- a key with a position
  abbrev KeyAt : Type 0
  KeyAt = K × ℕ

  first_total : IsTotalOrder (by_first {T = ℕ} cmp)
  first_total = on_total (λ (p : KeyAt). p.0) total

  abbrev old : List KeyAt
  old = positioned 0 ks

  abbrev new : List KeyAt
  new = rising_list (by_first cmp) old

  -- no place is put yet
  abbrev none_put : List ℕ
  none_put = replicate (length (positions_by cmp ks)) 0

  -- as many positions as keys, and each below their number
  length_rising_positions : length (positions_by cmp ks) ≡ length ks
  length_rising_positions = length-map new (λ (p : KeyAt). p.1) ∙ (length-rising (by_first cmp) old ∙ length_positioned 0 ks)

  low_pairs : AllByRecursion (λ (p : KeyAt). p.1 < length ks) new
  low_pairs = all_from_In (λ (p : KeyAt). p.1 < length ks) new (λ p i.
      let x = key_positioned 0 ks p (In-rising (by_first cmp) p old i) in
      let inside = slice_get_within ks x.index p.0 x.at in
      let is : p.1 ≡ 0 + x.index = x.is in
      omega (arith, inside))

  all_mapped : (n : ℕ) (ps : List KeyAt) → AllByRecursion (λ (p : KeyAt). p.1 < n) ps → AllByRecursion (λ i. i < n) (map (λ (p : KeyAt). p.1) ps)
  all_mapped n [] h = tt
  all_mapped n (p ∷ ps) h = (h.0, all_mapped n ps h.1)

  pub all_low : AllByRecursion (λ i. i < length (positions_by cmp ks)) (positions_by cmp ks)
  all_low = subst (λ n. AllByRecursion (λ i. i < n) (positions_by cmp ks)) (sym length_rising_positions) (all_mapped (length ks) new low_pairs)

  module _ (distinct : IsDistinct (eq_by_cmp cmp) ks) where
    pair_at : (j i : ℕ) → slice_get (positions_by cmp ks) j ≡ Some i → (p : KeyAt) × (slice_get new j ≡ Some p) × (p.1 ≡ i)
    pair_at j i e = option_map-Some (λ (p : KeyAt). p.1) (slice_get new j) i (sym (slice_get-map (λ (p : KeyAt). p.1) new j) ∙ e)

    once : StandOnce (positions_by cmp ks)
    once j k i a b =
        let x = pair_at j i a in
        let y = pair_at k i b in
        let same : x.0 ≡ y.0 = one_positioned_at ks x.0 y.0 (In-rising (by_first cmp) x.0 old (in_at new j x.0 x.1))
        (In-rising (by_first cmp) y.0 old (in_at new k y.0 y.1)) (x.2 ∙ sym y.2) in
        sym (rank_at first_total old j x.0 (apart_positioned cmp 0 ks distinct) x.1)
        ∙ (ap (λ p. rank_in (by_first cmp) p old) same ∙ rank_at first_total old k y.0 (apart_positioned cmp 0 ks distinct) y.1)

    place_there : (i : ℕ) (k : K) → slice_get ks i ≡ Some k → slice_get (places_put 0 (positions_by cmp ks) none_put) i ≡ Some (rank_by cmp ks k)
    place_there i k e =
        let p : KeyAt = (k, i) in
        let count : 0 + i ≡ i = omega arith in
        let none : 0 + rank_in (by_first cmp) p old ≡ rank_in (by_first cmp) p old = omega arith in
        let here : slice_get old i ≡ Some p = stands_positioned 0 ks i k e ∙ ap (λ m. Some (k, m)) count in
        let r = rank_in (by_first cmp) p old in
        let sorted : slice_get new r ≡ Some p = stands_at_rank first_total old p (apart_positioned cmp 0 ks distinct) (in_at old i p here) in
        let place : slice_get (positions_by cmp ks) r ≡ Some i = slice_get-map (λ (q : KeyAt). q.1) new r ∙ ap (option_map (λ (q : KeyAt). q.1)) sorted in
        let long : length none_put ≡ length ks = length-replicate (length (positions_by cmp ks)) 0 ∙ length_rising_positions in
        put_at (positions_by cmp ks) 0 none_put r i once place (subst (λ n. i < n) (sym long) (slice_get_within ks i k e))
        ∙ ap Some (none ∙ count_positioned (λ l. is_lt (cmp l k)) 0 ks)

    -- the places of the rising positions are the ranks
    pub ranks_are : places_put 0 (positions_by cmp ks) none_put ≡ map (rank_by cmp ks) ks
    ranks_are =
        let put = places_put 0 (positions_by cmp ks) none_put in
        let long : length put ≡ length (map (rank_by cmp ks) ks) =
        length_put 0 (positions_by cmp ks) none_put
        ∙ (length-replicate (length (positions_by cmp ks)) 0 ∙ (length_rising_positions ∙ sym (length-map ks (rank_by cmp ks)))) in
        same_entries put (map (rank_by cmp ks) ks) long (λ i n e.
        let k = option_map-Some (rank_by cmp ks) (slice_get ks i) n (sym (slice_get-map (rank_by cmp ks) ks i) ∙ e) in place_there i k.0 k.1 ∙ ap Some k.2)
