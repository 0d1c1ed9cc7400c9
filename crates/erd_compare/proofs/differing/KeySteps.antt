-- At two ranks the reports have the same key if and only if the common rank of the second is the first.
use Rattle.erd_compare.proofs.Common.{◌≡◌, ℕ, Bool, true, false, cond, List, ◌++◌, map, ◌==◌, slice_get, Some, None, Option, option_map, sym, refl, ap, ◌∙◌}
use Rattle.erd_compare.proofs.Common.{Decides-eqb, same_Some, slice_get-map, view, Role, Judged, rising_positions, option_map-Some, KeyPosition, Key, place_of}
use Rattle.erd_compare.proofs.Common.{common_rank, AreCommonRanks, keys_in_role, is_ranked, rising_in_role, shared, IsComparable, ◌≢◌, zero, suc, ◌+◌, [], ◌∷◌}
use Rattle.erd_compare.proofs.Common.{drop, is_eq, Ordering, Less, Equal, Greater, ap₂, subst, inl, inr, option_copied, Bor, key_cmp, options_exact, equal_keys}
use Rattle.erd_compare.proofs.Common.{greater_turned, ObjectRecord, RecordMap, Stands, first_of, role_of_part, key_in_role, map_of, TellsAtPositions}
use Rattle.erd_compare.proofs.Common.{TellsLeast, HasKeyAt, How, OnlyLeft, OnlyRight, Part, part, AreWays, Ways, hows_of, ways}
use Rattle.erd_compare.proofs.least_difference.RisingKeys.{entries, key_at, keys_rise, all_rise, by_key, by_key_total, entry_with, key_there, keys_at}
use Rattle.erd_compare.proofs.least_difference.RisingKeys.{stands_there, only_among, some_record, tells_as}
use Rattle.erd_compare.proofs.same_ranks.KeyRanks.{first_at, place_first, place_stands, place_there, stands_second}
use Rattle.erd_check.proofs.Positions.{left_there}
use Rattle.erd_compare.specs.code.DifferingNames.{IsBelowAll, IsWalked}
use Rattle.erd_compare.specs.code.KeyedDifferences.{TellsLeastAt}
use Rattle.erd_compare.specs.code.DifferingKeys.{GoesOnToKey, IsNextKey, IsPassedKey, PassesLesser, TellsStep, keys_from}
use Rattle.erd_compare.specs.code.RisingParts.{AreRising}
use Rattle.erd_compare.specs.declared.first.key_steps.Ranks.{Ranks}
use Rattle.erd_compare.specs.declared.first.keyed_ways.KeyedWays.{KeyedWays}
use Rattle.erd_compare.specs.declared.first.keyed_ways.Rising.{Rising}
use Rattle.erd_compare.proofs.differing.RecordWays.{ways_apart, ways_first, ways_none}
use Rattle.erd_compare.proofs.differing.Walks.{all_found, all_left, below_head, first_found, lacks_left, lacks_right, none_there, pass_differing, pass_same}
use Rattle.erd_compare.proofs.differing.Walks.{past_below, past_head}

-- ---- positions that are told

-- the three that are told are there
told_shared : (x y z : Option ℕ) (n i j : ℕ) → shared x y z n ≡ Some (i, j) → (x ≡ Some i) × (y ≡ Some j) × (z ≡ Some n)
told_shared (Some k) (Some l) (Some m) n i j h = at (m == n) refl h
  where
    at : (b : Bool) → (m == n) ≡ b → cond {A = Option (ℕ × ℕ)} b (Some (k, l)) None ≡ Some (i, j) → (Some k ≡ Some i) × (Some l ≡ Some j) × (Some m ≡ Some n)
    at true is h =
        let pair : ◌≡◌ {A = ℕ × ℕ} (k, l) (i, j) = cc in
        (ap (λ (x : ℕ × ℕ). Some x.0) pair, ap (λ (x : ℕ × ℕ). Some x.1) pair, ap Some ((Decides-eqb m n).0 is))
    at false is h = cc
told_shared x y z n i j h = cc

no_some : {A : Type 0} {x : A} → Some x ≡ None → ⊥
no_some e = cc

none_shared : (x y z : Option ℕ) (n i j : ℕ) → x ≡ Some i → y ≡ Some j → z ≡ Some n → shared x y z n ≡ None → ⊥
none_shared (Some k) (Some l) (Some m) n i j a b c h =
    let same : m ≡ n = cc in
    absurd (no_some (sym (ap (λ t. cond {A = Option (ℕ × ℕ)} t (Some (k, l)) None) ((Decides-eqb m n).1 same)) ∙ h))
none_shared x y z n i j a b c h = cc

-- ---- keys at a rank

module _ (a b : Judged) (r : Role) (c : IsComparable a.prefer (view a.tree)) (ranked : is_ranked r ≡ true) (ranks : List ℕ)
    (are : AreCommonRanks a b r ranks) where
  abbrev keyed_ones : List KeyPosition
  keyed_ones = entries a.prefer (view a.tree) r

  abbrev keyed_others : List KeyPosition
  keyed_others = entries b.prefer (view b.tree) r

  abbrev keys_left : List (Option Key)
  keys_left = rising_in_role a.prefer (view a.tree) r

  abbrev keys_right : List (Option Key)
  keys_right = rising_in_role b.prefer (view b.tree) r

  left_key : (n : ℕ) (e : KeyPosition) → slice_get keyed_ones n ≡ Some e → slice_get keys_left n ≡ Some e.0
  left_key n e here = key_at a.prefer (view a.tree) r n ∙ ap (option_map (λ (x : KeyPosition). x.0)) here

  right_key : (n : ℕ) (g : KeyPosition) → slice_get keyed_others n ≡ Some g → slice_get keys_right n ≡ Some g.0
  right_key n g here = key_at b.prefer (view b.tree) r n ∙ ap (option_map (λ (x : KeyPosition). x.0)) here

  common_at : (n : ℕ) (g : KeyPosition) → slice_get keyed_others n ≡ Some g → slice_get ranks n ≡ Some (common_rank a b r g.0)
  common_at n g there =
      ap (λ ns. slice_get ns n) are ∙ (slice_get-map (common_rank a b r) keys_right n ∙ ap (option_map (common_rank a b r)) (right_key n g there))

  -- the common rank is the rank where the keys are the same
  same_rank : (n l : ℕ) (e g : KeyPosition) → slice_get keyed_ones n ≡ Some e → slice_get keyed_others l ≡ Some g → e.0 ≡ g.0 → slice_get ranks l ≡ Some n
  same_rank n l e g here there same =
      let stands : slice_get keys_left n ≡ Some g.0 = left_key n e here ∙ ap Some same in
      let place : place_of g.0 keys_left ≡ n = place_there keys_left n g.0 (keys_rise a.prefer (view a.tree) r c ranked) stands in
      common_at l g there ∙ ap Some (place_first g.0 keys_left keys_right (ap (slice_get keys_left) place ∙ stands) ∙ place)

  -- and the other way round
  same_key : (n l : ℕ) (e g : KeyPosition) → slice_get keyed_ones n ≡ Some e → slice_get keyed_others l ≡ Some g → slice_get ranks l ≡ Some n → e.0 ≡ g.0
  same_key n l e g here there is =
      let place : common_rank a b r g.0 ≡ n = let two : Some (common_rank a b r g.0) ≡ Some n = sym (common_at l g there) ∙ is in cc in
      let stands = stands_second g.0 keys_left keys_right (l, right_key l g there) in
      let its : slice_get (keys_left ++ keys_right) n ≡ Some g.0 = ap (slice_get (keys_left ++ keys_right)) (sym place)
      ∙ place_stands g.0 (keys_left ++ keys_right) stands.0 stands.1 in
      same_Some _ _ (sym (first_at keys_left keys_right n e.0 (left_key n e here)) ∙ its)

  -- ---- what the code finds

  -- the entries of both at ranks where they have the same key
  pub record HaveShared (n l i j : ℕ) : Type 0 where
    pub one : KeyPosition
    pub other : KeyPosition
    pub here : slice_get keyed_ones n ≡ Some one
    pub there : slice_get keyed_others l ≡ Some other
    pub first : one.1 ≡ i
    pub second : other.1 ≡ j
    pub same : one.0 ≡ other.0

  abbrev positions_left : List ℕ
  positions_left = rising_positions (keys_in_role a.prefer (view a.tree) r)

  abbrev positions_right : List ℕ
  positions_right = rising_positions (keys_in_role b.prefer (view b.tree) r)

  entry_at : (es : List KeyPosition) (n i : ℕ) → slice_get (map (λ (e : KeyPosition). e.1) es) n ≡ Some i → (e : KeyPosition)
      × (slice_get es n ≡ Some e) × (e.1 ≡ i)
  entry_at es n i is = option_map-Some (λ (e : KeyPosition). e.1) (slice_get es n) i (sym (slice_get-map (λ (e : KeyPosition). e.1) es n) ∙ is)

  position_at : (es : List KeyPosition) (n : ℕ) (e : KeyPosition) → slice_get es n ≡ Some e → slice_get (map (λ (e : KeyPosition). e.1) es) n ≡ Some e.1
  position_at es n e is = slice_get-map (λ (e : KeyPosition). e.1) es n ∙ ap (option_map (λ (e : KeyPosition). e.1)) is

  pub found_shared : (n l i j : ℕ) → shared (slice_get positions_left n) (slice_get positions_right l) (slice_get ranks l) n ≡ Some (i, j) → HaveShared n l i j
  found_shared n l i j is =
      let told = told_shared (slice_get positions_left n) (slice_get positions_right l) (slice_get ranks l) n i j is in
      let e = entry_at keyed_ones n i told.0 in
      let g = entry_at keyed_others l j told.1 in
      record { one = e.0; other = g.0; here = e.1; there = g.1; first = e.2; second = g.2; same = same_key n l e.0 g.0 e.1 g.1 told.2 }

  pub none_found : (n l : ℕ) → shared (slice_get positions_left n) (slice_get positions_right l) (slice_get ranks l) n ≡ None → (e g : KeyPosition)
      → slice_get keyed_ones n ≡ Some e → slice_get keyed_others l ≡ Some g → e.0 ≡ g.0 → ⊥
  none_found n l is e g here there same =
      none_shared (slice_get positions_left n) (slice_get positions_right l) (slice_get ranks l) n e.1 g.1 (position_at keyed_ones n e here)
      (position_at keyed_others l g there) (same_rank n l e g here there same) is

-- ---- the rising keys of two reports in a part, walked in step by ranks, on past each difference

-- each part has a role with ranks
part_ranked : (p : Part) → is_ranked (role_of_part p) ≡ true
part_ranked part.Report = refl
part_ranked p = refl

ended : (ks : List (Option Key)) (i : ℕ) → slice_get ks i ≡ None → drop i ks ≡ []
ended [] zero none = refl
ended [] (suc i) none = refl
ended (k ∷ ks) zero none = cc
ended (k ∷ ks) (suc i) none = ended ks i none

-- each key has a record
has_record : (a : Judged) (p : Part) → IsComparable a.prefer (view a.tree) → (n : ℕ) (k : Option Key)
    → slice_get (rising_in_role a.prefer (view a.tree) (role_of_part p)) n ≡ Some k → (r : ObjectRecord) × (map_of a p k ≡ Some r)
has_record a p c n k is =
    let e = entry_with a.prefer (view a.tree) (role_of_part p) n k is in
    let r = some_record a.prefer (view a.tree) c p e.0.0 e.0.1 (stands_there a.prefer (view a.tree) (role_of_part p) n e.0 e.1) in
    (r.0, subst (λ x. map_of a p x ≡ Some r.0) e.2 r.1)

-- a key that was passed by is the next one, if the reports differ there
next_key : (all : Bool) (a b : Judged) (p : Part) (found : List (Option Key)) {after : Ranks} {d : KeyedWays} {k : Option Key} {w : Ways} {i j : ℕ}
    → IsPassedKey k w i j after d → AreWays all (map_of a p k) (map_of b p k) w → hows_of w ≢ []
    → IsWalked by_key (map_of a p) (map_of b p) (found ++ (k ∷ [])) (keys_from a p i) (keys_from b p j) → IsNextKey all a b p found after d
next_key all a b p found {after} {d} {k} {w} {i} {j} told differ some walked = record {
  ways = subst (λ z. AreWays all (map_of a p z) (map_of b p z) d.ways) (sym told.its_key)
      (subst (AreWays all (map_of a p k) (map_of b p k)) (sym told.its_ways) differ);
  some = subst (λ x. hows_of x ≢ []) (sym told.its_ways) some;
  walked =
      subst (λ z. IsWalked by_key (map_of a p) (map_of b p) (found ++ (z ∷ [])) (keys_from a p after.one) (keys_from b p after.other)) (sym told.its_key)
      (subst (λ z. IsWalked by_key (map_of a p) (map_of b p) (found ++ (k ∷ [])) (keys_from a p z) (keys_from b p after.other)) (sym told.at_one)
      (subst (λ z. IsWalked by_key (map_of a p) (map_of b p) (found ++ (k ∷ [])) (keys_from a p i) (keys_from b p z)) (sym told.at_other) walked));
}

module _ (all : Bool) (a b : Judged) (p : Part) (rising : Rising) (h : AreRising a b p rising) where
  abbrev role : Role
  role = role_of_part p

  abbrev mine : RecordMap
  mine = map_of a p

  abbrev its : RecordMap
  its = map_of b p

  abbrev ones : List (Option Key)
  ones = rising_in_role a.prefer (view a.tree) role

  abbrev others : List (Option Key)
  others = rising_in_role b.prefer (view b.tree) role

  -- the positions of both at these ranks
  abbrev pub between : ℕ → ℕ → Option (ℕ × ℕ)
  between i j = shared (slice_get rising.ones.now i) (slice_get rising.others.now j) (slice_get rising.common.now j) i

  exact : (i j : ℕ) (o : Option (ℕ × ℕ)) → between i j ≡ o → shared (slice_get (rising_positions (keys_in_role a.prefer (view a.tree) role)) i)
      (slice_get (rising_positions (keys_in_role b.prefer (view b.tree) role)) j) (slice_get rising.common.now j) i ≡ o
  exact i j o is = ap₂ (λ xs ys. shared (slice_get xs i) (slice_get ys j) (slice_get rising.common.now j) i) (sym h.ones) (sym h.others) ∙ is

  module _ (i j : ℕ) (found : List (Option Key)) (walked : IsWalked by_key mine its found (drop i ones) (drop j others)) where
    heads_left : (k : Option Key) → slice_get ones i ≡ Some k → IsWalked by_key mine its found (k ∷ drop (i + 1) ones) (drop j others)
    heads_left k is = subst (λ xs. IsWalked by_key mine its found xs (drop j others)) (left_there ones i k is) walked

    heads_right : (k : Option Key) → slice_get others j ≡ Some k → IsWalked by_key mine its found (drop i ones) (k ∷ drop (j + 1) others)
    heads_right k is = subst (IsWalked by_key mine its found (drop i ones)) (left_there others j k is) walked

    -- ---- both have a key

    module _ (x y : ℕ) (is : between i j ≡ Some (x, y)) where
      both : HaveShared a b role h.left (part_ranked p) rising.common.now h.common i j x y
      both = found_shared a b role h.left (part_ranked p) rising.common.now h.common i j x y (exact i j (Some (x, y)) is)

      here : slice_get ones i ≡ Some both.one.0
      here = key_at a.prefer (view a.tree) role i ∙ ap (option_map (λ (e : KeyPosition). e.0)) both.here

      there : slice_get others j ≡ Some both.one.0
      there = key_at b.prefer (view b.tree) role j ∙ (ap (option_map (λ (e : KeyPosition). e.0)) both.there ∙ ap Some (sym both.same))

      heads : IsWalked by_key mine its found (both.one.0 ∷ drop (i + 1) ones) (both.one.0 ∷ drop (j + 1) others)
      heads = subst (IsWalked by_key mine its found (both.one.0 ∷ drop (i + 1) ones)) (left_there others j both.one.0 there) (heads_left both.one.0 here)

      ways_there : (w : Ways) → TellsAtPositions all a b p x y w → TellsAtPositions all a b p both.one.1 both.other.1 w
      ways_there w told = subst (λ z. TellsAtPositions all a b p z both.other.1 w) (sym both.first)
          (subst (λ z. TellsAtPositions all a b p x z w) (sym both.second) told)

      its_key : HasKeyAt b.prefer (view b.tree) role both.other.1 both.one.0
      its_key = subst (HasKeyAt b.prefer (view b.tree) role both.other.1) (sym both.same) (stands_there b.prefer (view b.tree) role j both.other both.there)

      its_ways : (w : Ways) → TellsAtPositions all a b p x y w → AreWays all (mine both.one.0) (its both.one.0) w
      its_ways w told = ways_there w told both.one.0 (stands_there a.prefer (view a.tree) role i both.one both.here) its_key

      pub passed_same : (w : Ways) → TellsAtPositions all a b p x y w → hows_of w ≡ []
          → IsWalked by_key mine its found (drop (i + 1) ones) (drop (j + 1) others)
      passed_same w told none =
          pass_same heads (past_head heads.left) (past_head heads.right) (ways_none all (mine both.one.0) (its both.one.0) w (its_ways w told) none)

      pub passed_other : (w : Ways) → TellsAtPositions all a b p x y w → hows_of w ≢ [] → (k : Option (Bor Key)) → option_copied k
          ≡ key_in_role a.prefer role (view a.tree) x
          → (after : Ranks) → after.one ≡ i + 1 → after.other ≡ j + 1 → IsNextKey all a b p found after (record { key = k; ways = w })
      passed_other w told some k key after one other =
          let differ = its_ways w told in
          let same : option_copied k ≡ both.one.0 =
          key ∙ (ap (key_in_role a.prefer role (view a.tree)) (sym both.first) ∙ key_there a.prefer (view a.tree) role (part_ranked p)
          i both.one both.here) in
          next_key all a b p found {k = both.one.0} {w = w} {i = i + 1} {j = j + 1}
          (record { its_key = same; its_ways = refl; at_one = one; at_other = other }) differ some
          (pass_differing heads (past_head heads.left) (past_head heads.right) (ways_apart all (mine both.one.0) (its both.one.0) w differ some)
          (inl (inl refl)))

    -- ---- one alone has a key

    module _ (d : KeyedWays) (after : Ranks) where
      pass_left : (k : Option Key) → slice_get ones i ≡ Some k → IsBelowAll by_key k (drop j others) → IsPassedKey k ways.OnlyLeft (i + 1) j after d
          → IsNextKey all a b p found after d
      pass_left k is below told =
          let step = heads_left k is in
          let r = has_record a p h.left i k is in
          let some_way : OnlyLeft ∷ [] ≢ [] = λ e. cc in
          let none = lacks_right by_key_total step below in
          let differ : AreWays all (mine k) (its k) ways.OnlyLeft =
          tells_as (λ x y. AreWays all x y ways.OnlyLeft) (mine k) (its k) (Some r.0) None r.1 none refl in
          next_key all a b p found told differ some_way
          (pass_differing step (past_head step.left) (past_below k step.right below) (ways_apart all (mine k) (its k) ways.OnlyLeft differ some_way)
          (inl (inl refl)))

      pass_right : (k : Option Key) → slice_get others j ≡ Some k → IsBelowAll by_key k (drop i ones) → IsPassedKey k ways.OnlyRight i (j + 1) after d
          → IsNextKey all a b p found after d
      pass_right k is below told =
          let step = heads_right k is in
          let r = has_record b p h.right j k is in
          let some_way : OnlyRight ∷ [] ≢ [] = λ e. cc in
          let none = lacks_left by_key_total step below in
          let differ : AreWays all (mine k) (its k) ways.OnlyRight =
          tells_as (λ x y. AreWays all x y ways.OnlyRight) (mine k) (its k) None (Some r.0) none r.1 refl in
          next_key all a b p found told differ some_way
          (pass_differing step (past_below k step.left below) (past_head step.right) (ways_apart all (mine k) (its k) ways.OnlyRight differ some_way)
          (inr (inl refl)))

    -- what is told at ranks where the keys are not the same
    pub step_on : (after : Ranks) (o : Option KeyedWays) → between i j ≡ None → TellsStep (slice_get ones i) (slice_get others j)
        (record { one = i; other = j }) after o → GoesOnToKey all a b p found after o
    step_on after o apart told = at (slice_get ones i) refl (slice_get others j) refl o told
      where
        below_left : (k l : Option Key) → slice_get others j ≡ Some l → by_key k l ≡ Less → IsBelowAll by_key k (drop j others)
        below_left k l there low = subst (IsBelowAll by_key k) (sym (left_there others j l there))
            (below_head by_key_total k l (drop (j + 1) others) low (heads_right l there).right)

        below_right : (k l : Option Key) → slice_get ones i ≡ Some k → by_key l k ≡ Less → IsBelowAll by_key l (drop i ones)
        below_right k l here low = subst (IsBelowAll by_key l) (sym (left_there ones i k here))
            (below_head by_key_total l k (drop (i + 1) ones) low (heads_left k here).left)

        two : (k l : Option Key) → slice_get ones i ≡ Some k → slice_get others j ≡ Some l → k ≡ l → ⊥
        two k l here there same =
            let e = entry_with a.prefer (view a.tree) role i k here in
            let g = entry_with b.prefer (view b.tree) role j l there in
            none_found a b role h.left (part_ranked p) rising.common.now h.common i j (exact i j None apart) e.0 g.0 e.1 g.1 (e.2 ∙ (same ∙ sym g.2))

        by : (k l : Option Key) → slice_get ones i ≡ Some k → slice_get others j ≡ Some l → (c : Ordering) → by_key k l ≡ c → (o : Option KeyedWays)
            → PassesLesser c k l (record { one = i; other = j }) after o → GoesOnToKey all a b p found after o
        by k l x y Less is None told = absurd told
        by k l x y Less is (Some d) told = pass_left d after k x (below_left k l y is) told
        by k l x y Equal is o told = absurd (two k l x y (options_exact key_cmp equal_keys k l (ap is_eq is)))
        by k l x y Greater is None told = absurd told
        by k l x y Greater is (Some d) told = pass_right d after l y (below_right k l x (greater_turned by_key_total k l is)) told

        nothing_in : (k : Option Key) (xs : List (Option Key)) → xs ≡ [] → Stands k xs → ⊥
        nothing_in k xs e inside = subst (Stands k) e inside

        at : (x : Option (Option Key)) → slice_get ones i ≡ x → (y : Option (Option Key)) → slice_get others j ≡ y → (o : Option KeyedWays)
            → TellsStep x y (record { one = i; other = j }) after o → GoesOnToKey all a b p found after o
        at None v None w o told =
            subst (GoesOnToKey all a b p found after) (sym told)
            (all_found walked (λ k. nothing_in k (drop i ones) (ended ones i v)) (λ k. nothing_in k (drop j others) (ended others j w)))
        at (Some k) v None w None told = absurd told
        at (Some k) v None w (Some d) told = pass_left d after k v (subst (IsBelowAll by_key k) (sym (ended others j w)) tt) told
        at None v (Some l) w None told = absurd told
        at None v (Some l) w (Some d) told = pass_right d after l w (subst (IsBelowAll by_key l) (sym (ended ones i v)) tt) told
        at (Some k) v (Some l) w o told = by k l v w (by_key k l) refl o told

    -- the same, as the code finds the keys by the positions
    pub step_told : (after : Ranks) (o : Option KeyedWays) → between i j ≡ None
        → TellsStep (option_map (key_in_role a.prefer role (view a.tree)) (slice_get rising.ones.now i))
        (option_map (key_in_role b.prefer role (view b.tree)) (slice_get rising.others.now j)) (record { one = i; other = j }) after o
        → GoesOnToKey all a b p found after o
    step_told after o apart told =
        step_on after o apart
        (subst (λ x. TellsStep x (slice_get others j) (record { one = i; other = j }) after o)
        (ap (λ xs. option_map (key_in_role a.prefer role (view a.tree)) (slice_get xs i)) h.ones
        ∙ sym (keys_at a.prefer (view a.tree) role (part_ranked p) i))
        (subst (λ y. TellsStep (option_map (key_in_role a.prefer role (view a.tree)) (slice_get rising.ones.now i)) y (record { one = i; other = j }) after o)
        (ap (λ xs. option_map (key_in_role b.prefer role (view b.tree)) (slice_get xs j)) h.others
        ∙ sym (keys_at b.prefer (view b.tree) role (part_ranked p) j)) told))

  -- ---- from the start

  -- at first nothing was found
  pub start : IsWalked by_key mine its [] ones others
  start =
      all_left by_key mine its ones others (keys_rise a.prefer (view a.tree) role h.left (part_ranked p))
      (keys_rise b.prefer (view b.tree) role h.right (part_ranked p))
      (only_among a.prefer (view a.tree) h.left p ones (all_rise a.prefer (view a.tree) role))
      (only_among b.prefer (view b.tree) h.right p others (all_rise b.prefer (view b.tree) role))

-- what is found first is the least
pub first_told : (all : Bool) (a b : Judged) (p : Part) (after : Ranks) (o : Option KeyedWays) → GoesOnToKey all a b p [] after o
    → TellsLeast (map_of a p) (map_of b p) o
first_told all a b p after None end = none_there end
first_told all a b p after (Some d) next = at (hows_of d.ways) refl
  where
    k : Option Key
    k = option_copied d.key

    at : (hs : List How) → hows_of d.ways ≡ hs → TellsLeastAt (map_of a p) (map_of b p) k (first_of hs)
    at [] is = absurd (next.some is)
    at (how ∷ hs) is = record {
      differ = ways_first all (map_of a p k) (map_of b p k) d.ways how next.ways (ap first_of is);
      least = first_found by_key_total next.walked;
    }
