-- The first position of a key in a list.
use Rattle.erd_compare.proofs.Common.{◌≡◌, ℕ, zero, suc, ◌+◌, ◌<◌, Bool, true, false, cond, ◌⊎◌, List, [], ◌∷◌, ◌++◌, length, slice_get, Some, Option, is_eq}
use Rattle.erd_compare.proofs.Common.{Less, Equal, sym, refl, ap, ◌∙◌, subst, inl, inr, true≢false, arith, cases_order, tied_itself, same_Some}
use Rattle.erd_compare.proofs.Common.{IsStrictlySortedBy, option_cmp, key_cmp, sorted_at, options_exact, equal_keys, Key, place_of, ◌≤◌, map, take, None}
use Rattle.erd_compare.proofs.Common.{Ordering, Greater, take_all, map-append, take_more, slice_get_within, get_or_from_slice_get, greater_turned, next_cmp}
use Rattle.erd_compare.proofs.Common.{◌==◌, option_map, slice_get-map, Data, view, Role, Judged, Preference, rank_in_keys, option_eq, common_rank, rank_of_key}
use Rattle.erd_compare.proofs.Common.{AreCommonRanks, common_ranks_in, AreAllCommonRanks, Decides, keys_in_role, is_ranked, rising_in_role, HasKeyAt}
use Rattle.erd_compare.proofs.Common.{IsComparable, on_side, AreCommonByRank, CommonRanks, ComparedReport, Left, Right, position_of, option_and_then, ap₂}
use Rattle.erd_compare.proofs.Common.{Family, role, has_keys, key_of, election_key_in, Placed, elections, objects, has_id, owner_at, owner, key_named}
use Rattle.erd_compare.proofs.Common.{option_and_then_some, find-Some, option_map-Some, common_rank_of, key_with_role, key_in_role, holder_in, holder_key_in}
use Rattle.erd_compare.proofs.Common.{rank_with_id}
use Rattle.erd_compare.proofs.least_difference.RisingKeys.{by_key, by_key_total, all_rise, at_rank, keys_rise}
use Rattle.std.proofs.lemmas.List.{length_push}
use Rattle.std.proofs.lemmas.Option.{slice_get-get_or}
use Rattle.erd_compare.proofs.same_values.SameValues.{options_decide, decides_as}

-- the key is in the list
abbrev pub Stands : Option Key → List (Option Key) → Type 0
Stands k ks = (i : ℕ) × (slice_get ks i ≡ Some k)

-- the key is not in the list
abbrev pub StandsNowhere : Option Key → List (Option Key) → Type 0
StandsNowhere k ks = (i : ℕ) → slice_get ks i ≡ Some k → ⊥

abbrev same : Option Key → Option Key → Bool
same k l = is_eq (option_cmp key_cmp k l)

same_itself : (k l : Option Key) → l ≡ k → same k l ≡ true
same_itself k l e = subst (λ x. same k x ≡ true) (sym e) (ap is_eq (tied_itself by_key_total k))

-- a key that is in the list stands at its place
pub place_stands : (k : Option Key) (ks : List (Option Key)) (i : ℕ) → slice_get ks i ≡ Some k → slice_get ks (place_of k ks) ≡ Some k
place_stands k [] i e = cc
place_stands k (l ∷ ls) i e = at (same k l) refl i e (λ j. place_stands k ls j)
  where
    at : (b : Bool) → same k l ≡ b → (i : ℕ) → slice_get (l ∷ ls) i ≡ Some k → ((j : ℕ) → slice_get ls j ≡ Some k → slice_get ls (place_of k ls) ≡ Some k)
        → slice_get (l ∷ ls) (cond b 0 (suc (place_of k ls))) ≡ Some k
    at true is i e rest = ap Some (sym (options_exact key_cmp equal_keys k l is))
    at false is zero e rest = absurd (true≢false (sym (same_itself k l (same_Some _ _ e)) ∙ is))
    at false is (suc i) e rest = rest i e

-- ---- two lists

-- a key of the first list has its place there
pub place_first : (k : Option Key) (ks ms : List (Option Key)) → slice_get ks (place_of k ks) ≡ Some k → place_of k (ks ++ ms) ≡ place_of k ks
place_first k [] ms e = cc
place_first k (l ∷ ls) ms e = at (same k l) e (place_first k ls ms)
  where
    at : (b : Bool) → slice_get (l ∷ ls) (cond b 0 (suc (place_of k ls))) ≡ Some k
        → (slice_get ls (place_of k ls) ≡ Some k → place_of k (ls ++ ms) ≡ place_of k ls)
        → cond b 0 (suc (place_of k (ls ++ ms))) ≡ cond b 0 (suc (place_of k ls))
    at true e rest = refl
    at false e rest = ap suc (rest e)

-- any other key has its place in the second list
pub place_second : (k : Option Key) (ks ms : List (Option Key)) → StandsNowhere k ks → place_of k (ks ++ ms) ≡ length ks + place_of k ms
place_second k [] ms none = omega arith
place_second k (l ∷ ls) ms none = at (same k l) refl (place_second k ls ms (λ i e. none (suc i) e))
  where
    at : (b : Bool) → same k l ≡ b → place_of k (ls ++ ms) ≡ length ls + place_of k ms → cond b 0 (suc (place_of k (ls ++ ms)))
        ≡ suc (length ls) + place_of k ms
    at true is rest = absurd (none 0 (ap Some (sym (options_exact key_cmp equal_keys k l is))))
    at false is rest = omega (arith, rest)

pub first_at : (ks ms : List (Option Key)) (i : ℕ) (k : Option Key) → slice_get ks i ≡ Some k → slice_get (ks ++ ms) i ≡ Some k
first_at [] ms i k e = cc
first_at (l ∷ ls) ms zero k e = e
first_at (l ∷ ls) ms (suc i) k e = first_at ls ms i k e

pub stands_first : (k : Option Key) (ks ms : List (Option Key)) → Stands k ks → Stands k (ks ++ ms)
stands_first k ks ms (i, e) = (i, first_at ks ms i k e)

pub stands_second : (k : Option Key) (ks ms : List (Option Key)) → Stands k ms → Stands k (ks ++ ms)
stands_second k [] ms its = its
stands_second k (l ∷ ls) ms its = let rest = stands_second k ls ms its in (suc rest.0, rest.1)

-- keys in a list with one place are one key
pub one_place : (k l : Option Key) (ks : List (Option Key)) → Stands k ks → Stands l ks → place_of k ks ≡ place_of l ks → k ≡ l
one_place k l ks mine its e = same_Some _ _ (sym (place_stands k ks mine.0 mine.1) ∙ (ap (slice_get ks) e ∙ place_stands l ks its.0 its.1))

-- ---- in a list that strictly rises

pub not_itself : (k : Option Key) → by_key k k ≡ Less → ⊥
not_itself k h = let clash : Equal ≡ Less = sym (tied_itself by_key_total k) ∙ h in cc

-- a key is at its place only
pub place_there : (ks : List (Option Key)) (i : ℕ) (k : Option Key) → IsStrictlySortedBy by_key ks → slice_get ks i ≡ Some k → place_of k ks ≡ i
place_there ks i k rises e = at (cases_order (place_of k ks) i)
  where
    stands : slice_get ks (place_of k ks) ≡ Some k
    stands = place_stands k ks i e

    at : (place_of k ks ≡ i) ⊎ ((place_of k ks < i) ⊎ (i < place_of k ks)) → place_of k ks ≡ i
    at (inl same) = same
    at (inr (inl low)) = absurd (not_itself k (sorted_at by_key ks (place_of k ks) i k k rises low stands e))
    at (inr (inr high)) = absurd (not_itself k (sorted_at by_key ks i (place_of k ks) k k rises high e stands))

-- ---- two rising lists of keys are merged: how far the merge has come, and its steps

abbrev rank : List (Option Key) → List (Option Key) → Option Key → ℕ
rank ones others k = place_of k (ones ++ others)

-- the keys that are passed are below those that are left, and each of the second list that is done has its number
pub record IsMergedTo (ones others : List (Option Key)) (passed : ℕ) (ranks : List ℕ) : Type 0 where
  pub inside : passed ≤ length ones
  pub few : length ranks ≤ length others
  pub below : (i j : ℕ) (k l : Option Key) → i < passed → length ranks ≤ j → slice_get ones i ≡ Some k → slice_get others j ≡ Some l → by_key k l ≡ Less
  pub done : ranks ≡ map (rank ones others) (take (length ranks) others)

module _ (ones others : List (Option Key)) (up : IsStrictlySortedBy by_key ones) (more : IsStrictlySortedBy by_key others) (passed : ℕ) (ranks : List ℕ)
    (m : IsMergedTo ones others passed ranks)
    (key : Option Key) (here : slice_get others (length ranks) ≡ Some key) where
  low : length ranks < length others
  low = slice_get_within others (length ranks) key here

  -- a key of the first list is passed
  pub one_passed : (k : Option Key) → slice_get ones passed ≡ Some k → by_key k key ≡ Less → IsMergedTo ones others (passed + 1) ranks
  one_passed k there less = record {
    inside = let l = slice_get_within ones passed k there in omega (arith, l);
    few = m.few;
    below = λ i j x y under over e g. at i j x y over e g (cases_order i passed) under;
    done = m.done;
  }
    where
      up_to : (j : ℕ) (y : Option Key) → length ranks ≤ j → slice_get others j ≡ Some y → by_key k y ≡ Less
      up_to j y over g = of (cases_order (length ranks) j)
        where
          of : (length ranks ≡ j) ⊎ ((length ranks < j) ⊎ (j < length ranks)) → by_key k y ≡ Less
          of (inl same) = let its : key ≡ y = same_Some _ _ (sym here ∙ (ap (slice_get others) same ∙ g)) in subst (λ z. by_key k z ≡ Less) its less
          of (inr (inl l)) = by_key_total.trans k key y less (sorted_at by_key others (length ranks) j key y more l here g)
          of (inr (inr h)) = absurd (omega (arith, over, h))

      at : (i j : ℕ) (x y : Option Key) → length ranks ≤ j → slice_get ones i ≡ Some x → slice_get others j ≡ Some y → (i ≡ passed)
          ⊎ ((i < passed) ⊎ (passed < i)) → i < passed + 1 → by_key x y ≡ Less
      at i j x y over e g (inl same) under = let its : k ≡ x = same_Some _ _ (sym there ∙ (ap (slice_get ones) (sym same) ∙ e)) in
          subst (λ z. by_key z y ≡ Less) its (up_to j y over g)
      at i j x y over e g (inr (inl l)) under = m.below i j x y l over e g
      at i j x y over e g (inr (inr h)) under = absurd (omega (arith, h, under))

  one_done : (r : ℕ) → r ≡ rank ones others key → IsMergedTo ones others passed (ranks ++ r ∷ [])
  one_done r is =
      let long : length (ranks ++ r ∷ []) ≡ length ranks + 1 = length_push ranks r in record {
        inside = m.inside;
        few = omega (arith, long, low);
        below = λ i j k l under over e g. m.below i j k l under (omega (arith, long, over)) e g;
        done =
            ap (λ ns. ns ++ r ∷ []) m.done
            ∙ (ap (λ v. map (rank ones others) (take (length ranks) others) ++ v ∷ []) is
            ∙ (sym (map-append (rank ones others) (take (length ranks) others) (key ∷ []))
            ∙ ap (map (rank ones others))
            (sym (take_more others (length ranks) key low ∙ ap (λ x. take (length ranks) others ++ x ∷ [])
            (get_or_from_slice_get others (length ranks) key key here))
            ∙ ap (λ c. take c others) (sym long))));
      }

  -- a key of both lists
  pub both_done : slice_get ones passed ≡ Some key → IsMergedTo ones others passed (ranks ++ passed ∷ [])
  both_done there =
      let place : place_of key ones ≡ passed = place_there ones passed key up there in
      one_done passed (sym (place_first key ones others (ap (slice_get ones) place ∙ there) ∙ place))

  -- a key of the second list alone
  pub other_done : ((k : Option Key) → slice_get ones passed ≡ Some k → by_key k key ≡ Greater)
      → IsMergedTo ones others passed (ranks ++ (length ones + length ranks) ∷ [])
  other_done greater =
      one_done (length ones + length ranks)
      (ap (λ j. length ones + j) (sym (place_there others (length ranks) key more here)) ∙ sym (place_second key ones others nowhere))
    where
      nowhere : StandsNowhere key ones
      nowhere i e = at (cases_order i passed)
        where
          above : (k : Option Key) → slice_get ones passed ≡ Some k → by_key key k ≡ Less
          above k there = greater_turned by_key_total k key (greater k there)

          at : (i ≡ passed) ⊎ ((i < passed) ⊎ (passed < i)) → ⊥
          at (inl same) = not_itself key (above key (ap (slice_get ones) (sym same) ∙ e))
          at (inr (inl l)) = not_itself key (m.below i (length ranks) key key l (omega arith) e here)
          at (inr (inr h)) = high (slice_get ones passed) refl
            where
              high : (o : Option (Option Key)) → slice_get ones passed ≡ o → ⊥
              high None is = let there = sym is ∙ slice_get-get_or ones passed key (omega (arith, h, slice_get_within ones i key e)) in absurd (cc there)
              high (Some k) is = not_itself key (by_key_total.trans key k key (above k is) (sorted_at by_key ones passed i k key up h is e))

-- all are done
pub all_merged : (ones others : List (Option Key)) (passed : ℕ) (ranks : List ℕ) → IsMergedTo ones others passed ranks → length others ≤ length ranks
    → ranks ≡ map (rank ones others) others
all_merged ones others passed ranks m all = m.done ∙ ap (map (rank ones others)) (take_all (length ranks) others all)

-- ---- how the next keys compare

pub next_there : (o : Option (Option Key)) (key : Option Key) (x : Ordering) → next_cmp o (Some key) ≡ x → (x ≡ Greater → ⊥) → (k : Option Key)
    × (o ≡ Some k) × (by_key k key ≡ x)
next_there None key x is other = absurd (other (sym is))
next_there (Some k) key x is other = (k, refl, is)

pub next_above : (o : Option (Option Key)) (key : Option Key) → next_cmp o (Some key) ≡ Greater → (k : Option Key) → o ≡ Some k → by_key k key ≡ Greater
next_above o key is k there = sym (ap (λ x. next_cmp x (Some key)) there) ∙ is

pub equal_key : (k l : Option Key) → by_key k l ≡ Equal → k ≡ l
equal_key k l e = options_exact key_cmp equal_keys k l (ap is_eq e)

-- ---- the common ranks of the keys of two reports: equal ranks for equal keys

module _ (a b : Judged) (r : Role) where
  abbrev keys_left : List (Option Key)
  keys_left = rising_in_role a.prefer (view a.tree) r

  abbrev keys_right : List (Option Key)
  keys_right = rising_in_role b.prefer (view b.tree) r

  abbrev pub both_keys : List (Option Key)
  both_keys = keys_left ++ keys_right

  -- ---- ranks

  -- the common rank of a key of the left report is its rank
  left_rank : IsComparable a.prefer (view a.tree) → is_ranked r ≡ true → (i : ℕ) (k : Option Key) → HasKeyAt a.prefer (view a.tree) r i k → common_rank a b r k
      ≡ rank_in_keys (keys_in_role a.prefer (view a.tree) r) k
  left_rank c ranked i k h =
      let n = rank_in_keys (keys_in_role a.prefer (view a.tree) r) k in
      let stands : slice_get keys_left n ≡ Some k = at_rank a.prefer (view a.tree) r c ranked i k h in
      let place : place_of k keys_left ≡ n = place_there keys_left n k (keys_rise a.prefer (view a.tree) r c ranked) stands in
      place_first k keys_left keys_right (ap (slice_get keys_left) place ∙ stands) ∙ place

  -- that of a key of the right report is listed at its rank
  right_rank : IsComparable b.prefer (view b.tree) → is_ranked r ≡ true → (ranks : List ℕ) → AreCommonRanks a b r ranks → (i : ℕ) (k : Option Key)
      → HasKeyAt b.prefer (view b.tree) r i k
      → slice_get ranks (rank_in_keys (keys_in_role b.prefer (view b.tree) r) k) ≡ Some (common_rank a b r k)
  right_rank d ranked ranks are i k h =
      let n = rank_in_keys (keys_in_role b.prefer (view b.tree) r) k in
      ap (λ ns. slice_get ns n) are
      ∙ (slice_get-map (common_rank a b r) keys_right n ∙ ap (option_map (common_rank a b r)) (at_rank b.prefer (view b.tree) r d ranked i k h))

  -- ---- keys and ranks

  -- the key, if there is one, is that of an object of either report
  abbrev pub IsKnown : Option Key → Type 0
  IsKnown o = (k : Key) → o ≡ Some k → Stands (Some k) both_keys

  pub one_rank : (k l : Key) → Stands (Some k) both_keys → Stands (Some l) both_keys → rank_of_key a b r k ≡ rank_of_key a b r l → k ≡ l
  one_rank k l mine its e = let same : Some k ≡ Some l = one_place (Some k) (Some l) both_keys mine its e in cc

  -- equal ranks are those of equal keys
  pub ranks_decide : (o q : Option Key) → IsKnown o → IsKnown q
      → Decides (option_eq ◌==◌ (option_map (rank_of_key a b r) o) (option_map (rank_of_key a b r) q)) o q
  ranks_decide o q mine its = options_decide (rank_of_key a b r) o q (λ k l e g. one_rank k l (mine k e) (its l g))

-- ---- on a side

module _ (a b : Judged) where
  abbrev pub prefer_on : ComparedReport → Preference
  prefer_on side = (on_side side a b).prefer

  abbrev pub tree_on : ComparedReport → Data
  tree_on side = view (on_side side a b).tree

  pub known_on : (side : ComparedReport) (r : Role) (i : ℕ) (k : Option Key) → HasKeyAt (prefer_on side) (tree_on side) r i k → Stands k (both_keys a b r)
  known_on Left r i k h = stands_first k (keys_left a b r) (keys_right a b r) (position_of (keys_left a b r) k (all_rise a.prefer (view a.tree) r i k h))
  known_on Right r i k h = stands_second k (keys_left a b r) (keys_right a b r) (position_of (keys_right a b r) k (all_rise b.prefer (view b.tree) r i k h))

  -- the common rank of a key by its rank
  module _ (common : CommonRanks) (are : AreAllCommonRanks a b common) (c : IsComparable a.prefer (view a.tree)) (d : IsComparable b.prefer (view b.tree)) where
    pub common_by_rank : AreCommonByRank a b common
    common_by_rank Left r ranked i k h = ap Some (sym (left_rank a b r c ranked i k h))
    common_by_rank Right r ranked i k h = right_rank a b r d ranked (common_ranks_in r common) (are r ranked) i k h

-- ---- the common ranks of the keys that references name, and of the keys of the elections that hold objects

-- ---- keys by role

-- a key that is found at a position is that of the object there
pub stands_there : (π : Preference) (t : Data) (r : Role) (i : ℕ) (k : Key) → key_in_role π r t i ≡ Some k → HasKeyAt π t r i (Some k)
stands_there π t (role.OfFamily f) i k e =
    option_and_then_some (λ (o : Placed). key_with_role π (role.OfFamily f) o.value) (slice_get (objects f t) i) k e
    (λ o stands key. record { object = o; stands = stands; key = key })
stands_there π t role.Election i k e = option_and_then_some (λ (o : Placed). key_of π o.value) (slice_get (elections t) i) k e
    (λ o stands key. record { object = o; stands = stands; key = key })
stands_there π t r i k e = absurd (cc e)

-- the key of the election that holds an object, by the position of the election
pub holder_from : (π : Preference) (r : Role) (t : Data) (i : ℕ) → holder_key_in π r t i ≡ option_and_then (election_key_in π t) (holder_in r t i)
holder_from π (role.OfFamily f) t i = refl
holder_from π r t i = refl

-- the common rank of the key at a position, by its rank
pub rank_found : (a b : Judged) (common : CommonRanks) → AreCommonByRank a b common → (side : ComparedReport) (r : Role) → is_ranked r ≡ true
    → (i rank : ℕ) (o : Option Key) → key_in_role (on_side side a b).prefer r (view (on_side side a b).tree) i ≡ o
    → Some rank ≡ option_map (λ k. rank_in_keys (keys_in_role (on_side side a b).prefer (view (on_side side a b).tree) r) (Some k)) o
    → common_rank_of common side r rank ≡ option_map (rank_of_key a b r) o
rank_found a b common are side r ranked i rank None at is = cc
rank_found a b common are side r ranked i rank (Some k) at is =
    let same : rank ≡ rank_in_keys (keys_in_role (on_side side a b).prefer (view (on_side side a b).tree) r) (Some k) = cc in
    ap (common_rank_of common side r) same ∙ are side r ranked i (Some k) (stands_there (on_side side a b).prefer (view (on_side side a b).tree) r i k at)

-- ---- which keys have common ranks

pub kept : (π : Preference) (f : Family) (d : Data) → has_keys f ≡ true → key_with_role π (role.OfFamily f) d ≡ key_of π d
kept π f d keyed = rw keyed refl

-- the object of a key that a reference names stands in its family
named_stands : (π : Preference) (t : Data) (f : Family) (id : List ℕ) (k : Key) → has_keys f ≡ true → key_named π t f id ≡ Some k → (i : ℕ)
    × HasKeyAt π t (role.OfFamily f) i (Some k)
named_stands π t f id k keyed e =
    option_and_then_some (key_of π) (owner t f id) k e (λ d is key.
    let o = option_map-Some (λ (x : Placed). x.value) (owner_at t f id) d is in
    let place = position_of (objects f t) o.0 (find-Some (λ (x : Placed). has_id id x.value) (objects f t) o.0 o.1).0 in
    (place.0, record { object = o.0; stands = place.1; key = kept π f o.0.value keyed ∙ (ap (key_of π) o.2 ∙ key) }))

module _ (a b : Judged) (side : ComparedReport) where
  -- a key that a value names is known
  pub value_known : (f : Family) (text : Option (List ℕ)) → has_keys f ≡ true
      → IsKnown a b (role.OfFamily f) (option_and_then (key_named (on_side side a b).prefer (view (on_side side a b).tree) f) text)
  value_known f None keyed k e = cc
  value_known f (Some id) keyed k e =
      let stands = named_stands (on_side side a b).prefer (view (on_side side a b).tree) f id k keyed e in
      known_on a b side (role.OfFamily f) stands.0 (Some k) stands.1

  -- and the key of an election that holds an object
  pub holder_known : (r : Role) (i : ℕ) → IsKnown a b role.Election (holder_key_in (on_side side a b).prefer r (view (on_side side a b).tree) i)
  holder_known r i k e =
      option_and_then_some (election_key_in (on_side side a b).prefer (view (on_side side a b).tree)) (holder_in r (view (on_side side a b).tree) i) k
      (sym (holder_from (on_side side a b).prefer r (view (on_side side a b).tree) i) ∙ e)
      (λ held is key. known_on a b side role.Election held (Some k)
      (stands_there (on_side side a b).prefer (view (on_side side a b).tree) role.Election held k key))

-- ---- comparing them

-- a value names the common rank of the key that it names
pub value_named : (a b : Judged) (side : ComparedReport) (f : Family) (text : Option (List ℕ))
    → option_and_then (rank_with_id a b side f) text ≡ option_map (rank_of_key a b (role.OfFamily f))
    (option_and_then (key_named (on_side side a b).prefer (view (on_side side a b).tree) f) text)
value_named a b side f None = refl
value_named a b side f (Some id) = refl

-- the common ranks of what two references name tell whether it has one key
pub values_decide : (a b : Judged) (f : Family) → has_keys f ≡ true → (one other : Option (List ℕ)) (m n : Option ℕ) (answer : Bool)
    → m ≡ option_and_then (rank_with_id a b Left f) one → n ≡ option_and_then (rank_with_id a b Right f) other
    → answer ≡ option_eq ◌==◌ m n → Decides answer (option_and_then (key_named a.prefer (view a.tree) f) one)
    (option_and_then (key_named b.prefer (view b.tree) f) other)
values_decide a b f keyed one other m n answer mine its is =
    decides_as (is ∙ ap₂ (option_eq ◌==◌) (mine ∙ value_named a b Left f one) (its ∙ value_named a b Right f other)) refl refl
    (ranks_decide a b (role.OfFamily f) (option_and_then (key_named a.prefer (view a.tree) f) one) (option_and_then (key_named b.prefer (view b.tree) f) other)
    (value_known a b Left f one keyed) (value_known a b Right f other keyed))

-- so do those of the elections that hold two objects
pub holders_decide : (a b : Judged) (r : Role) (i j : ℕ) (m n : Option ℕ) (answer : Bool) → m ≡ option_map (rank_of_key a b role.Election)
    (holder_key_in a.prefer r (view a.tree) i)
    → n ≡ option_map (rank_of_key a b role.Election) (holder_key_in b.prefer r (view b.tree) j) → answer ≡ option_eq ◌==◌ m n
    → Decides answer (holder_key_in a.prefer r (view a.tree) i) (holder_key_in b.prefer r (view b.tree) j)
holders_decide a b r i j m n answer mine its is =
    decides_as (is ∙ ap₂ (option_eq ◌==◌) mine its) refl refl
    (ranks_decide a b role.Election (holder_key_in a.prefer r (view a.tree) i) (holder_key_in b.prefer r (view b.tree) j) (holder_known a b Left r i)
    (holder_known a b Right r j))
