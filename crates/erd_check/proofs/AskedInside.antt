-- All that is asked in a tree, with its places, as a list: the places rise, and what holds of the list holds at each place.
use Rattle.erd_check.proofs.Common.{◌≡◌, ℕ, zero, suc, ◌+◌, Bool, true, false, ◌&&◌, List, [], ◌∷◌, ◌++◌, length, take, Some, None, Option, option_map}
use Rattle.erd_check.proofs.Common.{option_and_then, nat_cmp, Ordering, Equal, sym, refl, ap, subst, inl, inr, append_assoc, append-nil, add-zero, zero-add}
use Rattle.erd_check.proofs.Common.{slice_cmp, list_all, list_any, option_map_or, match_ordering, Data, array, object, Items, no_items, item, Members}
use Rattle.erd_check.proofs.Common.{no_members, member, get_member, get_item, Report, Step, At, Name, is_same_json, list_of_items, scope_inside, want_of_name}
use Rattle.erd_check.proofs.Common.{entry_want, is_compared_set, Asked, asked_of_member, asked_of_entry, asked_from, asked_at, asked_with, Scope, Want, Object}
use Rattle.erd_check.proofs.Common.{◌<◌, IfSome, Less, Greater, ◌∙◌, arith, nat_list_cmp_total, AllByRecursion, IsStrictlySortedBy, ordering_reverse}
use Rattle.erd_check.proofs.Common.{steps_less, start_less, names, IsInOrder, AreItemsInOrder, AreMembersInOrder, tied_itself}
use Rattle.erd_check.proofs.Steps.{text_from_equal, next_index, found_all, at_less}
use Rattle.erd_check.proofs.Order.{In, In-append_left, In-append_right, In-append, all_from_In, each_holds, sorted_append}
use Rattle.erd_tables.specs.Places.{place_cmp}

-- a place and what is asked there
abbrev pub AskedPlace : Type 0
AskedPlace = List Step × Asked

-- what is asked of a value at this place, and of all that stands inside it
abbrev mutual
  pub all_asked_from : List Step → Want → Bool → Data → List AskedPlace
  all_asked_from p w repeated (array ds) =
      (p, asked_with w repeated (array ds)) ∷ option_map_or (λ v. all_asked_items p v (is_compared_set w) [] ds) (entry_want w) []
  all_asked_from p w repeated (object ms) =
      (p, asked_with w repeated (object ms)) ∷ all_asked_members p (scope_inside w (object ms)) ms
  all_asked_from p w repeated d = (p, asked_with w repeated d) ∷ []

  pub all_asked_items : List Step → Want → Bool → List Data → Items → List AskedPlace
  all_asked_items p w is_set earlier no_items = []
  all_asked_items p w is_set earlier (item d ds) =
      all_asked_from (p ++ At (length earlier) ∷ []) w (is_set && list_any (is_same_json d) earlier) d ++ all_asked_items p w is_set (earlier ++ d ∷ []) ds

  pub all_asked_members : List Step → Scope → Members → List AskedPlace
  all_asked_members p s no_members = []
  all_asked_members p s (member k d ms) =
      option_map_or (λ v. all_asked_from (p ++ Name k ∷ []) v false d) (want_of_name s k) [] ++ all_asked_members p s ms

-- all that is asked in a report
abbrev pub all_asked : Data → List AskedPlace
all_asked t = all_asked_from [] (Object Report) false t

-- ---- nothing is left out

abbrev Listed : List Step → List Step → Asked → List AskedPlace → Type 0
Listed p q b xs = In {A = AskedPlace} (p ++ q, b) xs

first : (p : List Step) (a b : Asked) (xs : List AskedPlace) → Some a ≡ Some b → Listed p [] b ((p, a) ∷ xs)
first p a b xs h =
    let e : a ≡ b = cc in
    inl (subst (λ (q : List Step). let x : AskedPlace = (p, a) in let y : AskedPlace = (q, b) in x ≡ y) (sym (append-nil p))
    (ap {A = Asked} {B = AskedPlace} (λ c. (p, c)) e))

listed_itself : (p : List Step) (w : Want) (repeated : Bool) (d : Data) (b : Asked) → Some (asked_with w repeated d) ≡ Some b
    → Listed p [] b (all_asked_from p w repeated d)
listed_itself p w repeated (array ds) b h =
    first p (asked_with w repeated (array ds)) b (option_map_or (λ v. all_asked_items p v (is_compared_set w) [] ds) (entry_want w) []) h
listed_itself p w repeated (object ms) b h =
    first p (asked_with w repeated (object ms)) b (all_asked_members p (scope_inside w (object ms)) ms) h
listed_itself p w repeated e b h = first p (asked_with w repeated e) b [] h

regroup : (p : List Step) (s : Step) (q : List Step) (b : Asked) (xs : List AskedPlace) → Listed (p ++ s ∷ []) q b xs → Listed p (s ∷ q) b xs
regroup p s q b xs h = subst (λ x. In {A = AskedPlace} (x, b) xs) (append_assoc p (s ∷ []) q) h

abbrev item_asked : Want → Bool → List Data → Items → ℕ → List Step → Option Asked
item_asked w is_set earlier ds i q =
    option_and_then (λ b. asked_from b q)
    (option_map (λ d. asked_with w (is_set && list_any (is_same_json d) (earlier ++ take i (list_of_items ds))) d) (get_item i ds))

abbrev member_asked : Scope → Members → List ℕ → List Step → Option Asked
member_asked s ms n q = option_and_then (λ b. asked_from b q) (asked_of_member (want_of_name s n) (get_member n ms))

listed_entry : (p : List Step) (w : Want) (ds : Items) (i : ℕ) (q : List Step) (b : Asked) (o : Option Want)
    → ((v : Want) → item_asked v (is_compared_set w) [] ds i q ≡ Some b → Listed p (At (length {A = Data} [] + i) ∷ q) b
    (all_asked_items p v (is_compared_set w) [] ds)) → option_and_then (λ b. asked_from b q) (asked_of_entry o (is_compared_set w) ds i) ≡ Some b
    → Listed p (At i ∷ q) b (option_map_or (λ v. all_asked_items p v (is_compared_set w) [] ds) o [])
listed_entry p w ds i q b None from h = cc
listed_entry p w ds i q b (Some v) from h = subst (λ n. Listed p (At n ∷ q) b (all_asked_items p v (is_compared_set w) [] ds)) (zero-add i) (from v h)

listed_here : (p : List Step) (k : List ℕ) (d : Data) (q : List Step) (b : Asked) (o : Option Want)
    → ((v : Want) → asked_from (asked_with v false d) q ≡ Some b → Listed (p ++ Name k ∷ []) q b (all_asked_from (p ++ Name k ∷ []) v false d))
    → option_and_then (λ b. asked_from b q) (asked_of_member o (Some d)) ≡ Some b
    → Listed p (Name k ∷ q) b (option_map_or (λ v. all_asked_from (p ++ Name k ∷ []) v false d) o [])
listed_here p k d q b None from h = cc
listed_here p k d q b (Some v) from h = regroup p (Name k) q b (all_asked_from (p ++ Name k ∷ []) v false d) (from v h)

listed_member : (p : List Step) (s : Scope) (k : List ℕ) (d : Data) (ms : Members) (n : List ℕ) (q : List Step) (b : Asked) (o : Ordering)
    → slice_cmp nat_cmp n k ≡ o
    → ((v : Want) → asked_from (asked_with v false d) q ≡ Some b → Listed (p ++ Name k ∷ []) q b (all_asked_from (p ++ Name k ∷ []) v false d))
    → (member_asked s ms n q ≡ Some b → Listed p (Name n ∷ q) b (all_asked_members p s ms))
    → option_and_then (λ b. asked_from b q) (asked_of_member (want_of_name s n) (match_ordering o (get_member n ms) (Some d) (get_member n ms))) ≡ Some b
    → Listed p (Name n ∷ q) b (all_asked_members p s (member k d ms))
listed_member p s k d ms n q b Equal e here more h =
    let same : n ≡ k = text_from_equal n k e in
    let h' : option_and_then (λ b. asked_from b q) (asked_of_member (want_of_name s k) (Some d)) ≡ Some b =
    subst (λ m. option_and_then (λ b. asked_from b q) (asked_of_member (want_of_name s m) (Some d)) ≡ Some b) same h in
    In-append_left {A = AskedPlace} (p ++ Name n ∷ q, b) (option_map_or (λ v. all_asked_from (p ++ Name k ∷ []) v false d) (want_of_name s k) [])
    (all_asked_members p s ms)
    (subst (λ m. Listed p (Name m ∷ q) b (option_map_or (λ v. all_asked_from (p ++ Name k ∷ []) v false d) (want_of_name s k) [])) (sym same)
    (listed_here p k d q b (want_of_name s k) here h'))
listed_member p s k d ms n q b x e here more h = In-append_right {A = AskedPlace} (p ++ Name n ∷ q, b)
    (option_map_or (λ v. all_asked_from (p ++ Name k ∷ []) v false d) (want_of_name s k) []) (all_asked_members p s ms) (more h)

none_there : (q : List Step) (b : Asked) (o : Option Want) → option_and_then (λ b. asked_from b q) (asked_of_member o None) ≡ Some b → ⊥
none_there q b None h = cc
none_there q b (Some v) h = cc

mutual
  listed_from : (p : List Step) (w : Want) (repeated : Bool) (d : Data) (q : List Step) (b : Asked) → asked_from (asked_with w repeated d) q ≡ Some b
      → Listed p q b (all_asked_from p w repeated d)
  listed_from p w repeated d [] b h = listed_itself p w repeated d b h
  listed_from p w repeated (array ds) (At i ∷ q) b h =
      inr (listed_entry p w ds i q b (entry_want w) (λ v e. listed_items p v (is_compared_set w) [] ds i q b e) h)
  listed_from p w repeated (object ms) (Name n ∷ q) b h =
      inr (listed_members p (scope_inside w (object ms)) ms n q b h)
  listed_from p w repeated d (s ∷ q) b h = cc

  listed_items : (p : List Step) (w : Want) (is_set : Bool) (earlier : List Data) (ds : Items) (i : ℕ) (q : List Step) (b : Asked)
      → item_asked w is_set earlier ds i q ≡ Some b → Listed p (At (length earlier + i) ∷ q) b (all_asked_items p w is_set earlier ds)
  listed_items p w is_set earlier no_items i q b h = cc
  listed_items p w is_set earlier (item d ds) zero q b h =
      let h' : asked_from (asked_with w (is_set && list_any (is_same_json d) earlier) d) q ≡ Some b =
      subst (λ es. asked_from (asked_with w (is_set && list_any (is_same_json d) es) d) q ≡ Some b) (append-nil earlier) h in
      let here = all_asked_from (p ++ At (length earlier) ∷ []) w (is_set && list_any (is_same_json d) earlier) d in
      In-append_left {A = AskedPlace} (p ++ At (length earlier + 0) ∷ q, b) here (all_asked_items p w is_set (earlier ++ d ∷ []) ds)
      (subst (λ n. Listed p (At n ∷ q) b here) (sym (add-zero (length earlier)))
      (regroup p (At (length earlier)) q b here (listed_from (p ++ At (length earlier) ∷ []) w (is_set && list_any (is_same_json d) earlier) d q b h')))
  listed_items p w is_set earlier (item d ds) (suc i) q b h =
      let h' : item_asked w is_set (earlier ++ d ∷ []) ds i q ≡ Some b =
      subst (λ es. option_and_then (λ b. asked_from b q) (option_map (λ e. asked_with w (is_set && list_any (is_same_json e) es) e) (get_item i ds)) ≡ Some b)
      (sym (append_assoc earlier (d ∷ []) (take i (list_of_items ds)))) h in
      In-append_right {A = AskedPlace} (p ++ At (length earlier + suc i) ∷ q, b)
      (all_asked_from (p ++ At (length earlier) ∷ []) w (is_set && list_any (is_same_json d) earlier) d) (all_asked_items p w is_set (earlier ++ d ∷ []) ds)
      (subst (λ n. Listed p (At n ∷ q) b (all_asked_items p w is_set (earlier ++ d ∷ []) ds)) (next_index earlier d i)
      (listed_items p w is_set (earlier ++ d ∷ []) ds i q b h'))

  listed_members : (p : List Step) (s : Scope) (ms : Members) (n : List ℕ) (q : List Step) (b : Asked) → member_asked s ms n q ≡ Some b
      → Listed p (Name n ∷ q) b (all_asked_members p s ms)
  listed_members p s no_members n q b h = absurd (none_there q b (want_of_name s n) h)
  listed_members p s (member k d ms) n q b h =
      listed_member p s k d ms n q b (slice_cmp nat_cmp n k) refl (λ v e. listed_from (p ++ Name k ∷ []) v false d q b e) (λ e. listed_members p s ms n q b e) h

pub all_asked_complete : (t : Data) (p : List Step) (a : Asked) → asked_at t p ≡ Some a → In {A = AskedPlace} (p, a) (all_asked t)
all_asked_complete t p a h = listed_from [] (Object Report) false t p a h

-- ---- tests

-- what holds of all that is listed holds at each place
pub tested_at : (test : AskedPlace → Bool) (t : Data) → list_all test (all_asked t) ≡ true → (p : List Step) (a : Asked) → asked_at t p
    ≡ Some a → test (p, a) ≡ true
tested_at test t h p a there = each_holds test (all_asked t) (p, a) h (all_asked_complete t p a there)

-- ---- all that is asked in a tree, as a list: each of the list is asked at its place, and the places rise

-- the one place stands before the other
abbrev pub by_place : AskedPlace → AskedPlace → Ordering
by_place x y = place_cmp x.0 y.0

by_place_less : (x y : AskedPlace) (a b : List Step) → x.0 ≡ a → y.0 ≡ b → place_cmp a b ≡ Less → by_place x y ≡ Less
by_place_less x y a b p q e = rw (p, q, e)

-- ---- what is asked at a place of the list

record AtOrBelow (p : List Step) (a : Asked) (x : AskedPlace) : Type 0 where
  rest : List Step
  place : x.0 ≡ p ++ rest
  there : asked_from a rest ≡ Some x.1

record OfItems (p : List Step) (w : Want) (is_set : Bool) (earlier : List Data) (ds : Items) (x : AskedPlace) : Type 0 where
  index : ℕ
  value : Data
  found : get_item index ds ≡ Some value
  rest : List Step
  place : x.0 ≡ p ++ At (length earlier + index) ∷ rest
  there : asked_from (asked_with w (is_set && list_any (is_same_json value) (earlier ++ take index (list_of_items ds))) value) rest ≡ Some x.1

record OfMembers (p : List Step) (s : Scope) (ms : Members) (x : AskedPlace) : Type 0 where
  name : List ℕ
  want : Want
  value : Data
  wanted : want_of_name s name ≡ Some want
  found : get_member name ms ≡ Some value
  rest : List Step
  place : x.0 ≡ p ++ Name name ∷ rest
  there : asked_from (asked_with want false value) rest ≡ Some x.1

-- ---- each of the list is asked at its place

itself : (p : List Step) (a : Asked) (x : AskedPlace) → (let y : AskedPlace = (p, a) in y ≡ x) → AtOrBelow p a x
itself p a x e = record {
  rest = [];
  place = sym (ap (λ (y : AskedPlace). y.0) e) ∙ sym (append-nil p);
  there = ap (λ (y : AskedPlace). Some y.1) e;
}

alone : (p : List Step) (a : Asked) (x : AskedPlace) → In {A = AskedPlace} x ((p, a) ∷ []) → AtOrBelow p a x
alone p a x (inl e) = itself p a x e
alone p a x (inr h) = absurd h

first_item : (p : List Step) (w : Want) (is_set : Bool) (earlier : List Data) (d : Data) (ds : Items) (x : AskedPlace)
    → AtOrBelow (p ++ At (length earlier) ∷ []) (asked_with w (is_set && list_any (is_same_json d) earlier) d) x → OfItems p w is_set earlier (item d ds) x
first_item p w is_set earlier d ds x b = record {
  index = 0;
  value = d;
  found = refl;
  rest = b.rest;
  place = b.place ∙ append_assoc p (At (length earlier) ∷ []) b.rest ∙ ap (λ n. p ++ At n ∷ b.rest) (sym (add-zero (length earlier)));
  there = subst (λ es. asked_from (asked_with w (is_set && list_any (is_same_json d) es) d) b.rest ≡ Some x.1) (sym (append-nil earlier)) b.there;
}

later_item : (p : List Step) (w : Want) (is_set : Bool) (earlier : List Data) (d : Data) (ds : Items) (x : AskedPlace)
    → OfItems p w is_set (earlier ++ d ∷ []) ds x → OfItems p w is_set earlier (item d ds) x
later_item p w is_set earlier d ds x b = record {
  index = suc b.index;
  value = b.value;
  found = b.found;
  rest = b.rest;
  place = b.place ∙ ap (λ n. p ++ At n ∷ b.rest) (next_index earlier d b.index);
  there = subst (λ es. asked_from (asked_with w (is_set && list_any (is_same_json b.value) es) b.value) b.rest ≡ Some x.1)
      (append_assoc earlier (d ∷ []) (take b.index (list_of_items ds))) b.there;
}

items_at : (p : List Step) (w : Want) (repeated : Bool) (ds : Items) (x : AskedPlace) (o : Option Want) → entry_want w ≡ o
    → ((v : Want) → AreItemsInOrder v ds → In x (all_asked_items p v (is_compared_set w) [] ds) → OfItems p v (is_compared_set w) [] ds x)
    → IfSome o (λ v. AreItemsInOrder v ds) → In x (option_map_or (λ v. all_asked_items p v (is_compared_set w) [] ds) o [])
    → AtOrBelow p (asked_with w repeated (array ds)) x
items_at p w repeated ds x None e from order h = absurd h
items_at p w repeated ds x (Some v) e from order h =
    let b = from v order h in
    record {
      rest = At b.index ∷ b.rest;
      place = b.place ∙ ap (λ n. p ++ At n ∷ b.rest) (zero-add b.index);
      there = rw (e, b.found) b.there;
    }

first_member : (p : List Step) (s : Scope) (k : List ℕ) (d : Data) (ms : Members) (x : AskedPlace) (o : Option Want) → want_of_name s k ≡ o
    → ((v : Want) → IsInOrder v d → In x (all_asked_from (p ++ Name k ∷ []) v false d) → AtOrBelow (p ++ Name k ∷ []) (asked_with v false d) x)
    → IfSome o (λ v. IsInOrder v d) → In x (option_map_or (λ v. all_asked_from (p ++ Name k ∷ []) v false d) o []) → OfMembers p s (member k d ms) x
first_member p s k d ms x None e from order h = absurd h
first_member p s k d ms x (Some v) e from order h =
    let b = from v order h in
    record {
      name = k;
      want = v;
      value = d;
      wanted = e;
      found = rw (tied_itself nat_list_cmp_total k);
      rest = b.rest;
      place = b.place ∙ append_assoc p (Name k ∷ []) b.rest;
      there = b.there;
    }

later_member : (p : List Step) (s : Scope) (k : List ℕ) (d : Data) (ms : Members) (x : AskedPlace) → AllByRecursion (λ n. slice_cmp nat_cmp k n ≡ Less)
    (names ms) → OfMembers p s ms x → OfMembers p s (member k d ms) x
later_member p s k d ms x above b =
    let up : slice_cmp nat_cmp k b.name ≡ Less = found_all (λ n. slice_cmp nat_cmp k n ≡ Less) b.name b.value ms b.found above in
    let down : slice_cmp nat_cmp b.name k ≡ Greater = nat_list_cmp_total.antisymm b.name k ∙ ap ordering_reverse up in
    record {
      name = b.name;
      want = b.want;
      value = b.value;
      wanted = b.wanted;
      found = rw down b.found;
      rest = b.rest;
      place = b.place;
      there = b.there;
    }

members_at : (p : List Step) (w : Want) (repeated : Bool) (ms : Members) (x : AskedPlace) → OfMembers p (scope_inside w (object ms)) ms x
    → AtOrBelow p (asked_with w repeated (object ms)) x
members_at p w repeated ms x b = record {
  rest = Name b.name ∷ b.rest;
  place = b.place;
  there = rw (b.wanted, b.found) b.there;
}

mutual
  unfolding IsStrictlySortedBy

  sound_at : (p : List Step) (w : Want) (repeated : Bool) (d : Data) (x : AskedPlace) → IsInOrder w d → In x (all_asked_from p w repeated d)
      → AtOrBelow p (asked_with w repeated d) x
  sound_at p w repeated (array ds) x order h =
      elim h [
        | inl e ↦ itself p (asked_with w repeated (array ds)) x e
        | inr b ↦ items_at p w repeated ds x (entry_want w) refl (λ v o i. sound_items p v (is_compared_set w) [] ds x o i) order b
      ]
  sound_at p w repeated (object ms) x order h =
      elim h [
        | inl e ↦ itself p (asked_with w repeated (object ms)) x e
        | inr b ↦ members_at p w repeated ms x (sound_members p (scope_inside w (object ms)) ms x order.0 order.1 b)
      ]
  sound_at p w repeated e x order h = alone p (asked_with w repeated e) x h

  sound_items : (p : List Step) (w : Want) (is_set : Bool) (earlier : List Data) (ds : Items) (x : AskedPlace) → AreItemsInOrder w ds
      → In x (all_asked_items p w is_set earlier ds) → OfItems p w is_set earlier ds x
  sound_items p w is_set earlier no_items x order h = absurd h
  sound_items p w is_set earlier (item d ds) x order h =
      elim (In-append x (all_asked_from (p ++ At (length earlier) ∷ []) w (is_set && list_any (is_same_json d) earlier) d)
      (all_asked_items p w is_set (earlier ++ d ∷ []) ds) h) [
        | inl a ↦ first_item p w is_set earlier d ds x (sound_at (p ++ At (length earlier) ∷ []) w (is_set && list_any (is_same_json d) earlier) d x order.0 a)
        | inr b ↦ later_item p w is_set earlier d ds x (sound_items p w is_set (earlier ++ d ∷ []) ds x order.1 b)
      ]

  sound_members : (p : List Step) (s : Scope) (ms : Members) (x : AskedPlace) → IsStrictlySortedBy (slice_cmp nat_cmp) (names ms) → AreMembersInOrder s ms
      → In x (all_asked_members p s ms) → OfMembers p s ms x
  sound_members p s no_members x sorted order h = absurd h
  sound_members p s (member k d ms) x sorted order h =
      elim (In-append x (option_map_or (λ v. all_asked_from (p ++ Name k ∷ []) v false d) (want_of_name s k) []) (all_asked_members p s ms) h) [
        | inl a ↦ first_member p s k d ms x (want_of_name s k) refl (λ v o i. sound_at (p ++ Name k ∷ []) v false d x o i) order.0 a
        | inr b ↦ later_member p s k d ms x sorted.0 (sound_members p s ms x sorted.1 order.1 b)
      ]

-- ---- the places rise

first_rises : (p : List Step) (a : Asked) (xs : List AskedPlace) → IsStrictlySortedBy by_place xs
    → ((y : AskedPlace) → In y xs → (s : Step) × (q : List Step) × (y.0 ≡ p ++ s ∷ q)) → IsStrictlySortedBy by_place ((p, a) ∷ xs)
unfolding IsStrictlySortedBy
first_rises p a xs rising inside =
    let x : AskedPlace = (p, a) in
    (all_from_In (λ y. by_place x y ≡ Less) xs (λ y i. let b = inside y i in by_place_less x y p (p ++ b.0 ∷ b.1) refl b.2 (start_less p b.0 b.1)), rising)

alone_rises : (x : AskedPlace) → IsStrictlySortedBy by_place (x ∷ [])
unfolding IsStrictlySortedBy
alone_rises x = (tt, tt)

rising_array : (p : List Step) (w : Want) (repeated : Bool) (ds : Items) (o : Option Want) → IfSome o (λ v. AreItemsInOrder v ds)
    → ((v : Want) → AreItemsInOrder v ds → IsStrictlySortedBy by_place (all_asked_items p v (is_compared_set w) [] ds))
    → IsStrictlySortedBy by_place ((p, asked_with w repeated (array ds)) ∷ option_map_or (λ v. all_asked_items p v (is_compared_set w) [] ds) o [])
rising_array p w repeated ds None order from = alone_rises (p, asked_with w repeated (array ds))
rising_array p w repeated ds (Some v) order from =
    first_rises p (asked_with w repeated (array ds)) (all_asked_items p v (is_compared_set w) [] ds) (from v order)
    (λ y i.
    let b = sound_items p v (is_compared_set w) [] ds y order i in
    (At (length {A = Data} [] + b.index), b.rest, b.place))

rising_here : (p : List Step) (k : List ℕ) (d : Data) (o : Option Want) → IfSome o (λ v. IsInOrder v d)
    → ((v : Want) → IsInOrder v d → IsStrictlySortedBy by_place (all_asked_from (p ++ Name k ∷ []) v false d))
    → IsStrictlySortedBy by_place (option_map_or (λ v. all_asked_from (p ++ Name k ∷ []) v false d) o [])
unfolding IsStrictlySortedBy
rising_here p k d None order from = tt
rising_here p k d (Some v) order from = from v order

-- the places inside a member begin with its name
place_here : (p : List Step) (k : List ℕ) (d : Data) (x : AskedPlace) (o : Option Want) → IfSome o (λ v. IsInOrder v d)
    → In x (option_map_or (λ v. all_asked_from (p ++ Name k ∷ []) v false d) o [])
    → (q : List Step) × (x.0 ≡ p ++ Name k ∷ q)
place_here p k d x None order h = absurd h
place_here p k d x (Some v) order h =
    let b = sound_at (p ++ Name k ∷ []) v false d x order h in
    (b.rest, b.place ∙ append_assoc p (Name k ∷ []) b.rest)

mutual
  unfolding IsStrictlySortedBy

  rising_at : (p : List Step) (w : Want) (repeated : Bool) (d : Data) → IsInOrder w d → IsStrictlySortedBy by_place (all_asked_from p w repeated d)
  rising_at p w repeated (array ds) order = rising_array p w repeated ds (entry_want w) order (λ v o. rising_items p v (is_compared_set w) [] ds o)
  rising_at p w repeated (object ms) order =
      let s = scope_inside w (object ms) in
      first_rises p (asked_with w repeated (object ms)) (all_asked_members p s ms) (rising_members p s ms order.0 order.1)
      (λ y i.
      let b = sound_members p s ms y order.0 order.1 i in
      (Name b.name, b.rest, b.place))
  rising_at p w repeated e order = alone_rises (p, asked_with w repeated e)

  rising_items : (p : List Step) (w : Want) (is_set : Bool) (earlier : List Data) (ds : Items) → AreItemsInOrder w ds
      → IsStrictlySortedBy by_place (all_asked_items p w is_set earlier ds)
  rising_items p w is_set earlier no_items order = tt
  rising_items p w is_set earlier (item d ds) order =
      let n = length earlier in
      let repeated = is_set && list_any (is_same_json d) earlier in
      sorted_append by_place (all_asked_from (p ++ At n ∷ []) w repeated d) (all_asked_items p w is_set (earlier ++ d ∷ []) ds)
      (rising_at (p ++ At n ∷ []) w repeated d order.0) (rising_items p w is_set (earlier ++ d ∷ []) ds order.1)
      (λ x y i j.
      let a = sound_at (p ++ At n ∷ []) w repeated d x order.0 i in
      let b = sound_items p w is_set (earlier ++ d ∷ []) ds y order.1 j in
      let m = length (earlier ++ d ∷ []) + b.index in
      let up : n < m = omega (arith, next_index earlier d b.index) in
      by_place_less x y (p ++ At n ∷ a.rest) (p ++ At m ∷ b.rest) (a.place ∙ append_assoc p (At n ∷ []) a.rest) b.place
      (steps_less p (At n) (At m) a.rest b.rest (at_less n m up)))

  rising_members : (p : List Step) (s : Scope) (ms : Members) → IsStrictlySortedBy (slice_cmp nat_cmp) (names ms) → AreMembersInOrder s ms
      → IsStrictlySortedBy by_place (all_asked_members p s ms)
  rising_members p s no_members sorted order = tt
  rising_members p s (member k d ms) sorted order =
      sorted_append by_place (option_map_or (λ v. all_asked_from (p ++ Name k ∷ []) v false d) (want_of_name s k) []) (all_asked_members p s ms)
      (rising_here p k d (want_of_name s k) order.0 (λ v o. rising_at (p ++ Name k ∷ []) v false d o)) (rising_members p s ms sorted.1 order.1)
      (λ x y i j.
      let a = place_here p k d x (want_of_name s k) order.0 i in
      let b = sound_members p s ms y sorted.1 order.1 j in
      let up : slice_cmp nat_cmp k b.name ≡ Less = found_all (λ n. slice_cmp nat_cmp k n ≡ Less) b.name b.value ms b.found sorted.0 in
      by_place_less x y (p ++ Name k ∷ a.0) (p ++ Name b.name ∷ b.rest) a.1 b.place (steps_less p (Name k) (Name b.name) a.0 b.rest up))

-- ---- of a report

pub all_asked_sound : (t : Data) (p : List Step) (a : Asked) → IsInOrder (Object Report) t → In {A = AskedPlace} (p, a) (all_asked t) → asked_at t p ≡ Some a
all_asked_sound t p a order h =
    let b = sound_at [] (Object Report) false t (p, a) order h in
    subst (λ q. asked_at t q ≡ Some a) (sym b.place) b.there

pub all_asked_rising : (t : Data) → IsInOrder (Object Report) t → IsStrictlySortedBy by_place (all_asked t)
all_asked_rising t order = rising_at [] (Object Report) false t order
