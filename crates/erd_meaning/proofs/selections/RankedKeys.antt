-- The ranks of keys are in the order of the keys, wherever objects of the family have the keys. The keys in the name of a
-- selection are those of objects.
use Rattle.erd_meaning.proofs.Common.{◌≡◌, ℕ, Bool, true, false, cond, List, [], ◌∷◌, map, is_some, slice_get, Some, None, codes, Option, option_map, position}
use Rattle.erd_meaning.proofs.Common.{find, option_and_then, option_copied, nat_cmp, is_eq, sym, refl, ap, ◌∙◌, subst, inl, inr, Bor, and_parts, and_from}
use Rattle.erd_meaning.proofs.Common.{tied_itself, on_total, slice_get-map, IsTotalOrder, options_total, AllByRecursion, cons_option, list_all, option_cmp}
use Rattle.erd_meaning.proofs.Common.{Data, as_str, Class, class, Family, family, In, entries_at, class_of_object, key_cmp, Preference, key_of, NameParts}
use Rattle.erd_meaning.proofs.Common.{family_chosen, RankedParts, rising_list, is_write_in, order_of_selection, label_of_selection, selection_role}
use Rattle.erd_meaning.proofs.Common.{lent_key_cmp, key_among, name_among, rank, number_of_key, is_of_family, those_of, is_keyed, keeps_id, Kept, same_key}
use Rattle.erd_meaning.proofs.Common.{key_cmp_total, rank_among, AreRanks, ranked_key, is_key_among, ranked_parts, ranked_name_among, has_keys_among, IsRanked}
use Rattle.erd_meaning.proofs.Common.{Key, cases_Bool, arith, and_then-Some, option_map-Some, some_from, in_at, name_in_class, keys_found, keys_of_selection}
use Rattle.erd_meaning.proofs.finding.OneObject.{ranked, hit, missed}
use Rattle.erd_meaning.proofs.identity.IdentityFaults.{same_key_from}
use Rattle.erd_text.proofs.RisingOrders.{all_rising, rising_alike}
use Rattle.erd_meaning.proofs.rising.KeyRanks.{IsKeyOf, counted_as_key}
use Rattle.erd_text.proofs.RisingLists.{rising_list_map}

-- the order of borrowed keys
pub lent_key_cmp_total : IsTotalOrder lent_key_cmp
lent_key_cmp_total = options_total (on_total (λ k. k.now) key_cmp_total)

pub copied_cmp : (k l : Option (Bor Key)) → lent_key_cmp k l ≡ option_cmp key_cmp (option_copied k) (option_copied l)
copied_cmp k l = grind arith

-- what holds of each entry, as a test
pub all_pass : {A : Type 0} (test : A → Bool) (xs : List A) → AllByRecursion (λ x. test x ≡ true) xs → list_all test xs ≡ true
all_pass test [] h = refl
all_pass test (x ∷ xs) h = and_from (test x) (list_all test xs) h.0 (all_pass test xs h.1)

pub each_passes : {A : Type 0} (test : A → Bool) (xs : List A) → list_all test xs ≡ true → AllByRecursion (λ x. test x ≡ true) xs
each_passes test [] h = tt
each_passes test (x ∷ xs) h = let both = and_parts (test x) (list_all test xs) h in (both.0, each_passes test xs both.1)

found_in : {A : Type 0} (test : A → Bool) (xs : List A) (x : A) → find test xs ≡ Some x → In x xs
found_in test [] x e = cc
found_in test (y ∷ ys) x e =
    elim (cases_Bool (test y)) [
      | inl is ↦ (let h : Some y ≡ Some x = rw is at e in let same : y ≡ x = cc in inl same)
      | inr is ↦ inr (found_in test ys x (rw is at e))
    ]

module _ (ks : List Kept) (f : Family) where
  -- ---- keys of objects

  -- an object of the family has the key, and stands at this position
  pub record IsKeyAt (key : Key) (i : ℕ) : Type 0 where
    pub owner : Kept
    pub place : slice_get (those_of f ks) i ≡ Some owner
    pub keyed : owner.key ≡ Some key

  -- the key is that of an object
  abbrev pub IsKeyAmong : Key → Type 0
  IsKeyAmong key = is_key_among ks f key ≡ true

  pub key_at_number : (key : Key) (i : ℕ) → number_of_key ks f key ≡ Some i → IsKeyAt key i
  key_at_number key i e =
      let r = option_map-Some (rank f ks) (position (is_keyed f key) ks) i e in
      let there = hit (is_keyed f key) ks r.0 r.1 in
      let both = and_parts (is_of_family f there.one) (same_key there.one.key (Some key)) there.passes in
      let same = same_key_from there.one.key (Some key) both.1 in
      record { owner = there.one; place = ap (slice_get (those_of f ks)) (sym r.2) ∙ ranked f ks r.0 there.one there.at both.0; keyed = same.1 ∙ sym same.2 }

  key_at : (key : Key) → IsKeyAmong key → (i : ℕ) × IsKeyAt key i
  key_at key h = let r = some_from (number_of_key ks f key) h in (r.0, key_at_number key r.0 r.1)

  -- ---- ranks

  its_key : (k : Key) → IsKeyAmong k → IsKeyOf (λ (o : Kept). o.key) (those_of f ks) k
  its_key k has =
      let x = key_at k has in
      record { owner = x.1.owner; stands = in_at (those_of f ks) x.0 x.1.owner x.1.place; keyed = x.1.keyed }

  -- ranks compare as the keys do
  pub rank_as_key : (k l : Key) → IsKeyAmong k → IsKeyAmong l → nat_cmp (rank_among ks f (Some k)) (rank_among ks f (Some l)) ≡ key_cmp k l
  rank_as_key k l has other = counted_as_key (λ (o : Kept). o.key) (those_of f ks) k l (its_key k has) (its_key l other)

  -- keys with their ranks, sorted by these
  pub ranked_in_order : (keys : List Key) → AllByRecursion IsKeyAmong keys → rising_list (λ a b. nat_cmp a.0 b.0) (map (ranked_key ks f) keys)
      ≡ map (ranked_key ks f) (rising_list key_cmp keys)
  ranked_in_order keys known =
      sym (rising_list_map (ranked_key ks f) (λ a b. nat_cmp a.0 b.0) keys)
      ∙ ap (map (ranked_key ks f)) (rising_alike IsKeyAmong (λ k l. nat_cmp (rank_among ks f (Some k)) (rank_among ks f (Some l))) key_cmp
      rank_as_key keys known)

  -- the rank at the position of an object with a key
  pub rank_there : (key : Key) (i : ℕ) (ranks : List ℕ) → AreRanks ks f ranks → option_and_then (λ k. k.key) (slice_get (those_of f ks) i) ≡ Some key
      → slice_get ranks i ≡ Some (rank_among ks f (Some key))
  rank_there key i ranks are keyed =
      let r = and_then-Some (λ (k : Kept). k.key) (slice_get (those_of f ks) i) key keyed in
      ap (λ ns. slice_get ns i) are ∙ slice_get-map (λ (k : Kept). rank_among ks f k.key) (those_of f ks) i
      ∙ ap (option_map (λ (k : Kept). rank_among ks f k.key)) r.1 ∙ ap (λ o. Some (rank_among ks f o)) r.2

  -- and at that which is found by a key
  pub rank_found : (key : Key) (i : ℕ) (ranks : List ℕ) → AreRanks ks f ranks → number_of_key ks f key ≡ Some i
      → slice_get ranks i ≡ cond (is_key_among ks f key) (Some (rank_among ks f (Some key))) None
  rank_found key i ranks are e =
      let at = key_at_number key i e in
      rank_there key i ranks are (ap (option_and_then (λ (k : Kept). k.key)) at.place ∙ at.keyed)
      ∙ sym (ap (λ o. cond (is_some o) (Some (rank_among ks f (Some key))) None) e)

  -- ---- keys that references name

  key_there : (key : Key) (k : Kept) → In k ks → is_of_family f k ≡ true → k.key ≡ Some key → IsKeyAmong key
  key_there key k there of_family keyed = at (position (is_keyed f key) ks) refl
    where
      same : same_key k.key (Some key) ≡ true
      same = ap (λ o. same_key o (Some key)) keyed ∙ ap is_eq (tied_itself key_cmp_total key)

      at : (o : Option ℕ) → position (is_keyed f key) ks ≡ o → is_some (option_map (rank f ks) o) ≡ true
      at None is = absurd (missed (is_keyed f key) ks k is there (and_from (is_of_family f k) (same_key k.key (Some key)) of_family same))
      at (Some n) is = refl

  pub referred_known : (id : List ℕ) (key : Key) → key_among ks f id ≡ Some key → IsKeyAmong key
  referred_known id key e = at (find (keeps_id id) ks) refl e
    where
      of : (k : Kept) (b : Bool) → In k ks → is_of_family f k ≡ b → option_and_then (λ (k : Kept). k.key) (cond b (Some k) None) ≡ Some key → IsKeyAmong key
      of k true there is h = key_there key k there is h
      of k false there is h = cc

      at : (o : Option Kept) → find (keeps_id id) ks ≡ o → option_and_then (λ (k : Kept). k.key)
          (option_and_then (λ k. cond (is_of_family f k) (Some k) None) o) ≡ Some key → IsKeyAmong key
      at None is h = cc
      at (Some k) is h = of k (is_of_family f k) (found_in (keeps_id id) ks k is) refl h

-- ---- names

-- the name of a selection of this class with these keys
abbrev pub name_with : Preference → Class → Data → List Key → NameParts
name_with π c d keys =
    record { class = c; keys = keys; write_in = is_write_in c d; order = order_of_selection d; label = label_of_selection c d; identifier = key_of π d }

-- what holds of each key that references lead to holds of each key that a list of references leads to
module _ (P : Key → Type 0) (key : List ℕ → Option Key) (holds : (id : List ℕ) (k : Key) → key id ≡ Some k → P k) where
  by_reference : (id : Option (List ℕ)) (k : Key) → option_and_then key id ≡ Some k → P k
  by_reference None k e = cc
  by_reference (Some id) k e = holds id k e

  all_found : (rs : List Data) → AllByRecursion P (keys_found key rs)
  all_found [] = tt
  all_found (r ∷ rs) = at (option_and_then key (as_str r)) refl (all_found rs)
    where
      at : (o : Option Key) → option_and_then key (as_str r) ≡ o → AllByRecursion P (keys_found key rs) → AllByRecursion P (cons_option o (keys_found key rs))
      at None is rest = rest
      at (Some k) is rest = (by_reference (as_str r) k is, rest)

-- and so of each key in a name
module _ (P : Family → Key → Type 0) (key : Family → List ℕ → Option Key) (holds : (f : Family) (id : List ℕ) (k : Key) → key f id ≡ Some k → P f k) where
  pub all_chosen : (c : Class) (d : Data) → AllByRecursion (P (family_chosen c)) (keys_of_selection key c d)
  all_chosen class.CandidateSelection d = all_found (P family.Candidate) (key family.Candidate) (holds family.Candidate) (entries_at (codes "CandidateIds") d)
  all_chosen class.PartySelection d = all_found (P family.Party) (key family.Party) (holds family.Party) (entries_at (codes "PartyIds") d)
  all_chosen c d = tt

  pub keys_in_name : (π : Preference) (c : Class) (d : Data) → AllByRecursion (P (family_chosen c)) (name_in_class π key c d).keys
  keys_in_name π c d = all_rising (P (family_chosen c)) key_cmp (keys_of_selection key c d) (all_chosen c d)

module _ (ks : List Kept) where
  -- a name that is made with the ranks of its keys
  pub made_ranked : (π : Preference) (d : Data) (n : NameParts) → name_among π ks d ≡ Some n → IsRanked ks (ranked_parts ks n)
  made_ranked π d n e =
      let r = option_map-Some (λ c. name_in_class π (key_among ks) c d) (class_of_object selection_role d) n e in
      let known = all_pass (is_key_among ks (family_chosen r.0)) (name_in_class π (key_among ks) r.0 d).keys
      (keys_in_name (IsKeyAmong ks) (key_among ks) (referred_known ks) π r.0 d) in
      record { ranks = refl; known = sym (ap (has_keys_among ks) r.2) ∙ known }

  -- the name that is made of a selection, with the ranks of its keys
  pub ranked_selection : (π : Preference) (d : Data) (c : Class) (chosen : List (ℕ × Key)) (r : RankedParts) → class_of_object selection_role d ≡ Some c
      → chosen ≡ map (ranked_key ks (family_chosen c)) (rising_list key_cmp (keys_of_selection (key_among ks) c d))
      → r.name ≡ name_with π c d (map (λ x. x.1) chosen) → r.ranks ≡ map (λ x. x.0) chosen → Some r ≡ ranked_name_among π ks d
  ranked_selection π d c chosen r is are name ranks =
      let keys = rising_list key_cmp (keys_of_selection (key_among ks) c d) in
      let f = family_chosen c in
      let named : r.name ≡ name_in_class π (key_among ks) c d = name ∙ ap (name_with π c d) (ap (map (λ x. x.1)) are ∙ keys_only f keys) in
      let numbered : r.ranks ≡ map (λ key. rank_among ks f (Some key)) keys = ranks ∙ ap (map (λ x. x.0)) are ∙ ranks_only f keys in
      let whole : r ≡ ranked_parts ks (name_in_class π (key_among ks) c d) = λ i. record { name = named i; ranks = numbered i } in
      ap Some whole ∙ sym (ap (λ o. option_map (ranked_parts ks) (option_map (λ b. name_in_class π (key_among ks) b d) o)) is)
    where
      keys_only : (f : Family) (keys : List Key) → map (λ x. x.1) (map (ranked_key ks f) keys) ≡ keys
      keys_only f [] = refl
      keys_only f (k ∷ keys) = ap (λ xs. k ∷ xs) (keys_only f keys)

      ranks_only : (f : Family) (keys : List Key) → map (λ x. x.0) (map (ranked_key ks f) keys) ≡ map (λ key. rank_among ks f (Some key)) keys
      ranks_only f [] = refl
      ranks_only f (k ∷ keys) = ap (λ xs. rank_among ks f (Some k) ∷ xs) (ranks_only f keys)

  -- a name that is found with ranks
  pub ranked_name_is : (π : Preference) (d : Data) (r : RankedParts) → ranked_name_among π ks d ≡ Some r → IsRanked ks r × (name_among π ks d ≡ Some r.name)
  ranked_name_is π d r e =
      let n = option_map-Some (ranked_parts ks) (name_among π ks d) r e in
      (subst (IsRanked ks) n.2 (made_ranked π d n.0 n.1), n.1 ∙ ap (λ (q : RankedParts). Some q.name) n.2)
