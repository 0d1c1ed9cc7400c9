-- In a report without faults of identity no two objects of a family and no two elections have one key, and each of several
-- elections has one.
use Rattle.erd_meaning.proofs.Common.{◌≡◌, ℕ, Bool, true, false, cond, List, map, length, nat_lt, slice_get, Some, None, codes, Option, option_and_then, is_eq}
use Rattle.erd_meaning.proofs.Common.{sym, refl, ap, ◌∙◌, subst, ap₂, arith, ltb-false, slice_get_within, map-map, Equal-is, IsDistinct, option_cmp, eq_by_cmp}
use Rattle.erd_meaning.proofs.Common.{Data, Family, reason, NoneOf, entries_at, has_keys, key_cmp, Preference, key_of, key_of_family_object, IdentityFault}
use Rattle.erd_meaning.proofs.Common.{key_in, Placed, report_of, elections, objects, has_several, AreDistinct, HaveDistinctKeys, Kept, kept, kept_objects}
use Rattle.erd_meaning.proofs.Common.{election_keys, key_cmp_exact, Key, role, In, contains_from_In, in_at}
use Rattle.erd_meaning.proofs.accepted.Standing.{has_identifier, values-placed_entries}
use Rattle.erd_meaning.proofs.finding.OneObject.{those_kept, one_key}
use Rattle.erd_meaning.proofs.finding.Found.{one_election_key}
use Rattle.erd_meaning.proofs.rising.DistinctEntries.{distinct_from_one_place, distinct_map}

-- ---- the keys of elections

pub election_has_identifier : (π : Preference) (t : Data) → NoneOf (IdentityFault π t) → has_several t ≡ true → (e : Placed) → In e (elections t) → (k : Key)
    × (key_of π e.value ≡ Some k)
election_has_identifier π t none several e h = at (key_of π e.value) refl
  where
    at : (k : Option Key) → key_of π e.value ≡ k → (l : Key) × (key_of π e.value ≡ Some l)
    at None is =
        absurd (none e.place reason.NoIdentifier
        (record { role = role.Election; needed = several; placed = e; stands = contains_from_In e (elections t) h; place = refl; keyless = is }))
    at (Some k) is = (k, is)

-- ---- no two have one key

-- the test whether two values have one key
abbrev has_one_key : Preference → Data → Data → Bool
has_one_key π d e = eq_by_cmp (option_cmp key_cmp) (key_of π d) (key_of π e)

module _ (π : Preference) (t : Data) (none : NoneOf (IdentityFault π t)) where
  -- ---- objects

  key_at : (f : Family) (i : ℕ) (o : Placed) (k : Key) → has_keys f ≡ true → slice_get (objects f t) i ≡ Some o → key_of π o.value ≡ Some k
      → key_in π f t i ≡ Some k
  key_at f i o k keyed a e = ap (option_and_then (λ (o : Placed). key_of_family_object π f o.value)) a ∙ ap (λ b. cond b (key_of π o.value) None) keyed ∙ e

  pub objects_distinct : (f : Family) → has_keys f ≡ true → IsDistinct (λ (o p : Placed). has_one_key π o.value p.value) (objects f t)
  objects_distinct f keyed = distinct_from_one_place (λ (o p : Placed). has_one_key π o.value p.value) (objects f t) (λ i j o p a b e.
      let k = has_identifier π t none f o keyed (in_at (objects f t) i o a) in
      let l = has_identifier π t none f p keyed (in_at (objects f t) j p b) in
      let same : k.0 ≡ l.0 = key_cmp_exact k.0 l.0 ((Equal-is (key_cmp k.0 l.0)).0 (sym (ap₂ (λ x y. is_eq (option_cmp key_cmp x y)) k.1 l.1) ∙ e)) in
      one_key π t f k.0 i j none (key_at f i o k.0 keyed a k.1) (key_at f j p k.0 keyed b (l.1 ∙ ap Some (sym same))))

  -- the values of a family's objects
  pub values_distinct : (f : Family) → has_keys f ≡ true → IsDistinct (has_one_key π) (map (λ o. o.value) (objects f t))
  values_distinct f keyed = distinct_map (λ (o : Placed). o.value) (has_one_key π) (objects f t) (objects_distinct f keyed)

  -- the keys of the objects that are kept
  pub kept_distinct : HaveDistinctKeys (kept_objects π t)
  kept_distinct f keyed =
      subst AreDistinct
      (sym (ap (map (λ (k : Kept). k.key)) (those_kept π f t) ∙ map-map (λ (k : Kept). k.key) (λ (o : Placed). kept π f o) (objects f t)))
      (distinct_map (λ (o : Placed). key_of_family_object π f o.value) (eq_by_cmp (option_cmp key_cmp)) (objects f t)
      (subst (λ b. IsDistinct (λ (o p : Placed). eq_by_cmp (option_cmp key_cmp) (cond b (key_of π o.value) None) (cond b (key_of π p.value) None))
      (objects f t)) (sym keyed) (objects_distinct f keyed)))

  -- ---- elections

  -- an election of a report that has one
  only_place : {A : Type 0} (xs : List A) (i : ℕ) (x : A) → nat_lt 1 (length xs) ≡ false → slice_get xs i ≡ Some x → i ≡ 0
  only_place xs i x few found = let h = slice_get_within xs i x found in let l = ltb-false 1 (length xs) few in omega arith

  one_election_place : (several : Bool) → has_several t ≡ several → (i j : ℕ) (d e : Placed) → slice_get (elections t) i ≡ Some d
      → slice_get (elections t) j ≡ Some e → has_one_key π d.value e.value ≡ true → i ≡ j
  one_election_place true is i j d e at there h =
      let k = election_has_identifier π t none is d (in_at (elections t) i d at) in
      let l = election_has_identifier π t none is e (in_at (elections t) j e there) in
      let same : k.0 ≡ l.0 = key_cmp_exact k.0 l.0 ((Equal-is (key_cmp k.0 l.0)).0 (sym (ap₂ (λ x y. is_eq (option_cmp key_cmp x y)) k.1 l.1) ∙ h)) in
      one_election_key π t none i j d e k.0 at there k.1 (l.1 ∙ ap Some (sym same))
  one_election_place false is i j d e at there h = only_place (elections t) i d is at ∙ sym (only_place (elections t) j e is there)

  placed_distinct : IsDistinct (λ (d e : Placed). has_one_key π d.value e.value) (elections t)
  placed_distinct = distinct_from_one_place (λ (d e : Placed). has_one_key π d.value e.value) (elections t) (one_election_place (has_several t) refl)

  -- no two elections have one key, and none are two without
  pub elections_distinct : IsDistinct (has_one_key π) (entries_at (codes "Election") t)
  elections_distinct =
      subst (IsDistinct (has_one_key π)) (values-placed_entries (codes "Election") (report_of t))
      (distinct_map (λ (e : Placed). e.value) (has_one_key π) (elections t) placed_distinct)

  pub election_keys_distinct : AreDistinct (election_keys π t)
  election_keys_distinct = distinct_map (λ (e : Placed). key_of π e.value) (eq_by_cmp (option_cmp key_cmp)) (elections t) placed_distinct
