-- What is found by a key, by an `@id` or by a name is what has it.
use Rattle.erd_meaning.proofs.Common.{◌≡◌, ℕ, true, List, map, slice_get, Some, None, Option, option_map, position, option_and_then, is_eq, sym, refl, ap, ◌∙◌}
use Rattle.erd_meaning.proofs.Common.{subst, ap₂, and_parts, and_from, tied_itself, same_Some, some_pair_parts, bytes_eq-Decides, Data, view, Value}
use Rattle.erd_meaning.proofs.Common.{family_number, Family, In, In-filter, NoneOf, Preference, IdentityFault, key_in, id_in, FindsKey, FindsId, rank}
use Rattle.erd_meaning.proofs.Common.{number_at, number_of_id, number_of_key, is_of_family, those_of, is_keyed, keeps_id, Kept, kept_objects, same_key, same_id}
use Rattle.erd_meaning.proofs.Common.{key_cmp_total, IsResolved, NumberedName, shown, Key, Object, and_then-Some, ◌+◌, Bool, false, cond, [], ◌∷◌, ◌++◌, length}
use Rattle.erd_meaning.proofs.Common.{◌==◌, find, append_snoc, position_from-zero, length_push, position_from, number_among, object_among, inl, inr, cases_Bool}
use Rattle.erd_meaning.proofs.Common.{cond_both, ◌<◌, cases_order, slice_get-map, TwinIdentifier, contains_from_In, IsStrictlySortedBy-filter, key_of, IsBefore}
use Rattle.erd_meaning.proofs.Common.{Placed, elections, has_several, located_election, all_located, role, in_at}
use Rattle.erd_meaning.specs.code.OwnIds.{HaveOwnIds}
use Rattle.erd_meaning.proofs.finding.OneObject.{hit, missed, one_id, one_key, kept_part, part_at, ranked, sorted_at}
use Rattle.erd_meaning.proofs.identity.IdentityFaults.{same_id_from, same_key_from, repeats_key}
use Rattle.erd_meaning.proofs.identity.ObjectFamilies.{itself, family_exact, elections_picked, is_election}
use Rattle.erd_meaning.proofs.finding.Pushed.{get_last}
use Rattle.erd_meaning.proofs.identity.ObjectPlaces.{AreApart, all_parted, apart}
use Rattle.erd_meaning.proofs.identity.ToldFaults.{before_apart}

-- what a family has at a position, with the object that is kept
record Standing (ks : List Kept) (f : Family) (part : Kept → Type 0) : Type 0 where
  one : Kept
  there : In one ks
  family : is_of_family f one ≡ true
  has : part one

standing : {A : Type 0} (g : Kept → Option A) (ks : List Kept) (f : Family) (i : ℕ) (a : A)
    → option_and_then g (slice_get (those_of f ks) i) ≡ Some a → Standing ks f (λ k. g k ≡ Some a)
standing g ks f i a e =
    let r = and_then-Some g (slice_get (those_of f ks) i) a e in
    let both = In-filter (is_of_family f) r.0 ks (in_at (those_of f ks) i r.0 r.1) in
    record { one = r.0; there = both.0; family = both.1; has = r.2 }

-- ---- by a key

key_here : (π : Preference) (v : Value) (os : List Object) (ns : List NumberedName) (f : Family) (key : Key) (n : ℕ) → IsResolved π v os ns
    → position (is_keyed f key) (map shown os) ≡ Some n → key_in π f (view v) (rank f (map shown os) n) ≡ Some key
key_here π v os ns f key n r e =
    let ks = map shown os in
    let h = hit (is_keyed f key) ks n e in
    let both = and_parts (is_of_family f h.one) (same_key h.one.key (Some key)) h.passes in
    let same = same_key_from h.one.key (Some key) both.1 in
    sym (part_at π (λ k. k.key) v os ns f (rank f ks n) r) ∙ ap (option_and_then (λ (k : Kept). k.key)) (ranked f ks n h.one h.at both.0) ∙ same.1 ∙ sym same.2

key_missed : (π : Preference) (v : Value) (os : List Object) (ns : List NumberedName) (f : Family) (key : Key) (j : ℕ) → IsResolved π v os ns
    → position (is_keyed f key) (map shown os) ≡ None → key_in π f (view v) j ≡ Some key → ⊥
key_missed π v os ns f key j r e there =
    let ks = map shown os in
    let s = standing (λ (k : Kept). k.key) ks f j key (part_at π (λ k. k.key) v os ns f j r ∙ there) in
    let same : same_key s.one.key (Some key) ≡ true = ap (λ k. same_key k (Some key)) s.has ∙ ap is_eq (tied_itself key_cmp_total key) in
    missed (is_keyed f key) ks s.one e s.there (and_from (is_of_family f s.one) (same_key s.one.key (Some key)) s.family same)

pub finds_key : (π : Preference) (v : Value) (os : List Object) (ns : List NumberedName) (f : Family) (key : Key) → IsResolved π v os ns
    → FindsKey π (view v) f key (number_of_key (map shown os) f key)
finds_key π v os ns f key r = at (position (is_keyed f key) (map shown os)) refl
  where
    at : (o : Option ℕ) → position (is_keyed f key) (map shown os) ≡ o → FindsKey π (view v) f key (option_map (rank f (map shown os)) o)
    at None e j = (λ same. cc, λ there. absurd (key_missed π v os ns f key j r e there))
    at (Some n) e j =
        let i = rank f (map shown os) n in
        let here = key_here π v os ns f key n r e in (
          λ same. subst (λ m. key_in π f (view v) m ≡ Some key) (same_Some i j same) here,
          λ there. ap Some (one_key π (view v) f key i j r.identified here there),
        )

-- ---- by an `@id`

id_missed : (π : Preference) (t : Data) (id : List ℕ) (f : Family) (j : ℕ) → position (keeps_id id) (kept_objects π t) ≡ None → id_in f t j ≡ Some id → ⊥
id_missed π t id f j e there =
    let ks = kept_objects π t in
    let s = standing (λ (k : Kept). k.id) ks f j id (kept_part π (λ k. k.id) f t j ∙ there) in
    let same : same_id s.one.id (Some id) ≡ true = ap (λ k. same_id k (Some id)) s.has ∙ (bytes_eq-Decides id id).1 refl in
    missed (keeps_id id) ks s.one e s.there same

pub finds_kept_id : (π : Preference) (t : Data) (id : List ℕ) → NoneOf (IdentityFault π t) → FindsId t id (number_of_id (kept_objects π t) id)
finds_kept_id π t id none = at (position (keeps_id id) (kept_objects π t)) refl
  where
    at : (o : Option ℕ) → position (keeps_id id) (kept_objects π t) ≡ o → FindsId t id (option_and_then (number_at (kept_objects π t)) o)
    at None e f j = (λ same. cc, λ there. absurd (id_missed π t id f j e there))
    at (Some n) e g j =
        let ks = kept_objects π t in
        let h = hit (keeps_id id) ks n e in
        let f = h.one.family in
        let i = rank f ks n in
        let found : number_at ks n ≡ Some (f, i) = ap (option_map {U = Family × ℕ} (λ (k : Kept). (k.family, rank k.family ks n))) h.at in
        let same = same_id_from h.one.id (Some id) h.passes in
        let here : id_in f t i ≡ Some id =
        sym (kept_part π (λ k. k.id) f t i) ∙ ap (option_and_then (λ (k : Kept). k.id)) (ranked f ks n h.one h.at (itself (family_number f)))
        ∙ same.1 ∙ sym same.2 in (
          λ named.
              let parts = some_pair_parts f g i j (sym found ∙ named) in
              subst (λ m. id_in g t m ≡ Some id) parts.1 (subst (λ f. id_in f t i ≡ Some id) parts.0 here),
          λ there.
              let parts = one_id π t id f g i j none here there in
              found ∙ ap₂ (λ f m. Some (f, m)) parts.0 parts.1,
        )

pub finds_id : (π : Preference) (v : Value) (os : List Object) (ns : List NumberedName) (id : List ℕ) → IsResolved π v os ns
    → FindsId (view v) id (number_of_id (map shown os) id)
finds_id π v os ns id r = subst (λ (ks : List Kept). FindsId (view v) id (number_of_id ks id)) (sym r.kept) (finds_kept_id π (view v) id r.identified)

-- no two objects of a report have one `@id`, so each is what its own leads to
pub own_ids : (π : Preference) (t : Data) (ks : List Kept) → ks ≡ kept_objects π t → NoneOf (IdentityFault π t) → HaveOwnIds ks
own_ids π t ks kept none = subst HaveOwnIds (sym kept) (λ f i id e. (finds_kept_id π t id none f i).1 (sym (kept_part π (λ k. k.id) f t i) ∙ e))

-- ---- lists

find_after : {X : Type 0} (p : X → Bool) (ys xs : List X) → find p xs ≡ option_and_then (slice_get (ys ++ xs)) (position_from p (length ys) xs)
find_after p ys [] = refl
find_after {X} p ys (x ∷ xs) = elim (cases_Bool (p x)) [
  | inl is ↦ rw is (sym (get_last ys xs x))
  | inr is ↦ rw is
      (subst (λ (zs : List X). find p xs ≡ option_and_then (slice_get zs) (position_from p (length ys + 1) xs)) (append_snoc ys x xs)
      (subst (λ n. find p xs ≡ option_and_then (slice_get ((ys ++ x ∷ []) ++ xs)) (position_from p n xs)) (length_push ys x) (find_after p (ys ++ x ∷ []) xs)))
]

find_at : {X : Type 0} (p : X → Bool) (xs : List X) → find p xs ≡ option_and_then (slice_get xs) (position p xs)
find_at p xs = find_after p [] xs ∙ ap (option_and_then (slice_get xs)) (sym (position_from-zero p xs))

-- ---- objects

of_family : Family → Kept → Option Kept
of_family f k = cond (is_of_family f k) (Some k) None

-- how the first object with an `@id` stands among all
record First (ks : List Kept) (id : List ℕ) (g : Family) (i : ℕ) : Type 0 where
  one : Kept
  found : find (keeps_id id) ks ≡ Some one
  family : one.family ≡ g
  place : slice_get (those_of g ks) i ≡ Some one

first : (ks : List Kept) (id : List ℕ) (g : Family) (i : ℕ) → number_of_id ks id ≡ Some (g, i) → First ks id g i
first ks id g i e =
    let r = and_then-Some (number_at ks) (position (keeps_id id) ks) (g, i) e in
    let n = r.0 in
    let there = hit (keeps_id id) ks n r.1 in
    let k = there.one in
    let number : number_at ks n ≡ Some (k.family, rank k.family ks n) =
    ap (option_map {U = Family × ℕ} (λ (k : Kept). (k.family, rank k.family ks n))) there.at in
    let parts = some_pair_parts k.family g (rank k.family ks n) i (sym number ∙ r.2) in
    record {
      one = k;
      found = find_at (keeps_id id) ks ∙ ap (option_and_then (slice_get ks)) r.1 ∙ there.at;
      family = parts.0;
      place = subst (λ (f : Family). slice_get (those_of f ks) i ≡ Some k) parts.0
          (subst (λ m. slice_get (those_of k.family ks) m ≡ Some k) parts.1 (ranked k.family ks n k there.at (itself (family_number k.family))));
    }

nothing : {A X : Type 0} {x : X} → Some x ≡ None → A
nothing e = cc

pub with_id_none : (ks : List Kept) (f : Family) (id : List ℕ) → number_of_id ks id ≡ None → object_among ks f id ≡ None
unfolding of_family
with_id_none ks f id e = ap (option_and_then (of_family f)) (find_at (keeps_id id) ks ∙ at (position (keeps_id id) ks) refl e)
  where
    at : (o : Option ℕ) → position (keeps_id id) ks ≡ o → option_and_then (number_at ks) o ≡ None → option_and_then (slice_get ks) o ≡ None
    at None is h = refl
    at (Some n) is h =
        let there = hit (keeps_id id) ks n is in
        let k = there.one in
        let number : number_at ks n ≡ Some (k.family, rank k.family ks n) =
        ap (option_map {U = Family × ℕ} (λ (k : Kept). (k.family, rank k.family ks n))) there.at in
        nothing (sym number ∙ h)

among_one : (ks : List Kept) (f g : Family) (id : List ℕ) (i : ℕ) (h : First ks id g i) (b : Bool) → (family_number g == family_number f) ≡ b
    → object_among ks f id ≡ cond b (Some h.one) None
unfolding of_family
among_one ks f g id i h b e = ap (option_and_then (of_family f)) h.found ∙ ap (λ c. cond c (Some h.one) None)
    (ap (λ j. family_number j == family_number f) h.family ∙ e)

pub with_id_of_other : (ks : List Kept) (f g : Family) (id : List ℕ) (i : ℕ) → number_of_id ks id ≡ Some (g, i) → (family_number g == family_number f) ≡ false
    → object_among ks f id ≡ None
with_id_of_other ks f g id i e other = among_one ks f g id i (first ks id g i e) false other

pub with_id_of_family : (ks : List Kept) (f g : Family) (id : List ℕ) (i : ℕ) → number_of_id ks id ≡ Some (g, i) → (family_number g == family_number f) ≡ true
    → slice_get (those_of f ks) i ≡ object_among ks f id
with_id_of_family ks f g id i e same =
    let h = first ks id g i e in
    ap (λ (j : Family). slice_get (those_of j ks) i) (sym (family_exact g f same)) ∙ h.place ∙ sym (among_one ks f g id i h true same)

pub with_id_some : (ks : List Kept) (f g : Family) (id : List ℕ) (i : ℕ) → number_of_id ks id ≡ Some (g, i) → (family_number g == family_number f) ≡ true
    → (k : Kept) × (object_among ks f id ≡ Some k)
with_id_some ks f g id i e same =
    let h = first ks id g i e in
    (h.one, among_one ks f g id i h true same)

-- the object with an `@id` stands at the position that is found by it
pub object_numbered : (ks : List Kept) (f : Family) (id : List ℕ) → option_and_then (slice_get (those_of f ks)) (number_among ks f id) ≡ object_among ks f id
object_numbered ks f id = at (number_of_id ks id) refl
  where
    at : (o : Option (Family × ℕ)) → number_of_id ks id ≡ o
        → option_and_then (slice_get (those_of f ks)) (option_and_then (λ n. cond (family_number n.0 == family_number f) (Some n.1) None) o)
        ≡ object_among ks f id
    at None is = sym (with_id_none ks f id is)
    at (Some n) is =
        cond_both (family_number n.0 == family_number f) (Some n.1) None (λ o. option_and_then (slice_get (those_of f ks)) o ≡ object_among ks f id)
        (λ same. with_id_of_family ks f n.0 id n.1 is same) (λ other. sym (with_id_of_other ks f n.0 id n.1 is other))

-- ---- elections stand in the order of their positions, and no two of a report without faults of identity have one key

module _ (π : Preference) (t : Data) where
  elections_apart : AreApart (map (located_election π (has_several t)) (elections t))
  elections_apart = subst AreApart (elections_picked π t) (IsStrictlySortedBy-filter apart is_election (all_located π t) (all_parted π t))

  -- the election at a lesser position stands earlier
  elections_before : (i j : ℕ) (d e : Placed) → slice_get (elections t) i ≡ Some d → slice_get (elections t) j ≡ Some e → i < j → IsBefore d e
  elections_before i j d e at there less =
      let one = located_election π (has_several t) in
      let here = λ (k : ℕ) (o : Placed) (is : slice_get (elections t) k ≡ Some o). slice_get-map one (elections t) k ∙ ap (option_map one) is in
      before_apart (one d) (one e) (sorted_at apart (map one (elections t)) i j (one d) (one e) elections_apart less (here i d at) (here j e there))

  two_keys : (none : NoneOf (IdentityFault π t)) (i j : ℕ) (d e : Placed) (k : Key) → slice_get (elections t) i ≡ Some d
      → slice_get (elections t) j ≡ Some e → i < j → key_of π d.value ≡ Some k → key_of π e.value ≡ Some k → ⊥
  two_keys none i j d e k at there less mine its = none e.place TwinIdentifier
      (repeats_key π t role.Election e d k refl (contains_from_In e (elections t) (in_at (elections t) j e there))
      (contains_from_In d (elections t) (in_at (elections t) i d at)) (elections_before i j d e at there less) its mine)

  -- elections with one key stand at one position
  pub one_election_key : NoneOf (IdentityFault π t) → (i j : ℕ) (d e : Placed) (k : Key) → slice_get (elections t) i ≡ Some d
      → slice_get (elections t) j ≡ Some e → key_of π d.value ≡ Some k → key_of π e.value ≡ Some k → i ≡ j
  one_election_key none i j d e k at there mine its = elim (cases_order i j) [
    | inl same ↦ same
    | inr (inl l) ↦ absurd (two_keys none i j d e k at there l mine its)
    | inr (inr l) ↦ absurd (two_keys none j i e d k there at l its mine)
  ]
