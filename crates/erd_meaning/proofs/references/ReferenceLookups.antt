-- What is looked up among the objects that are kept is what `@id` texts name, and whether a selection is of another contest.
use Rattle.erd_meaning.proofs.Common.{◌≡◌, ℕ, Bool, true, false, cond, ◌&&◌, List, [], ◌∷◌, is_some, Some, None, filter, Option, option_map, find, bytes_eq}
use Rattle.erd_meaning.proofs.Common.{sym, refl, ap, ◌∙◌, inl, inr, and_from, bytes_eq-Decides, both_ways, list_any, option_map_or, Data, families}
use Rattle.erd_meaning.proofs.Common.{family_number, Family, family, In, any_at, In-any, NoneOf, Preference, IdentityFault, Placed, objects, id_of, has_id}
use Rattle.erd_meaning.proofs.Common.{owner, is_owned, is_of_family, keeps_id, Kept, kept_objects, same_id, is_known, owner_among, and-false, cases_Bool, zero}
use Rattle.erd_meaning.proofs.Common.{suc, ◌+◌, not, ◌⊎◌, map, ◌==◌, slice_get, codes, option_and_then, subst, ap₂, arith, Decides-eqb, same_Some}
use Rattle.erd_meaning.proofs.Common.{slice_get-map, enumerate_from, In-map, In-map_from, In-flat_map, text_at, is_selection_in, is_in_other_contest, id_in}
use Rattle.erd_meaning.proofs.Common.{FindsId, contests, selections_of_contest, numbered_selections_of, numbered_selections, owner_at, number_of_id}
use Rattle.erd_meaning.proofs.Common.{contests_before, is_in_contest, number_among, is_elsewhere, in_at, position_of}
use Rattle.erd_meaning.proofs.finding.OneObject.{kept_of, those_kept, among_first, one_id, with_part, owner_elsewhere, owner_here, owner_nowhere}
use Rattle.erd_meaning.proofs.identity.ObjectFamilies.{itself, family_exact}
use Rattle.erd_meaning.proofs.accepted.Standing.{values-placed_entries, has_id-from, has_id-Some}
use Rattle.erd_meaning.proofs.finding.Found.{finds_kept_id}
use Rattle.erd_meaning.proofs.selections.NamesTold.{Numbered, numbered_at, of_its_contest}
use Rattle.erd_meaning.proofs.selections.ContestSelections.{contests_counted_in}

-- ---- families

every_family : (f : Family) → In f families
every_family family.Unit = inl refl
every_family family.Party = inr (inl refl)
every_family family.Person = inr (inr (inl refl))
every_family family.Office = inr (inr (inr (inl refl)))
every_family family.Header = inr (inr (inr (inr (inl refl))))
every_family family.Candidate = inr (inr (inr (inr (inr (inl refl)))))
every_family family.Contest = inr (inr (inr (inr (inr (inr (inl refl))))))
every_family family.Style = inr (inr (inr (inr (inr (inr (inr (inl refl)))))))
every_family family.Selection = inr (inr (inr (inr (inr (inr (inr (inr (inl refl))))))))

-- ---- tests and searches

pub text_same : (a b : List ℕ) → bytes_eq a b ≡ bytes_eq b a
text_same a b =
    both_ways (bytes_eq a b) (bytes_eq b a) (λ h. (bytes_eq-Decides b a).1 (sym ((bytes_eq-Decides a b).0 h)))
    (λ h. (bytes_eq-Decides a b).1 (sym ((bytes_eq-Decides b a).0 h)))

pub find_both : {A : Type 0} (p q : A → Bool) (xs : List A) → find (λ x. p x && q x) xs ≡ find q (filter p xs)
find_both p q [] = refl
find_both p q (x ∷ xs) = elim (cases_Bool (p x)) [ inl is ↦ rw is (ap (cond (q x) (Some x)) (find_both p q xs)) | inr is ↦ rw is (find_both p q xs) ]

found_some : {A B : Type 0} (g : A → B) (p : A → Bool) (x : A) (xs : List A) → In x xs → p x ≡ true → is_some (option_map g (find p xs)) ≡ true
found_some g p x [] i h = absurd i
found_some g p x (y ∷ ys) (inl e) h = rw (ap p e ∙ h)
found_some g p x (y ∷ ys) (inr t) h = elim (cases_Bool (p y)) [ inl is ↦ rw is refl | inr is ↦ rw is (found_some g p x ys t h) ]

found_any : {A B : Type 0} (g : A → B) (q p : A → Bool) (xs : List A) → is_some (option_map g (find (λ x. q x && p x) xs)) ≡ true → list_any p xs ≡ true
found_any g q p [] h = cc
found_any g q p (x ∷ xs) h = elim (cases_Bool (p x)) [ inl is ↦ rw is refl | inr is ↦ rw is (found_any g q p xs (rw (is, and-false (q x)) at h)) ]

-- ---- the object of a family

-- the first object of a family with the `@id`
abbrev first_owner : List Kept → Family → List ℕ → Option Data
first_owner ks f id = option_map (λ k. k.value) (find (λ k. is_of_family f k && keeps_id id k) ks)

pub named_same : (id : List ℕ) (o : Option (List ℕ)) → same_id o (Some id) ≡ option_map_or (bytes_eq id) o false
named_same id None = refl
named_same id (Some a) = text_same a id

find_kept : (π : Preference) (f : Family) (id : List ℕ) (os : List Placed) → option_map (λ k. k.value) (find (keeps_id id) (kept_of π f os))
    ≡ option_map (λ o. o.value) (find (λ o. has_id id o.value) os)
find_kept π f id [] = refl
find_kept π f id (o ∷ os) =
    rw (named_same id (id_of o.value)) (elim (cases_Bool (has_id id o.value)) [ inl is ↦ rw is refl | inr is ↦ rw is (find_kept π f id os) ])

first_owner_same : (π : Preference) (t : Data) (f : Family) (id : List ℕ) → first_owner (kept_objects π t) f id ≡ owner t f id
first_owner_same π t f id =
    ap (option_map (λ (k : Kept). k.value)) (find_both (is_of_family f) (keeps_id id) (kept_objects π t) ∙ ap (find (keeps_id id)) (those_kept π f t))
    ∙ find_kept π f id (objects f t)

pub owner_same : (π : Preference) (t : Data) (f : Family) (id : List ℕ) → NoneOf (IdentityFault π t) → owner_among (kept_objects π t) f id ≡ owner t f id
owner_same π t f id none = ap (option_map (λ (k : Kept). k.value)) (among_first π t f id none) ∙ first_owner_same π t f id

-- ---- an object of any family

from_known : (π : Preference) (t : Data) (id : List ℕ) → is_known (kept_objects π t) id ≡ true → is_owned t id ≡ true
from_known π t id h =
    let x = In-any (keeps_id id) (kept_objects π t) h in
    let f = x.0.family in
    let passes : is_of_family f x.0 && keeps_id id x.0 ≡ true = and_from (is_of_family f x.0) (keeps_id id x.0) (itself (family_number f)) x.2 in
    let found : is_some (first_owner (kept_objects π t) f id) ≡ true =
    found_some (λ (k : Kept). k.value) (λ k. is_of_family f k && keeps_id id k) x.0 (kept_objects π t) x.1 passes in
    any_at (λ f. is_some (owner t f id)) f families (every_family f) (ap is_some (sym (first_owner_same π t f id)) ∙ found)

to_known : (π : Preference) (t : Data) (id : List ℕ) → is_owned t id ≡ true → is_known (kept_objects π t) id ≡ true
to_known π t id h =
    let x = In-any (λ f. is_some (owner t f id)) families h in
    found_any (λ (k : Kept). k.value) (is_of_family x.0) (keeps_id id) (kept_objects π t) (ap is_some (first_owner_same π t x.0 id) ∙ x.2)

pub known_same : (π : Preference) (t : Data) (id : List ℕ) → is_known (kept_objects π t) id ≡ is_owned t id
known_same π t id = both_ways (is_known (kept_objects π t) id) (is_owned t id) (from_known π t id) (to_known π t id)

-- ---- the selections of a contest

chosen_values : (contest : Placed) (id : List ℕ) → is_selection_in contest.value id ≡ list_any (has_id id) (map (λ o. o.value) (selections_of_contest contest))
chosen_values contest id = ap (list_any (has_id id)) (sym (values-placed_entries (codes "ContestSelection") contest))

-- a selection with the `@id` is in the contest
to_chosen : (contest o : Placed) (id : List ℕ) → In o (selections_of_contest contest) → id_of o.value ≡ Some id → is_selection_in contest.value id ≡ true
to_chosen contest o id i e =
    chosen_values contest id
    ∙ any_at (has_id id) o.value (map (λ o. o.value) (selections_of_contest contest)) (In-map (λ (o : Placed). o.value) o (selections_of_contest contest) i)
    (has_id-from id o.value e)

from_chosen : (contest : Placed) (id : List ℕ) → is_selection_in contest.value id ≡ true → (o : Placed) × In o (selections_of_contest contest)
    × (id_of o.value ≡ Some id)
from_chosen contest id h =
    let d = In-any (has_id id) (map (λ o. o.value) (selections_of_contest contest)) (sym (chosen_values contest id) ∙ h) in
    let image = In-map_from (λ (o : Placed). o.value) (selections_of_contest contest) d.0 d.1 in
    (image.0, image.1, ap id_of image.2 ∙ has_id-Some id d.0 d.2)

-- ---- the number of the contest

numbered_inside : {A : Type 0} (k c : ℕ) (x : A) (xs : List A) → slice_get xs c ≡ Some x → In {A = ℕ × A} (k + c, x) (enumerate_from k xs)
numbered_inside k c x [] e = cc
numbered_inside {A} k zero x (y ∷ xs) e =
    let same : y ≡ x = cc in
    let none : k ≡ k + 0 = omega arith in inl (ap₂ (λ n z. (n, z)) none same)
numbered_inside {A} k (suc c) x (y ∷ xs) e =
    let next : k + 1 + c ≡ k + suc c = omega arith in
    inr (subst (λ n. In {A = ℕ × A} (n, x) (enumerate_from (k + 1) xs)) next (numbered_inside (k + 1) c x xs e))

-- a selection of the contest at a position has its number
with_its_number : (t : Data) (c : ℕ) (contest o : Placed) → slice_get (contests t) c ≡ Some contest → In o (selections_of_contest contest)
    → In {A = Numbered} (c, o) (numbered_selections t)
with_its_number t c contest o e i =
    let none : 0 + c ≡ c = omega arith in
    In-flat_map {A = Numbered} {B = Numbered} numbered_selections_of (c, o) (c, contest) (enumerate_from 0 (contests t))
    (subst (λ n. In {A = Numbered} (n, contest) (enumerate_from 0 (contests t))) none (numbered_inside 0 c contest (contests t) e))
    (In-map {B = Numbered} (λ p. (c, p)) o (selections_of_contest contest) i)

-- the selection at a position, with the number of its contest
record SelectionAt (t : Data) (s : ℕ) (id : List ℕ) : Type 0 where
  one : Numbered
  at : slice_get (numbered_selections t) s ≡ Some one
  named : id_of one.1.value ≡ Some id

selection_at : (t : Data) (s : ℕ) (id : List ℕ) → id_in family.Selection t s ≡ Some id → SelectionAt t s id
selection_at t s id e = from (slice_get (numbered_selections t) s) refl (numbered_at t s)
  where
    from : (o : Option Numbered) → slice_get (numbered_selections t) s ≡ o → option_map (λ (x : Numbered). x.1) (slice_get (numbered_selections t) s)
        ≡ slice_get (objects family.Selection t) s → SelectionAt t s id
    from None is placed =
        let none : slice_get (objects family.Selection t) s ≡ None = sym placed ∙ ap (option_map (λ (x : Numbered). x.1)) is in
        let h : None ≡ Some id = sym (ap (option_and_then (λ (o : Placed). id_of o.value)) none) ∙ e in cc
    from (Some x) is placed =
        let there : slice_get (objects family.Selection t) s ≡ Some x.1 = sym placed ∙ ap (option_map (λ (x : Numbered). x.1)) is in
        record { one = x; at = is; named = sym (ap (option_and_then (λ (o : Placed). id_of o.value)) there) ∙ e }

module _ (π : Preference) (t : Data) (id : List ℕ) (none : NoneOf (IdentityFault π t)) where
  -- the number of the contest is that of each contest in which the `@id` is found
  one_number : (s c : ℕ) (contest : Placed) (x : SelectionAt t s id) → id_in family.Selection t s ≡ Some id → slice_get (contests t) c ≡ Some contest
      → is_selection_in contest.value id ≡ true → x.one.0 ≡ c
  one_number s c contest x e is h =
      let o = from_chosen contest id h in
      let place = position_of {A = Numbered} (numbered_selections t) (c, o.0) (with_its_number t c contest o.0 is o.1) in
      let there : id_in family.Selection t place.0 ≡ Some id =
      ap (option_and_then (λ (o : Placed). id_of o.value)) (sym (numbered_at t place.0) ∙ ap (option_map (λ (x : Numbered). x.1)) place.1) ∙ o.2 in
      let same : s ≡ place.0 = (one_id π t id family.Selection family.Selection s place.0 none e there).1 in
      ap (λ (y : Numbered). y.0) (same_Some {A = Numbered} x.one (c, o.0) (sym x.at ∙ ap (slice_get (numbered_selections t)) same ∙ place.1))

  -- it is that of this contest if and only if the contest has the `@id`
  number_decides : (s c : ℕ) (contest : Placed) (x : SelectionAt t s id) → id_in family.Selection t s ≡ Some id → slice_get (contests t) c ≡ Some contest
      → (x.one.0 + 1 == c + 1) ≡ is_selection_in contest.value id
  number_decides s c contest x e is = both_ways (x.one.0 + 1 == c + 1) (is_selection_in contest.value id) to from
    where
      to : (x.one.0 + 1 == c + 1) ≡ true → is_selection_in contest.value id ≡ true
      to h =
          let next : x.one.0 + 1 ≡ c + 1 = (Decides-eqb (x.one.0 + 1) (c + 1)).0 h in
          let number : x.one.0 ≡ c = omega arith in
          let own = of_its_contest t x.one (in_at {A = Numbered} (numbered_selections t) s x.one x.at) in
          let same : own.contest ≡ contest = same_Some own.contest contest (sym own.at ∙ ap (slice_get (contests t)) number ∙ is) in
          to_chosen contest x.one.1 id (subst (λ (o : Placed). In x.one.1 (selections_of_contest o)) same own.inside) x.named

      from : is_selection_in contest.value id ≡ true → (x.one.0 + 1 == c + 1) ≡ true
      from h = (Decides-eqb (x.one.0 + 1) (c + 1)).1 (ap (λ n. n + 1) (one_number s c contest x e is h))

  number_of_contest : (s c : ℕ) (contest : Placed) → id_in family.Selection t s ≡ Some id → slice_get (contests t) c ≡ Some contest
      → is_in_contest (kept_objects π t) c s ≡ is_selection_in contest.value id
  number_of_contest s c contest e is =
      let x = selection_at t s id e in
      let counted : slice_get (contests_before 0 (kept_objects π t)) s ≡ Some (x.one.0 + 1) =
      ap (λ ns. slice_get ns s) (contests_counted_in π t) ∙ slice_get-map {A = Numbered} (λ y. y.0 + 1) (numbered_selections t) s
      ∙ ap (option_map (λ (y : Numbered). y.0 + 1)) x.at in
      ap (λ (o : Option ℕ). option_map_or (λ n. n == c + 1) o false) counted ∙ number_decides s c contest x e is

-- ---- what is looked up

-- an `@id` is of no object of the family, or it is of the object at a position
abbrev Looked : Preference → Data → Family → List ℕ → Type 0
Looked π t f id =
    ((number_among (kept_objects π t) f id ≡ None) × (owner_at t f id ≡ None))
    ⊎ ((i : ℕ) × (number_among (kept_objects π t) f id ≡ Some i) × (id_in f t i ≡ Some id) × (owner_at t f id ≡ slice_get (objects f t) i))

-- what is found, if it is of the family
abbrev if_among : Family → Family × ℕ → Option ℕ
if_among f n = cond (family_number n.0 == family_number f) (Some n.1) None

looked : (π : Preference) (t : Data) (f : Family) (id : List ℕ) → NoneOf (IdentityFault π t) → Looked π t f id
looked π t f id none = at (number_of_id (kept_objects π t) id) refl (finds_kept_id π t id none)
  where
    by : (n : Family × ℕ) → number_of_id (kept_objects π t) id ≡ Some n → FindsId t id (Some (n.0, n.1)) → (b : Bool)
        → (family_number n.0 == family_number f) ≡ b → Looked π t f id
    by n is finds true same = inr (
      n.1,
      ap (option_and_then (if_among f)) is ∙ ap (λ b. cond b (Some n.1) None) same,
      (finds f n.1).0 (ap (λ (g : Family). Some (g, n.1)) (family_exact n.0 f same)),
      owner_here t f id n.0 n.1 finds same,
    )
    by n is finds false other = inl (ap (option_and_then (if_among f)) is ∙ ap (λ b. cond b (Some n.1) None) other, owner_elsewhere t f id n.0 n.1 finds other)

    at : (o : Option (Family × ℕ)) → number_of_id (kept_objects π t) id ≡ o → FindsId t id (number_of_id (kept_objects π t) id) → Looked π t f id
    at None is finds = inl (ap (option_and_then (if_among f)) is, owner_nowhere t f id (subst (FindsId t id) is finds))
    at (Some n) is finds = by n is (subst (FindsId t id) is finds) (family_number n.0 == family_number f) refl

-- ---- what is told

-- what is told where the selection is found
abbrev told_by_number : Preference → Data → List ℕ → ℕ → Bool
told_by_number π t cid s = option_map_or (λ c. not (is_in_contest (kept_objects π t) c s)) (number_among (kept_objects π t) family.Contest cid) false

abbrev told_by_contest : Data → List ℕ → List ℕ → Bool
told_by_contest t cid id = option_map_or (λ contest. not (is_selection_in contest id)) (owner t family.Contest cid) false

told_same : (π : Preference) (t : Data) (cid id : List ℕ) (s : ℕ) → NoneOf (IdentityFault π t) → id_in family.Selection t s ≡ Some id → told_by_number π t cid s
    ≡ told_by_contest t cid id
told_same π t cid id s none e = elim (looked π t family.Contest cid none) [
  | inl missing ↦
      ap (λ (o : Option ℕ). option_map_or (λ c. not (is_in_contest (kept_objects π t) c s)) o false) missing.0
      ∙ sym (ap (λ (o : Option Placed). option_map_or (λ contest. not (is_selection_in contest id)) (option_map (λ (o : Placed). o.value) o) false) missing.1)
  | inr found ↦
      let b = with_part (λ o. id_of o.value) family.Contest t found.0 cid found.2 in
      ap (λ (o : Option ℕ). option_map_or (λ c. not (is_in_contest (kept_objects π t) c s)) o false) found.1
      ∙ ap not (number_of_contest π t id none s found.0 b.0.one e b.0.at)
      ∙ sym (ap (λ (o : Option Placed). option_map_or (λ contest. not (is_selection_in contest id)) (option_map (λ (o : Placed). o.value) o) false)
      (found.3 ∙ b.0.at))
]

pub elsewhere_same : (π : Preference) (t u : Data) (id : List ℕ) → NoneOf (IdentityFault π t) → is_elsewhere (kept_objects π t) u id
    ≡ is_in_other_contest t u id
elsewhere_same π t u id none =
    let cid = text_at (codes "ContestId") u in
    elim (looked π t family.Selection id none) [
      | inl missing ↦
          ap (λ (o : Option ℕ). option_map_or (told_by_number π t cid) o false) missing.0
          ∙ sym (ap (λ (o : Option Placed). is_some (option_map (λ (o : Placed). o.value) o) && told_by_contest t cid id) missing.1)
      | inr found ↦
          let a = with_part (λ o. id_of o.value) family.Selection t found.0 id found.2 in
          ap (λ (o : Option ℕ). option_map_or (told_by_number π t cid) o false) found.1 ∙ told_same π t cid id found.0 none found.2
          ∙ sym (ap (λ (o : Option Placed). is_some (option_map (λ (o : Placed). o.value) o) && told_by_contest t cid id) (found.3 ∙ a.0.at))
    ]
