-- What names an object names one object: its family and position, its key in its family, its `@id` in the report.
use Rattle.erd_meaning.proofs.Common.{◌≡◌, ℕ, zero, suc, ◌+◌, ◌<◌, Bool, true, ◌⊎◌, List, [], ◌∷◌, length, slice_get, Some, None, Option, option_map, position}
use Rattle.erd_meaning.proofs.Common.{option_and_then, Ordering, Less, sym, refl, ap, ◌∙◌, subst, inl, inr, arith, cases_order, position_from-zero}
use Rattle.erd_meaning.proofs.Common.{slice_get-map, position_from, IsStrictlySortedBy, Data, place_cmp, Family, role, DuplicateId, TwinIdentifier, In}
use Rattle.erd_meaning.proofs.Common.{contains_from_In, In-all, IsStrictlySortedBy-filter, NoneOf, Preference, key_of_family_object, IdentityFault, key_in}
use Rattle.erd_meaning.proofs.Common.{id_in, Placed, objects, id_of, Met, an_object, an_election, Located, located_one, located, all_located, Key, cases_Bool}
use Rattle.erd_meaning.proofs.Common.{and_then-Some, ◌^◌, ◌≤◌, false, cond, map, count_by, length-map, view, Value, IsBounded, rank, is_of_family, those_of}
use Rattle.erd_meaning.proofs.Common.{Kept, objects_among, kept_objects, IsResolved, NumberedName, shown, Object, ◌&&◌, ◌==◌, find, family_number}
use Rattle.erd_meaning.proofs.Common.{In-filter_kept, keeps_id, object_among, and_left, and_right, true≢false, some_pair_parts, position_of, FindsId, has_id}
use Rattle.erd_meaning.proofs.Common.{owner_at, kept, any_at, in_at}
use Rattle.erd_meaning.proofs.identity.IdentityFaults.{kept_keyed, repeats_key, repeats_id, same_id_from}
use Rattle.erd_meaning.proofs.identity.ObjectFamilies.{is_met, is_of, objects_met, is_object_of, pick, itself, family_exact}
use Rattle.erd_meaning.proofs.identity.ObjectPlaces.{AreApart, all_parted, apart, id_place}
use Rattle.erd_meaning.proofs.identity.ToldFaults.{before_apart, less_itself}
use Rattle.std.proofs.lemmas.List.Sums.{count_by-le-length, length-filter}
use Rattle.erd_meaning.proofs.accepted.Standing.{find-any, find-Some, has_id-from, has_id-Some}

-- ---- positions in lists

-- what stands at a position of a list
pub at_low : {A : Type 0} (xs : List A) (i : ℕ) → i < length xs → (x : A) × (slice_get xs i ≡ Some x)
at_low [] i low = absurd (omega arith)
at_low (y ∷ xs) zero low = (y, refl)
at_low (y ∷ xs) (suc i) low = at_low xs i (omega arith)

pub sorted_at : {A : Type 0} (cmp : A → A → Ordering) (xs : List A) (i j : ℕ) (x y : A) → IsStrictlySortedBy cmp xs → i < j
    → slice_get xs i ≡ Some x → slice_get xs j ≡ Some y → cmp x y ≡ Less
unfolding IsStrictlySortedBy
sorted_at cmp [] i j x y s l a b = cc
sorted_at cmp (z ∷ xs) i zero x y s l a b = absurd (omega arith)
sorted_at cmp (z ∷ xs) zero (suc j) x y s l a b =
    let same : z ≡ x = cc in
    subst (λ w. cmp w y ≡ Less) same (In-all (λ w. cmp z w ≡ Less) y xs s.0 (in_at xs j y b))
sorted_at cmp (z ∷ xs) (suc i) (suc j) x y s l a b = sorted_at cmp xs i j x y s.1 (omega arith) a b

-- two elements of a list in order are one, or in order
either_way : {A : Type 0} (cmp : A → A → Ordering) (xs : List A) (x y : A) → IsStrictlySortedBy cmp xs → In x xs → In y xs
    → (x ≡ y) ⊎ ((cmp x y ≡ Less) ⊎ (cmp y x ≡ Less))
unfolding IsStrictlySortedBy
either_way cmp [] x y s i j = absurd i
either_way cmp (z ∷ xs) x y s (inl a) (inl b) = inl (sym a ∙ b)
either_way cmp (z ∷ xs) x y s (inl a) (inr j) = inr (inl (subst (λ w. cmp w y ≡ Less) a (In-all (λ w. cmp z w ≡ Less) y xs s.0 j)))
either_way cmp (z ∷ xs) x y s (inr i) (inl b) = inr (inr (subst (λ w. cmp w x ≡ Less) b (In-all (λ w. cmp z w ≡ Less) x xs s.0 i)))
either_way cmp (z ∷ xs) x y s (inr i) (inr j) = either_way cmp xs x y s.1 i j

-- ---- objects of one family

-- the object of a family at a position
pub record ObjectIn (f : Family) (t : Data) (i : ℕ) : Type 0 where
  pub one : Placed
  pub at : slice_get (objects f t) i ≡ Some one

pub with_part : {A : Type 0} (g : Placed → Option A) (f : Family) (t : Data) (i : ℕ) (a : A) → option_and_then g (slice_get (objects f t) i) ≡ Some a
    → (o : ObjectIn f t i) × (g o.one ≡ Some a)
with_part g f t i a e = let r = and_then-Some g (slice_get (objects f t) i) a e in (record { one = r.0; at = r.1 }, r.2)

pub object_in : (f : Family) (t : Data) (i : ℕ) (o : ObjectIn f t i) → In o.one (objects f t)
object_in f t i o = in_at (objects f t) i o.one o.at

pub family_apart : (π : Preference) (f : Family) (t : Data) → AreApart (located π f (objects f t))
family_apart π f t = subst AreApart (objects_met π f t) (IsStrictlySortedBy-filter apart (is_of f) (all_located π t) (all_parted π t))

located_at : (π : Preference) (f : Family) (t : Data) (i : ℕ) (o : ObjectIn f t i) → slice_get (located π f (objects f t)) i ≡ Some (located_one π f o.one)
located_at π f t i o = slice_get-map (located_one π f) (objects f t) i ∙ ap (option_map (located_one π f)) o.at

before_in : (π : Preference) (f : Family) (t : Data) (i j : ℕ) (a : ObjectIn f t i) (b : ObjectIn f t j) → i < j → place_cmp a.one.place b.one.place ≡ Less
before_in π f t i j a b l =
    before_apart (located_one π f a.one) (located_one π f b.one)
    (sorted_at apart (located π f (objects f t)) i j (located_one π f a.one) (located_one π f b.one) (family_apart π f t) l (located_at π f t i a)
    (located_at π f t j b))

-- ---- one key

two_keys : (π : Preference) (t : Data) (f : Family) (key : Key) (i j : ℕ) (a : ObjectIn f t i) (b : ObjectIn f t j) → NoneOf (IdentityFault π t) → i < j
    → key_of_family_object π f a.one.value ≡ Some key → key_of_family_object π f b.one.value ≡ Some key → ⊥
two_keys π t f key i j a b none l e g =
    let mine = kept_keyed π f a.one.value key e in
    let its = kept_keyed π f b.one.value key g in
    none b.one.place TwinIdentifier (repeats_key π t (role.OfFamily f) b.one a.one key mine.0 (contains_from_In b.one (objects f t) (object_in f t j b))
    (contains_from_In a.one (objects f t) (object_in f t i a))
    (before_in π f t i j a b l) its.1 mine.1)

pub one_key : (π : Preference) (t : Data) (f : Family) (key : Key) (i j : ℕ) → NoneOf (IdentityFault π t) → key_in π f t i ≡ Some key
    → key_in π f t j ≡ Some key → i ≡ j
one_key π t f key i j none e g =
    let a = with_part (λ o. key_of_family_object π f o.value) f t i key e in
    let b = with_part (λ o. key_of_family_object π f o.value) f t j key g in
    elim (cases_order i j) [
      | inl same ↦ same
      | inr (inl l) ↦ absurd (two_keys π t f key i j a.0 b.0 none l a.1 b.1)
      | inr (inr l) ↦ absurd (two_keys π t f key j i b.0 a.0 none l b.1 a.1)
    ]

-- ---- one `@id`

two_ids : (π : Preference) (t : Data) (id : List ℕ) (f g : Family) (i j : ℕ) (a : ObjectIn f t i) (b : ObjectIn g t j) → NoneOf (IdentityFault π t)
    → apart (located_one π f a.one) (located_one π g b.one) ≡ Less → id_of a.one.value ≡ Some id → id_of b.one.value ≡ Some id → ⊥
two_ids π t id f g i j a b none l d e =
    none (id_place b.one.place) DuplicateId (repeats_id t g f b.one a.one id (contains_from_In b.one (objects g t) (object_in g t j b))
    (contains_from_In a.one (objects f t) (object_in f t i a))
    (before_apart (located_one π f a.one) (located_one π g b.one) l) e d)

same_position : (π : Preference) (t : Data) (f : Family) (i j : ℕ) (a : ObjectIn f t i) (b : ObjectIn f t j) → a.one.place ≡ b.one.place → i ≡ j
same_position π t f i j a b e = elim (cases_order i j) [
  | inl same ↦ same
  | inr (inl l) ↦ absurd (less_itself b.one.place (subst (λ p. place_cmp p b.one.place ≡ Less) e (before_in π f t i j a b l)))
  | inr (inr l) ↦ absurd (less_itself b.one.place (subst (λ p. place_cmp b.one.place p ≡ Less) e (before_in π f t j i b a l)))
]

-- the family of an object that is met
family_met : Family → Met → Family
family_met f (an_object k) = k.family
family_met f (an_election needed key) = f

one_object : (π : Preference) (t : Data) (f g : Family) (i j : ℕ) (a : ObjectIn f t i) (b : ObjectIn g t j) → located_one π f a.one
    ≡ located_one π g b.one → (f ≡ g) × (i ≡ j)
unfolding family_met
one_object π t f g i j a b e =
    let family : f ≡ g = ap (λ (x : Located). family_met f x.met) e in
    let place : a.one.place ≡ b.one.place = ap (λ (x : Located). x.place) e in
    let there : slice_get (objects f t) j ≡ Some b.one = subst (λ h. slice_get (objects h t) j ≡ Some b.one) (sym family) b.at in
    (family, same_position π t f i j a (record { one = b.one; at = there }) place)

pub one_id : (π : Preference) (t : Data) (id : List ℕ) (f g : Family) (i j : ℕ) → NoneOf (IdentityFault π t) → id_in f t i ≡ Some id → id_in g t j
    ≡ Some id → (f ≡ g) × (i ≡ j)
one_id π t id f g i j none d e =
    let a = with_part (λ o. id_of o.value) f t i id d in
    let b = with_part (λ o. id_of o.value) g t j id e in
    let x = located_one π f a.0.one in
    let y = located_one π g b.0.one in
    elim (either_way apart (all_located π t) x y (all_parted π t) (is_met π t f a.0.one (object_in f t i a.0)) (is_met π t g b.0.one (object_in g t j b.0))) [
      | inl same ↦ (one_object π) t f g i j a.0 b.0 same
      | inr (inl l) ↦ absurd (two_ids π t id f g i j a.0 b.0 none l a.1 b.1)
      | inr (inr l) ↦ absurd (two_ids π t id g f j i b.0 a.0 none l b.1 a.1)
    ]

-- ---- the first that passes a test

-- a place at which an element passes
pub record Hit {A : Type 0} (p : A → Bool) (xs : List A) (n : ℕ) : Type 0 where
  pub one : A
  pub at : slice_get xs n ≡ Some one
  pub passes : p one ≡ true

record HitFrom {A : Type 0} (p : A → Bool) (i : ℕ) (xs : List A) (n : ℕ) : Type 0 where
  after : ℕ
  is : n ≡ i + after
  hit : Hit p xs after

hit_from : {A : Type 0} (p : A → Bool) (i : ℕ) (xs : List A) (n : ℕ) → position_from p i xs ≡ Some n → HitFrom p i xs n
hit_from p i [] n e = cc
hit_from p i (x ∷ xs) n e = elim (cases_Bool (p x)) [
  | inl is ↦ let h : Some i ≡ Some n = rw is at e in let same : i ≡ n = cc in
      record { after = 0; is = omega arith; hit = record { one = x; at = refl; passes = is } }
  | inr is ↦
      let found = hit_from p (i + 1) xs n (rw is at e) in
      let place : n ≡ i + 1 + found.after = found.is in
      record { after = suc found.after; is = omega arith; hit = record { one = found.hit.one; at = found.hit.at; passes = found.hit.passes } }
]

pub hit : {A : Type 0} (p : A → Bool) (xs : List A) (n : ℕ) → position p xs ≡ Some n → Hit p xs n
hit p xs n e =
    let found = hit_from p 0 xs n (sym (position_from-zero p xs) ∙ e) in
    let place : n ≡ 0 + found.after = found.is in
    let same : found.after ≡ n = omega arith in
    subst (Hit p xs) same found.hit

missed_from : {A : Type 0} (p : A → Bool) (i : ℕ) (xs : List A) (x : A) → position_from p i xs ≡ None → In x xs → p x ≡ true → ⊥
missed_from p i [] x e h t = absurd h
missed_from p i (y ∷ xs) x e (inl same) t = let passes : p y ≡ true = ap p same ∙ t in let h : Some i ≡ None = rw passes at e in cc
missed_from p i (y ∷ xs) x e (inr h) t =
    elim (cases_Bool (p y)) [ inl is ↦ (let g : Some i ≡ None = rw is at e in cc) | inr is ↦ missed_from p (i + 1) xs x (rw is at e) h t ]

pub missed : {A : Type 0} (p : A → Bool) (xs : List A) (x : A) → position p xs ≡ None → In x xs → p x ≡ true → ⊥
missed p xs x e h t = missed_from p 0 xs x (sym (position_from-zero p xs) ∙ e) h t

-- ---- objects by family and position: those that are kept of a report, and those of the definition

-- the objects of a family, as they are kept
abbrev pub kept_of : Preference → Family → List Placed → List Kept
kept_of π f os = map (λ o. kept π f o) os

those_located : (f : Family) (xs : List Located) → those_of f (objects_among (map (λ x. x.met) xs)) ≡ objects_among (map (λ x. x.met) (pick f xs))
those_located f [] = refl
those_located f (x ∷ xs) = at x.met (those_located f xs)
  where
    kept : (b : Bool) (k : Kept) (ks : List Kept) (ys : List Located) → ks ≡ objects_among (map (λ x. x.met) ys)
        → cond b (k ∷ ks) ks ≡ objects_among (map (λ x. x.met) (cond b (record { place = x.place; met = an_object k } ∷ ys) ys))
    kept true k ks ys e = ap (λ zs. k ∷ zs) e
    kept false k ks ys e = e

    at : (m : Met) → those_of f (objects_among (map (λ x. x.met) xs)) ≡ objects_among (map (λ x. x.met) (pick f xs))
        → those_of f (objects_among (m ∷ map (λ x. x.met) xs))
        ≡ objects_among (map (λ x. x.met) (cond (is_object_of f m) (record { place = x.place; met = m } ∷ pick f xs) (pick f xs)))
    at (an_object k) e = kept (is_of_family f k) k (those_of f (objects_among (map (λ x. x.met) xs))) (pick f xs) e
    at (an_election needed key) e = e

objects_located : (π : Preference) (f : Family) (os : List Placed) → objects_among (map (λ x. x.met) (located π f os)) ≡ kept_of π f os
objects_located π f [] = refl
objects_located π f (o ∷ os) = ap (λ ks. kept π f o ∷ ks) (objects_located π f os)

pub those_kept : (π : Preference) (f : Family) (t : Data) → those_of f (kept_objects π t) ≡ kept_of π f (objects f t)
those_kept π f t =
    those_located f (all_located π t) ∙ ap (λ (xs : List Located). objects_among (map (λ x. x.met) xs)) (objects_met π f t) ∙ objects_located π f (objects f t)

pub those_shown : (π : Preference) (v : Value) (os : List Object) (ns : List NumberedName) (f : Family) → IsResolved π v os ns → those_of f (map shown os)
    ≡ kept_of π f (objects f (view v))
those_shown π v os ns f r = ap (those_of f) r.kept ∙ those_kept π f (view v)

pub counted : (π : Preference) (v : Value) (os : List Object) (ns : List NumberedName) (f : Family) → IsResolved π v os ns → length (those_of f (map shown os))
    ≡ length (objects f (view v))
counted π v os ns f r = ap length (those_shown π v os ns f r) ∙ length-map (objects f (view v)) (λ (o : Placed). kept π f o)

-- each family has no more objects than the walk over the report meets
pub few_objects : (π : Preference) (t : Data) → length (all_located π t) < 2 ^ 64 → IsBounded t
few_objects π t word = record {
  few = λ f.
      let all = all_located π t in
      let met : length (pick f all) ≡ length (objects f t) = ap length (objects_met π f t) ∙ length-map (objects f t) (located_one π f) in
      let picked : length (pick f all) ≡ count_by (is_of f) all = length-filter (is_of f) all in
      let fewer : count_by (is_of f) all ≤ length all = count_by-le-length (is_of f) all in
      omega arith;
}

-- ---- at a position

kept_get : (π : Preference) {A : Type 0} (g : Kept → Option A) (f : Family) (os : List Placed) (i : ℕ)
    → option_and_then g (slice_get (kept_of π f os) i) ≡ option_and_then (λ o. g (kept π f o)) (slice_get os i)
kept_get π g f [] i = refl
kept_get π g f (o ∷ os) zero = refl
kept_get π g f (o ∷ os) (suc i) = kept_get π g f os i

value_get : (π : Preference) (f : Family) (os : List Placed) (i : ℕ) → option_map (λ k. k.value) (slice_get (kept_of π f os) i)
    ≡ option_map (λ o. o.value) (slice_get os i)
value_get π f [] i = refl
value_get π f (o ∷ os) zero = refl
value_get π f (o ∷ os) (suc i) = value_get π f os i

pub kept_part : (π : Preference) {A : Type 0} (g : Kept → Option A) (f : Family) (t : Data) (i : ℕ)
    → option_and_then g (slice_get (those_of f (kept_objects π t)) i) ≡ option_and_then (λ o. g (kept π f o)) (slice_get (objects f t) i)
kept_part π g f t i = ap (λ (ks : List Kept). option_and_then g (slice_get ks i)) (those_kept π f t) ∙ kept_get π g f (objects f t) i

-- what is known of the object that is kept at a position
pub part_at : (π : Preference) {A : Type 0} (g : Kept → Option A) (v : Value) (os : List Object) (ns : List NumberedName) (f : Family)
    (i : ℕ) → IsResolved π v os ns
    → option_and_then g (slice_get (those_of f (map shown os)) i) ≡ option_and_then (λ o. g (kept π f o)) (slice_get (objects f (view v)) i)
part_at π g v os ns f i r = ap (λ (ks : List Kept). option_and_then g (slice_get (those_of f ks) i)) r.kept ∙ kept_part π g f (view v) i

pub value_at : (π : Preference) (v : Value) (os : List Object) (ns : List NumberedName) (f : Family) (i : ℕ) → IsResolved π v os ns
    → option_map (λ k. k.value) (slice_get (those_of f (map shown os)) i) ≡ option_map (λ o. o.value) (slice_get (objects f (view v)) i)
value_at π v os ns f i r = ap (λ (ks : List Kept). option_map (λ k. k.value) (slice_get ks i)) (those_shown π v os ns f r)
    ∙ value_get π f (objects f (view v)) i

-- ---- the rank of an object in its family

pub ranked : (f : Family) (ks : List Kept) (n : ℕ) (k : Kept) → slice_get ks n ≡ Some k → is_of_family f k ≡ true
    → slice_get (those_of f ks) (rank f ks n) ≡ Some k
ranked f [] n k e t = cc
ranked f (l ∷ ks) zero k e t = let same : l ≡ k = cc in rw same (rw t refl)
ranked f (l ∷ ks) (suc n) k e t = elim (cases_Bool (is_of_family f l)) [ inl is ↦ rw is (ranked f ks n k e t) | inr is ↦ rw is (ranked f ks n k e t) ]

-- ---- lists

none_passes : {A : Type 0} (p : A → Bool) (xs : List A) → ((x : A) → In x xs → p x ≡ false) → find p xs ≡ None
none_passes p [] h = refl
none_passes p (x ∷ xs) h = let first : p x ≡ false = h x (inl refl) in rw first (none_passes p xs (λ y i. h y (inr i)))

-- the objects that pass a test are of one family
abbrev OfOneFamily : (Kept → Bool) → List Kept → Type 0
OfOneFamily p ks = (a b : Kept) → In a ks → In b ks → p a ≡ true → p b ≡ true → a.family ≡ b.family

if_of_family : Family → Kept → Option Kept
if_of_family f k = cond (is_of_family f k) (Some k) None

none_of_family : (f : Family) (p : Kept → Bool) (k : Kept) (ks : List Kept) → OfOneFamily p (k ∷ ks) → p k ≡ true → is_of_family f k ≡ false
    → find (λ j. is_of_family f j && p j) ks ≡ None
none_of_family f p k ks one e other = none_passes (λ j. is_of_family f j && p j) ks (λ j i. elim (cases_Bool (p j)) [
  | inl h ↦ and_left (is_of_family f j) (p j) (ap (λ g. family_number g == family_number f) (one j k (inr i) (inl refl) h e) ∙ other)
  | inr h ↦ and_right (is_of_family f j) (p j) h
])

only_family : (f : Family) (p : Kept → Bool) (ks : List Kept) → OfOneFamily p ks → option_and_then (if_of_family f) (find p ks)
    ≡ find (λ k. is_of_family f k && p k) ks
unfolding if_of_family
only_family f p [] one = refl
only_family f p (k ∷ ks) one = at (p k) refl (is_of_family f k) refl (only_family f p ks (λ a b i j. one a b (inr i) (inr j)))
  where
    at : (b : Bool) → p k ≡ b → (c : Bool) → is_of_family f k ≡ c → option_and_then (if_of_family f) (find p ks) ≡ find (λ k. is_of_family f k && p k) ks
        → option_and_then (if_of_family f) (cond b (Some k) (find p ks)) ≡ cond (c && b) (Some k) (find (λ k. is_of_family f k && p k) ks)
    at true e true h rest = ap (λ b. cond b (Some k) None) h
    at true e false h rest = ap (λ b. cond b (Some k) None) h ∙ sym (none_of_family f p k ks one e h)
    at false e true h rest = rest
    at false e false h rest = rest

-- ---- objects of a report

id_there : (π : Preference) (t : Data) (id : List ℕ) (k : Kept) → In k (kept_objects π t) → keeps_id id k ≡ true → (i : ℕ) × (id_in k.family t i ≡ Some id)
id_there π t id k i h =
    let among = In-filter_kept (is_of_family k.family) k (kept_objects π t) i (itself (family_number k.family)) in
    let place = position_of (those_of k.family (kept_objects π t)) k among in
    let same = same_id_from k.id (Some id) h in
    (place.0, sym (kept_part π (λ j. j.id) k.family t place.0) ∙ ap (option_and_then (λ (j : Kept). j.id)) place.1 ∙ same.1 ∙ sym same.2)

one_family : (π : Preference) (t : Data) (id : List ℕ) → NoneOf (IdentityFault π t) → OfOneFamily (keeps_id id) (kept_objects π t)
one_family π t id none a b i j h k =
    let here = id_there π t id a i h in
    let there = id_there π t id b j k in
    (one_id π t id a.family b.family here.0 there.0 none here.1 there.1).0

pub among_first : (π : Preference) (t : Data) (f : Family) (id : List ℕ) → NoneOf (IdentityFault π t)
    → object_among (kept_objects π t) f id ≡ find (λ k. is_of_family f k && keeps_id id k) (kept_objects π t)
unfolding if_of_family
among_first π t f id none = only_family f (keeps_id id) (kept_objects π t) (one_family π t id none)

-- ---- the object that has the `@id`

module _ (t : Data) (f : Family) (id : List ℕ) where
  -- an object of the family that has the `@id` is found at its position
  position_in : (o : Placed) → In o (objects f t) → has_id id o.value ≡ true → (i : ℕ) × (slice_get (objects f t) i ≡ Some o) × (id_in f t i ≡ Some id)
  position_in o h is =
      let place = position_of (objects f t) o h in
      (place.0, place.1, ap (option_and_then (λ (o : Placed). id_of o.value)) place.1 ∙ has_id-Some id o.value is)

  -- an object of the family is found
  pub owner_here : (g : Family) (i : ℕ) → FindsId t id (Some (g, i)) → (family_number g == family_number f) ≡ true → owner_at t f id ≡ slice_get (objects f t) i
  owner_here g i finds same =
      let one : g ≡ f = family_exact g f same in
      let there : id_in f t i ≡ Some id = (finds f i).0 (ap (λ h. Some (h, i)) one) in
      let o = with_part (λ o. id_of o.value) f t i id there in
      let found = find-any (λ (o : Placed). has_id id o.value) (objects f t)
      (any_at (λ (o : Placed). has_id id o.value) o.0.one (objects f t) (in_at (objects f t) i o.0.one o.0.at) (has_id-from id o.0.one.value o.1)) in
      let place = position_in found.0 found.3 found.2 in
      let parts = some_pair_parts g f i place.0 ((finds f place.0).1 place.2) in
      found.1 ∙ sym (ap (slice_get (objects f t)) parts.1 ∙ place.1)

  -- no object of the family has the `@id`
  unowned : ((i : ℕ) → id_in f t i ≡ Some id → ⊥) → owner_at t f id ≡ None
  unowned none = at (owner_at t f id) refl
    where
      at : (o : Option Placed) → owner_at t f id ≡ o → o ≡ None
      at None e = refl
      at (Some o) e =
          let found = find-Some (λ (o : Placed). has_id id o.value) (objects f t) o e in
          let place = position_in o found.0 found.1 in
          absurd (none place.0 place.2)

  -- an object of another family is found
  pub owner_elsewhere : (g : Family) (i : ℕ) → FindsId t id (Some (g, i)) → (family_number g == family_number f) ≡ false → owner_at t f id ≡ None
  owner_elsewhere g i finds other = unowned (λ j e.
      let parts = some_pair_parts g f i j ((finds f j).1 e) in
      let equal : (family_number g == family_number f) ≡ true = subst (λ h. (family_number g == family_number h) ≡ true) parts.0 (itself (family_number g)) in
      true≢false (sym equal ∙ other))

  -- no object is found
  pub owner_nowhere : FindsId t id None → owner_at t f id ≡ None
  owner_nowhere finds = unowned (λ j e. let none : None ≡ Some (f, j) = (finds f j).1 e in cc)
