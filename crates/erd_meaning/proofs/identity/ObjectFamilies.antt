-- The objects of a family and the elections are those that the walk meets, in the same order.
use Rattle.erd_meaning.proofs.Common.{◌≡◌, ℕ, Bool, true, false, cond, List, [], ◌∷◌, ◌++◌, ◌==◌, Some, codes, filter, Option, find, flat_map, sym, refl, ap}
use Rattle.erd_meaning.proofs.Common.{◌∙◌, subst, ap₂, append-nil, Decides-eqb, filter-append, Data, families, family_number, Family, family, Preference}
use Rattle.erd_meaning.proofs.Common.{Placed, placed_entries, report_of, elections, selections_of_contest, objects, has_keys, has_several, Met, an_object}
use Rattle.erd_meaning.proofs.Common.{an_election, Located, located_one, located, contest_located, election_located, shared_located, all_located}
use Rattle.erd_meaning.proofs.Common.{flat_map-append, fun_ext, map-append, map, key_of, located_election, inside_election, elections_among, all_met}
use Rattle.erd_meaning.proofs.Common.{election_keys, ◌⊎◌, inl, inr, In, In-map, In-map_from, In-filter, In-filter_kept}

-- what is met is an object of the family
abbrev pub is_object_of : Family → Met → Bool
is_object_of f (an_object k) = family_number k.family == family_number f
is_object_of f (an_election needed key) = false

abbrev pub is_of : Family → Located → Bool
is_of f x = is_object_of f x.met

pub itself : (n : ℕ) → (n == n) ≡ true
itself n = (Decides-eqb n n).1 refl

-- those of a list that are of the family
abbrev pub pick : Family → List Located → List Located
pick f xs = filter (is_of f) xs

picked : (π : Preference) (f : Family) (os : List Placed) → pick f (located π f os) ≡ located π f os
picked π f [] = refl
picked π f (o ∷ os) = rw (itself (family_number f)) (ap (λ xs. located_one π f o ∷ xs) (picked π f os))

passed : (π : Preference) (f g : Family) → (family_number g == family_number f) ≡ false → (os : List Placed) → pick f (located π g os) ≡ []
passed π f g e [] = refl
passed π f g e (o ∷ os) = rw e (passed π f g e os)

pick-append : (f : Family) (xs ys us vs : List Located) → pick f xs ≡ us → pick f ys ≡ vs → pick f (xs ++ ys) ≡ us ++ vs
pick-append f xs ys us vs a b = filter-append (is_of f) xs ys ∙ ap₂ ◌++◌ a b

none-flat : (h : Placed → List Placed) → ((o : Placed) → h o ≡ []) → (os : List Placed) → flat_map h os ≡ []
none-flat h none [] = refl
none-flat h none (o ∷ os) = ap₂ ◌++◌ (none o) (none-flat h none os)

each-flat : (xs : List Placed) → flat_map (λ (o : Placed). o ∷ []) xs ≡ xs
each-flat [] = refl
each-flat (x ∷ xs) = ap (λ zs. x ∷ zs) (each-flat xs)

pick-flat : (π : Preference) (f : Family) (h : Placed → List Located) (k : Placed → List Placed)
    → ((o : Placed) → pick f (h o) ≡ located π f (k o)) → (os : List Placed) → pick f (flat_map h os) ≡ located π f (flat_map k os)
pick-flat π f h k each [] = refl
pick-flat π f h k each (o ∷ os) =
    pick-append f (h o) (flat_map h os) (located π f (k o)) (located π f (flat_map k os)) (each o) (pick-flat π f h k each os)
    ∙ sym (map-append (located_one π f) (k o) (flat_map k os))

-- ---- inside a contest, an election, the report

abbrev of_contest : Family → Placed → List Placed
of_contest family.Contest o = o ∷ []
of_contest family.Selection o = selections_of_contest o
of_contest f o = []

in_contest : (π : Preference) (f : Family) (o : Placed) → pick f (contest_located π o) ≡ located π f (of_contest f o)
in_contest π family.Contest o = ap (λ xs. located_one π family.Contest o ∷ xs) (passed π family.Contest family.Selection refl (selections_of_contest o))
in_contest π family.Selection o = picked π family.Selection (selections_of_contest o)
in_contest π d o = passed π d family.Selection refl (selections_of_contest o)

abbrev of_contests : Family → List Placed → List Placed
of_contests f os = flat_map (of_contest f) os

in_contests : (π : Preference) (f : Family) (os : List Placed) → pick f (flat_map (contest_located π) os) ≡ located π f (of_contests f os)
in_contests π f os = pick-flat π f (contest_located π) (of_contest f) (in_contest π f) os

-- ---- arrays of one family

family_numbered : ℕ → Option Family
family_numbered n = find (λ f. family_number f == n) families

own_number : (f : Family) → family_numbered (family_number f) ≡ Some f
unfolding family_numbered
own_number family.Unit = refl
own_number f = refl

pub family_exact : (f g : Family) → (family_number f == family_number g) ≡ true → f ≡ g
family_exact f g e =
    let same : family_number f ≡ family_number g = (Decides-eqb (family_number f) (family_number g)).0 e in
    let found : Some f ≡ Some g = sym (own_number f) ∙ ap family_numbered same ∙ own_number g in
    cc

-- a family that is not that of selections has keys
pub keyed_unless : (f : Family) → (f ≡ family.Selection → ⊥) → has_keys f ≡ true
keyed_unless family.Selection other = absurd (other refl)
keyed_unless f other = refl

-- the entries of an array, where they are of the family
abbrev if_of : Family → Family → List Placed → List Placed
if_of f g os = cond (family_number g == family_number f) os []

pick_at : (π : Preference) (f g : Family) (b : Bool) → (family_number g == family_number f) ≡ b → (os : List Placed) → pick f (located π g os)
    ≡ located π f (cond b os [])
pick_at π f g true e os = subst (λ h. pick f (located π h os) ≡ located π f os) (sym (family_exact g f e)) (picked π f os)
pick_at π f g false e os = passed π f g e os

pick_array : (π : Preference) (f g : Family) (os : List Placed) → pick f (located π g os) ≡ located π f (if_of f g os)
pick_array π f g os = pick_at π f g (family_number g == family_number f) refl os

pick_both : (π : Preference) (f : Family) (xs ys : List Located) (os ps : List Placed) → pick f xs ≡ located π f os → pick f ys ≡ located π f ps
    → pick f (xs ++ ys) ≡ located π f (os ++ ps)
pick_both π f xs ys os ps a b = pick-append f xs ys (located π f os) (located π f ps) a b ∙ sym (map-append (located_one π f) os ps)

-- ---- elections and the report

abbrev of_election : Family → Placed → List Placed
of_election f e =
    if_of f family.Style (placed_entries (codes "BallotStyle") e)
    ++ (if_of f family.Candidate (placed_entries (codes "Candidate") e) ++ of_contests f (placed_entries (codes "Contest") e))

in_election : (π : Preference) (b : Bool) (f : Family) (e : Placed) → pick f (election_located π b e) ≡ located π f (of_election f e)
in_election π b f e =
    let styles = placed_entries (codes "BallotStyle") e in
    let candidates = placed_entries (codes "Candidate") e in
    let all = placed_entries (codes "Contest") e in
    pick_both π f (located π family.Style styles) (located π family.Candidate candidates ++ flat_map (contest_located π) all)
    (if_of f family.Style styles) (if_of f family.Candidate candidates ++ of_contests f all) (pick_array π f family.Style styles)
    (pick_both π f (located π family.Candidate candidates) (flat_map (contest_located π) all) (if_of f family.Candidate candidates) (of_contests f all)
    (pick_array π f family.Candidate candidates) (in_contests π f all))

abbrev of_shared : Family → Placed → List Placed
of_shared f r =
    if_of f family.Unit (placed_entries (codes "GpUnit") r) ++ (if_of f family.Header (placed_entries (codes "Header") r)
    ++ (if_of f family.Office (placed_entries (codes "Office") r)
    ++ (if_of f family.Party (placed_entries (codes "Party") r) ++ if_of f family.Person (placed_entries (codes "Person") r))))

in_shared : (π : Preference) (f : Family) (r : Placed) → pick f (shared_located π r) ≡ located π f (of_shared f r)
in_shared π f r =
    let units = placed_entries (codes "GpUnit") r in
    let headers = placed_entries (codes "Header") r in
    let offices = placed_entries (codes "Office") r in
    let parties = placed_entries (codes "Party") r in
    let persons = placed_entries (codes "Person") r in
    let from_parties = located π family.Party parties ++ located π family.Person persons in
    let from_offices = located π family.Office offices ++ from_parties in
    let from_headers = located π family.Header headers ++ from_offices in
    let parties_on = if_of f family.Party parties ++ if_of f family.Person persons in
    let offices_on = if_of f family.Office offices ++ parties_on in
    let headers_on = if_of f family.Header headers ++ offices_on in
    pick_both π f (located π family.Unit units) from_headers (if_of f family.Unit units) headers_on (pick_array π f family.Unit units)
    (pick_both π f (located π family.Header headers) from_offices (if_of f family.Header headers) offices_on (pick_array π f family.Header headers)
    (pick_both π f (located π family.Office offices) from_parties (if_of f family.Office offices) parties_on (pick_array π f family.Office offices)
    (pick_both π f (located π family.Party parties) (located π family.Person persons) (if_of f family.Party parties) (if_of f family.Person persons)
    (pick_array π f family.Party parties) (pick_array π f family.Person persons))))

no_election : (f : Family) (t : Data) → ((e : Placed) → of_election f e ≡ []) → flat_map (of_election f) (elections t) ≡ []
no_election f t none = none-flat (of_election f) none (elections t)

-- those of the report alone
shared_alone : (f : Family) (t : Data) (os : List Placed) → ((e : Placed) → of_election f e ≡ []) → of_shared f (report_of t) ≡ os
    → flat_map (of_election f) (elections t) ++ of_shared f (report_of t) ≡ os
shared_alone f t os none is = ap (λ xs. xs ++ of_shared f (report_of t)) (no_election f t none) ∙ is

-- those of the elections alone
election_alone : (f : Family) (t : Data) (k : Placed → List Placed) → ((e : Placed) → of_election f e ≡ k e) → of_shared f (report_of t) ≡ []
    → flat_map (of_election f) (elections t) ++ of_shared f (report_of t) ≡ flat_map k (elections t)
election_alone f t k each none =
    ap (λ xs. flat_map (of_election f) (elections t) ++ xs) none ∙ append-nil (flat_map (of_election f) (elections t))
    ∙ ap (λ (h : Placed → List Placed). flat_map h (elections t)) (fun_ext each)

no_contest : (f : Family) → ((o : Placed) → of_contest f o ≡ []) → (e : Placed) → of_contests f (placed_entries (codes "Contest") e) ≡ []
no_contest f none e = none-flat (of_contest f) none (placed_entries (codes "Contest") e)

nested_flat : (h k : Placed → List Placed) (os : List Placed) → flat_map (λ o. flat_map h (k o)) os ≡ flat_map h (flat_map k os)
nested_flat h k [] = refl
nested_flat h k (o ∷ os) = ap (λ xs. flat_map h (k o) ++ xs) (nested_flat h k os) ∙ sym (flat_map-append h (k o) (flat_map k os))

objects_are : (f : Family) (t : Data) → flat_map (of_election f) (elections t) ++ of_shared f (report_of t) ≡ objects f t
objects_are family.Person t = shared_alone family.Person t _ (no_contest family.Person (λ o. refl)) refl
objects_are family.Candidate t =
    election_alone family.Candidate t (placed_entries (codes "Candidate"))
    (λ e. ap (λ xs. placed_entries (codes "Candidate") e ++ xs) (no_contest family.Candidate (λ o. refl) e) ∙ append-nil _) refl
objects_are family.Contest t = election_alone family.Contest t (placed_entries (codes "Contest")) (λ e. each-flat (placed_entries (codes "Contest") e)) refl
objects_are family.Style t =
    election_alone family.Style t (placed_entries (codes "BallotStyle"))
    (λ e. ap (λ xs. placed_entries (codes "BallotStyle") e ++ xs) (no_contest family.Style (λ o. refl) e) ∙ append-nil _) refl
objects_are family.Selection t =
    election_alone family.Selection t (λ e. flat_map selections_of_contest (placed_entries (codes "Contest") e)) (λ e. refl) refl
    ∙ nested_flat selections_of_contest (placed_entries (codes "Contest")) (elections t)
objects_are d t = shared_alone d t _ (no_contest d (λ o. refl)) (append-nil _)

-- the objects of a family, as the walk meets them
pub objects_met : (π : Preference) (f : Family) (t : Data) → pick f (all_located π t) ≡ located π f (objects f t)
objects_met π f t =
    pick_both π f (flat_map (election_located π (has_several t)) (elections t)) (shared_located π (report_of t)) (flat_map (of_election f) (elections t))
    (of_shared f (report_of t))
    (pick-flat π f (election_located π (has_several t)) (of_election f) (in_election π (has_several t) f) (elections t)) (in_shared π f (report_of t))
    ∙ ap (located π f) (objects_are f t)

-- ---- the elections of a report are those that the walk meets, in the same order

-- what is met is an election
abbrev pub is_election_met : Met → Bool
is_election_met (an_object k) = false
is_election_met (an_election needed key) = true

abbrev pub is_election : Located → Bool
is_election x = is_election_met x.met

abbrev pub pick_elections : List Located → List Located
pick_elections xs = filter is_election xs

none_located : (π : Preference) (f : Family) (os : List Placed) → pick_elections (located π f os) ≡ []
none_located π f [] = refl
none_located π f (o ∷ os) = none_located π f os

neither : (xs ys : List Located) → pick_elections xs ≡ [] → pick_elections ys ≡ [] → pick_elections (xs ++ ys) ≡ []
neither xs ys a b = filter-append is_election xs ys ∙ ap₂ ◌++◌ a b

none_in_contests : (π : Preference) (os : List Placed) → pick_elections (flat_map (contest_located π) os) ≡ []
none_in_contests π [] = refl
none_in_contests π (o ∷ os) = neither (contest_located π o) (flat_map (contest_located π) os) (none_located π family.Selection (selections_of_contest o))
    (none_in_contests π os)

none_inside : (π : Preference) (e : Placed) → pick_elections (inside_election π e) ≡ []
none_inside π e =
    neither (located π family.Style (placed_entries (codes "BallotStyle") e)) _ (none_located π family.Style (placed_entries (codes "BallotStyle") e))
    (neither (located π family.Candidate (placed_entries (codes "Candidate") e)) _ (none_located π family.Candidate (placed_entries (codes "Candidate") e))
    (none_in_contests π (placed_entries (codes "Contest") e)))

none_shared : (π : Preference) (r : Placed) → pick_elections (shared_located π r) ≡ []
none_shared π r =
    let none = λ (f : Family) (name : List _). none_located π f (placed_entries name r) in
    neither (located π family.Unit (placed_entries (codes "GpUnit") r)) _ (none family.Unit (codes "GpUnit"))
    (neither (located π family.Header (placed_entries (codes "Header") r)) _ (none family.Header (codes "Header"))
    (neither (located π family.Office (placed_entries (codes "Office") r)) _ (none family.Office (codes "Office"))
    (neither (located π family.Party (placed_entries (codes "Party") r)) _ (none family.Party (codes "Party")) (none family.Person (codes "Person")))))

each_picked : (π : Preference) (b : Bool) (es : List Placed) → pick_elections (flat_map (election_located π b) es) ≡ map (located_election π b) es
each_picked π b [] = refl
each_picked π b (e ∷ es) =
    filter-append is_election (election_located π b e) (flat_map (election_located π b) es)
    ∙ ap₂ (λ xs ys. located_election π b e ∷ xs ++ ys) (none_inside π e) (each_picked π b es)

pub elections_picked : (π : Preference) (t : Data) → pick_elections (all_located π t) ≡ map (located_election π (has_several t)) (elections t)
elections_picked π t =
    filter-append is_election (flat_map (election_located π (has_several t)) (elections t)) (shared_located π (report_of t))
    ∙ ap₂ ◌++◌ (each_picked π (has_several t) (elections t)) (none_shared π (report_of t)) ∙ append-nil (map (located_election π (has_several t)) (elections t))

-- ---- their keys

among_picked : (xs : List Located) → elections_among (map (λ x. x.met) xs) ≡ elections_among (map (λ x. x.met) (pick_elections xs))
among_picked [] = refl
among_picked (x ∷ xs) = at x.met (among_picked xs)
  where
    at : (m : Met) → elections_among (map (λ x. x.met) xs) ≡ elections_among (map (λ x. x.met) (pick_elections xs)) → elections_among (m ∷ map (λ x. x.met) xs)
        ≡ elections_among (map (λ x. x.met) (cond (is_election_met m) (record { place = x.place; met = m } ∷ pick_elections xs) (pick_elections xs)))
    at (an_object k) e = e
    at (an_election needed key) e = ap (λ ks. key ∷ ks) e

keys_of_picked : (π : Preference) (b : Bool) (es : List Placed) → elections_among (map (λ x. x.met) (map (located_election π b) es))
    ≡ map (λ e. key_of π e.value) es
keys_of_picked π b [] = refl
keys_of_picked π b (e ∷ es) = ap (λ ks. key_of π e.value ∷ ks) (keys_of_picked π b es)

pub election_keys_met : (π : Preference) (t : Data) → elections_among (all_met π t) ≡ election_keys π t
election_keys_met π t =
    among_picked (all_located π t) ∙ ap (λ (xs : List Located). elections_among (map (λ x. x.met) xs)) (elections_picked π t)
    ∙ keys_of_picked π (has_several t) (elections t)

-- ---- what the walk over a report meets is an object of a family or an election, and each of these is met

-- an object of a family is met
pub record IsObjectMet (π : Preference) (t : Data) (x : Located) : Type 0 where
  pub family : Family
  pub one : Placed
  pub there : In one (objects family t)
  pub is : located_one π family one ≡ x

-- an election is met
pub record IsElectionMet (π : Preference) (t : Data) (x : Located) : Type 0 where
  pub one : Placed
  pub there : In one (elections t)
  pub is : located_election π (has_several t) one ≡ x

object_source : (π : Preference) (t : Data) (f : Family) (x : Located) → In x (all_located π t) → is_of f x ≡ true → IsObjectMet π t x
object_source π t f x i h =
    let kept = In-filter_kept (is_of f) x (all_located π t) i h in
    let from = In-map_from (located_one π f) (objects f t) x (subst (In x) (objects_met π f t) kept) in
    record { family = f; one = from.0; there = from.1; is = from.2 }

election_source : (π : Preference) (t : Data) (x : Located) → In x (all_located π t) → is_election x ≡ true → IsElectionMet π t x
election_source π t x i h =
    let kept = In-filter_kept is_election x (all_located π t) i h in
    let from = In-map_from (located_election π (has_several t)) (elections t) x (subst (In x) (elections_picked π t) kept) in
    record { one = from.0; there = from.1; is = from.2 }

pub source : (π : Preference) (t : Data) (x : Located) → In x (all_located π t) → IsObjectMet π t x ⊎ IsElectionMet π t x
source π t x i = at x.met refl
  where
    at : (m : Met) → x.met ≡ m → IsObjectMet π t x ⊎ IsElectionMet π t x
    at (an_object k) e = inl (object_source π t k.family x i (ap (is_object_of k.family) e ∙ itself (family_number k.family)))
    at (an_election needed key) e = inr (election_source π t x i (ap is_election_met e))

pub is_met : (π : Preference) (t : Data) (f : Family) (o : Placed) → In o (objects f t) → In (located_one π f o) (all_located π t)
is_met π t f o i =
    (In-filter (is_of f) (located_one π f o) (all_located π t)
    (subst (In (located_one π f o)) (sym (objects_met π f t)) (In-map (located_one π f) o (objects f t) i))).0

pub election_is_met : (π : Preference) (t : Data) (e : Placed) → In e (elections t) → In (located_election π (has_several t) e) (all_located π t)
election_is_met π t e i =
    let x = located_election π (has_several t) e in
    (In-filter is_election x (all_located π t) (subst (In x) (sym (elections_picked π t)) (In-map (located_election π (has_several t)) e (elections t) i))).0
