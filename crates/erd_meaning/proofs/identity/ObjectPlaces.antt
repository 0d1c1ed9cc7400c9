-- The elections and the objects that the walk meets stand apart: the place of the `@id` of each comes before the places of all
-- later ones.
use Rattle.erd_meaning.proofs.Common.{◌≡◌, ℕ, ◌+◌, ◌≤◌, Bool, List, [], ◌∷◌, ◌++◌, codes, flat_map, Ordering, Less, sym, refl, ap, ◌∙◌, subst, ap₂, inl, inr}
use Rattle.erd_meaning.proofs.Common.{append_assoc, append-nil, arith, AllByRecursion, IsStrictlySortedBy, Data, steps_less, step_cmp, place_cmp, text_cmp}
use Rattle.erd_meaning.proofs.Common.{Family, family, Step, At, Name, In, In-append, all_from_In, Below, sorted_append, Preference, Placed, placed_from}
use Rattle.erd_meaning.proofs.Common.{placed_entries, report_of, elections, selections_of_contest, has_several, Located, located_one, located_election, located}
use Rattle.erd_meaning.proofs.Common.{contest_located, inside_election, election_located, shared_located, all_located, flat_map_single}
use Rattle.erd_check.proofs.Steps.{at_less}

abbrev pub id_place : List Step → List Step
id_place p = p ++ Name (codes "@id") ∷ []

abbrev pub apart : Located → Located → Ordering
apart a b = place_cmp (id_place a.place) b.place

abbrev pub AreApart : List Located → Type 0
AreApart xs = IsStrictlySortedBy apart xs

-- at a place or inside it
record AtOrIn (p : List Step) (x : Located) : Type 0 where
  rest : List Step
  is : x.place ≡ p ++ rest

-- at or inside an entry of an array, at this position or a later one
record InEntry (p : List Step) (low : ℕ) (x : Located) : Type 0 where
  index : ℕ
  late : low ≤ index
  rest : List Step
  is : x.place ≡ p ++ At index ∷ rest

-- at or inside a member
record InMember (p : List Step) (name : List ℕ) (x : Located) : Type 0 where
  rest : List Step
  is : x.place ≡ p ++ Name name ∷ rest

abbrev AllIn : (Located → Type 0) → List Located → Type 0
AllIn P xs = (x : Located) → In x xs → P x

all-append : (P : Located → Type 0) (xs ys : List Located) → AllIn P xs → AllIn P ys → AllIn P (xs ++ ys)
all-append P xs ys a b x i = elim (In-append x xs ys i) [ inl j ↦ a x j | inr j ↦ b x j ]

below-append : (xs ys zs : List Located) → Below apart xs ys → Below apart xs zs → Below apart xs (ys ++ zs)
below-append xs ys zs a b x y i j = elim (In-append y ys zs j) [ inl k ↦ a x y i k | inr k ↦ b x y i k ]

apart_by : (p : List Step) (s t : Step) (x y : Located) (q r : List Step) → x.place ≡ p ++ s ∷ q → y.place ≡ p ++ t ∷ r → step_cmp s t ≡ Less → apart x y ≡ Less
apart_by p s t x y q r is also less =
    ap₂ place_cmp (ap id_place is ∙ append_assoc p (s ∷ q) (Name (codes "@id") ∷ [])) also ∙ steps_less p s t (q ++ Name (codes "@id") ∷ []) r less

-- ---- the entries of an array

abbrev Inside : (Placed → List Located) → Type 0
Inside f = (o : Placed) → AllIn (AtOrIn o.place) (f o)

abbrev Parted : (Placed → List Located) → Type 0
Parted f = (o : Placed) → AreApart (f o)

first_entry : (p : List Step) (i : ℕ) (x : Located) → AtOrIn (p ++ At i ∷ []) x → InEntry p i x
first_entry p i x a = record { index = i; late = omega arith; rest = a.rest; is = a.is ∙ append_assoc p (At i ∷ []) a.rest }

later_entry : (p : List Step) (i : ℕ) (x : Located) → InEntry p (i + 1) x → InEntry p i x
later_entry p i x b = let late = b.late in record { index = b.index; late = omega arith; rest = b.rest; is = b.is }

in_entries : (f : Placed → List Located) → Inside f → (p : List Step) (i : ℕ) (ds : List Data) → AllIn (InEntry p i) (flat_map f (placed_from p i ds))
in_entries f inside p i [] x h = absurd h
in_entries f inside p i (d ∷ ds) x h =
    let o : Placed = record { place = p ++ At i ∷ []; value = d } in
    elim (In-append x (f o) (flat_map f (placed_from p (i + 1) ds)) h) [
      | inl a ↦ first_entry p i x (inside o x a)
      | inr b ↦ later_entry p i x (in_entries f inside p (i + 1) ds x b)
    ]

parted_entries : (f : Placed → List Located) → Inside f → Parted f → (p : List Step) (i : ℕ) (ds : List Data) → AreApart (flat_map f (placed_from p i ds))
unfolding IsStrictlySortedBy
parted_entries f inside parted p i [] = tt
parted_entries f inside parted p i (d ∷ ds) =
    let o : Placed = record { place = p ++ At i ∷ []; value = d } in
    sorted_append apart (f o) (flat_map f (placed_from p (i + 1) ds)) (parted o) (parted_entries f inside parted p (i + 1) ds)
    (λ x y a b.
    let u = inside o x a in
    let v = in_entries f inside p (i + 1) ds y b in
    let late = v.late in
    apart_by p (At i) (At v.index) x y u.rest v.rest (u.is ∙ append_assoc p (At i ∷ []) u.rest) v.is (at_less i v.index (omega arith)))

-- ---- the array that is a member

in_member : (p : List Step) (name : List ℕ) (i : ℕ) (x : Located) → InEntry (p ++ Name name ∷ []) i x → InMember p name x
in_member p name i x e = record { rest = At e.index ∷ e.rest; is = e.is ∙ append_assoc p (Name name ∷ []) (At e.index ∷ e.rest) }

in_array : (f : Placed → List Located) → Inside f → (name : List ℕ) (o : Placed) → AllIn (InMember o.place name) (flat_map f (placed_entries name o))
in_array f inside name o x h = in_member o.place name 0 x (in_entries f inside (o.place ++ Name name ∷ []) 0 _ x h)

parted_array : (f : Placed → List Located) → Inside f → Parted f → (name : List ℕ) (o : Placed) → AreApart (flat_map f (placed_entries name o))
parted_array f inside parted name o = parted_entries f inside parted (o.place ++ Name name ∷ []) 0 _

below_by : (p : List Step) (m n : List ℕ) (xs ys : List Located) → text_cmp m n ≡ Less → AllIn (InMember p m) xs → AllIn (InMember p n) ys → Below apart xs ys
below_by p m n xs ys less a b x y i j =
    let u = a x i in
    let v = b y j in
    apart_by p (Name m) (Name n) x y u.rest v.rest u.is v.is less

inside_member : (p : List Step) (name : List ℕ) (x : Located) → InMember p name x → AtOrIn p x
inside_member p name x m = record { rest = Name name ∷ m.rest; is = m.is }

all_inside : (p : List Step) (name : List ℕ) (xs : List Located) → AllIn (InMember p name) xs → AllIn (AtOrIn p) xs
all_inside p name xs a x i = inside_member p name x (a x i)

-- ---- objects of one family

abbrev alone : Preference → Family → Placed → List Located
alone π f o = located_one π f o ∷ []

alone_inside : (π : Preference) (f : Family) → Inside (alone π f)
alone_inside π f o x (inl e) = record { rest = []; is = sym (ap (λ (y : Located). y.place) e) ∙ sym (append-nil o.place) }
alone_inside π f o x (inr h) = absurd h

alone_parted : (π : Preference) (f : Family) → Parted (alone π f)
unfolding IsStrictlySortedBy
alone_parted π f o = (tt, tt)

each_alone : (π : Preference) (f : Family) (os : List Placed) → flat_map (alone π f) os ≡ located π f os
each_alone π f os = flat_map_single (located_one π f) os

in_located : (π : Preference) (f : Family) (name : List ℕ) (o : Placed) → AllIn (InMember o.place name) (located π f (placed_entries name o))
in_located π f name o = subst (AllIn (InMember o.place name)) (each_alone π f (placed_entries name o)) (in_array (alone π f) (alone_inside π f) name o)

parted_located : (π : Preference) (f : Family) (name : List ℕ) (o : Placed) → AreApart (located π f (placed_entries name o))
parted_located π f name o = subst AreApart (each_alone π f (placed_entries name o)) (parted_array (alone π f) (alone_inside π f) (alone_parted π f) name o)

-- ---- contests

selections_inside : (π : Preference) (o : Placed) → AllIn (InMember o.place (codes "ContestSelection")) (located π family.Selection (selections_of_contest o))
selections_inside π o = in_located π family.Selection (codes "ContestSelection") o

contest_inside : (π : Preference) → Inside (contest_located π)
contest_inside π o =
    all-append (AtOrIn o.place) (alone π family.Contest o) (located π family.Selection (selections_of_contest o)) (alone_inside π family.Contest o)
    (all_inside o.place (codes "ContestSelection") (located π family.Selection (selections_of_contest o)) (selections_inside π o))

contest_parted : (π : Preference) → Parted (contest_located π)
contest_parted π o =
    sorted_append apart (alone π family.Contest o) (located π family.Selection (selections_of_contest o)) (alone_parted π family.Contest o)
    (parted_located π family.Selection (codes "ContestSelection") o) (λ x y i j. let m = selections_inside π o y j in elim i [
      | inl e ↦ ap₂ place_cmp (ap id_place (sym (ap (λ (z : Located). z.place) e))) m.is ∙ steps_less o.place (Name (codes "@id"))
          (Name (codes "ContestSelection")) [] m.rest refl
      | inr h ↦ absurd h
    ])

-- ---- elections

abbrev styles : Preference → Placed → List Located
styles π e = located π family.Style (placed_entries (codes "BallotStyle") e)

abbrev candidates : Preference → Placed → List Located
candidates π e = located π family.Candidate (placed_entries (codes "Candidate") e)

abbrev contests_of : Preference → Placed → List Located
contests_of π e = flat_map (contest_located π) (placed_entries (codes "Contest") e)

styles_in : (π : Preference) (e : Placed) → AllIn (InMember e.place (codes "BallotStyle")) (styles π e)
styles_in π e = in_located π family.Style (codes "BallotStyle") e

candidates_in : (π : Preference) (e : Placed) → AllIn (InMember e.place (codes "Candidate")) (candidates π e)
candidates_in π e = in_located π family.Candidate (codes "Candidate") e

contests_in : (π : Preference) (e : Placed) → AllIn (InMember e.place (codes "Contest")) (contests_of π e)
contests_in π e = in_array (contest_located π) (contest_inside π) (codes "Contest") e

objects_inside : (π : Preference) → Inside (inside_election π)
objects_inside π e =
    let p = e.place in
    all-append (AtOrIn p) (styles π e) (candidates π e ++ contests_of π e) (all_inside p (codes "BallotStyle") (styles π e) (styles_in π e))
    (all-append (AtOrIn p) (candidates π e) (contests_of π e) (all_inside p (codes "Candidate") (candidates π e) (candidates_in π e))
    (all_inside p (codes "Contest") (contests_of π e) (contests_in π e)))

objects_parted : (π : Preference) → Parted (inside_election π)
objects_parted π e =
    let p = e.place in
    sorted_append apart (styles π e) (candidates π e ++ contests_of π e) (parted_located π family.Style (codes "BallotStyle") e)
    (sorted_append apart (candidates π e) (contests_of π e) (parted_located π family.Candidate (codes "Candidate") e)
    (parted_array (contest_located π) (contest_inside π) (contest_parted π) (codes "Contest") e)
    (below_by p (codes "Candidate") (codes "Contest") (candidates π e) (contests_of π e) refl (candidates_in π e) (contests_in π e)))
    (below-append (styles π e) (candidates π e) (contests_of π e)
    (below_by p (codes "BallotStyle") (codes "Candidate") (styles π e) (candidates π e) refl (styles_in π e) (candidates_in π e))
    (below_by p (codes "BallotStyle") (codes "Contest") (styles π e) (contests_of π e) refl (styles_in π e) (contests_in π e)))

-- the election itself, and then what is inside it
election_inside : (π : Preference) (b : Bool) → Inside (election_located π b)
election_inside π b e x (inl h) = record { rest = []; is = sym (ap (λ (y : Located). y.place) h) ∙ sym (append-nil e.place) }
election_inside π b e x (inr i) = objects_inside π e x i

-- what is inside an election stands in a member of it that comes after its `@id`
later_member : (π : Preference) (e : Placed) (y : Located) → In y (inside_election π e) → place_cmp (id_place e.place) y.place ≡ Less
later_member π e y i = elim (In-append y (styles π e) (candidates π e ++ contests_of π e) i) [
  | inl a ↦ let m = styles_in π e y a in ap (place_cmp (id_place e.place)) m.is ∙ steps_less e.place (Name (codes "@id"))
      (Name (codes "BallotStyle")) [] m.rest refl
  | inr b ↦ elim (In-append y (candidates π e) (contests_of π e) b) [
    | inl a ↦ let m = candidates_in π e y a in ap (place_cmp (id_place e.place)) m.is ∙ steps_less e.place (Name (codes "@id"))
        (Name (codes "Candidate")) [] m.rest refl
    | inr c ↦ let m = contests_in π e y c in ap (place_cmp (id_place e.place)) m.is ∙ steps_less e.place (Name (codes "@id"))
        (Name (codes "Contest")) [] m.rest refl
  ]
]

election_parted : (π : Preference) (b : Bool) → Parted (election_located π b)
unfolding IsStrictlySortedBy
election_parted π b e = (all_from_In (λ y. apart (located_election π b e) y ≡ Less) (inside_election π e) (later_member π e), objects_parted π e)

-- ---- the report

-- arrays of the report, in the order of their names
abbrev arrays : Preference → Placed → List (List ℕ × Family) → List Located
arrays π r [] = []
arrays π r ((name, f) ∷ more) = located π f (placed_entries name r) ++ arrays π r more

below_arrays : (π : Preference) (r : Placed) (name : List ℕ) (xs : List Located) → AllIn (InMember r.place name) xs → (more : List (List ℕ × Family))
    → AllByRecursion {X = List ℕ × Family} (λ m. text_cmp name m.0 ≡ Less) more → Below apart xs (arrays π r more)
below_arrays π r name xs a [] less = λ x y i j. absurd j
below_arrays π r name xs a (m ∷ more) less =
    below-append xs (located π m.1 (placed_entries m.0 r)) (arrays π r more)
    (below_by r.place name m.0 xs (located π m.1 (placed_entries m.0 r)) less.0 a (in_located π m.1 m.0 r)) (below_arrays π r name xs a more less.1)

parted_arrays : (π : Preference) (r : Placed) (ms : List (List ℕ × Family)) → IsStrictlySortedBy (λ (a b : List ℕ × Family). text_cmp a.0 b.0) ms
    → AreApart (arrays π r ms)
unfolding IsStrictlySortedBy
parted_arrays π r [] rising = tt
parted_arrays π r (m ∷ more) rising =
    sorted_append apart (located π m.1 (placed_entries m.0 r)) (arrays π r more) (parted_located π m.1 m.0 r) (parted_arrays π r more rising.1)
    (below_arrays π r m.0 (located π m.1 (placed_entries m.0 r)) (in_located π m.1 m.0 r) more rising.0)

abbrev shared_arrays : List (List ℕ × Family)
shared_arrays = (codes "GpUnit", family.Unit) ∷ (codes "Header", family.Header) ∷ (codes "Office", family.Office) ∷ (codes "Party", family.Party)
    ∷ (codes "Person", family.Person) ∷ []

shared_is : (π : Preference) (r : Placed) → arrays π r shared_arrays ≡ shared_located π r
shared_is π r =
    let one = λ (f : Family) (name : List ℕ). located π f (placed_entries name r) in
    ap (λ xs. one family.Unit (codes "GpUnit")
    ++ (one family.Header (codes "Header") ++ (one family.Office (codes "Office") ++ (one family.Party (codes "Party") ++ xs))))
    (append-nil (one family.Person (codes "Person")))

shared_parted : (π : Preference) (r : Placed) → AreApart (shared_located π r)
unfolding IsStrictlySortedBy
shared_parted π r =
    subst AreApart (shared_is π r)
    (parted_arrays π r shared_arrays ((refl, (refl, (refl, (refl, tt)))), ((refl, (refl, (refl, tt))), ((refl, (refl, tt)), ((refl, tt), (tt, tt))))))

pub all_parted : (π : Preference) (t : Data) → AreApart (all_located π t)
all_parted π t =
    let r = report_of t in
    let name = codes "Election" in
    let of_one = election_located π (has_several t) in
    let inside = election_inside π (has_several t) in
    let within = flat_map of_one (elections t) in
    sorted_append apart within (shared_located π r) (parted_array of_one inside (election_parted π (has_several t)) name r) (shared_parted π r)
    (subst (Below apart within) (shared_is π r)
    (below_arrays π r name within (in_array of_one inside name r) shared_arrays (refl, (refl, (refl, (refl, (refl, tt)))))))
