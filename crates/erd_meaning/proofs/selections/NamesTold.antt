-- What the walk over selections tells of them, in order: exactly the faults of selections.
use Rattle.erd_meaning.proofs.Common.{◌≡◌, ℕ, Bool, true, false, cond, ◌||◌, ◌⊎◌, List, [], ◌∷◌, ◌++◌, ◌==◌, Some, None, Option, flat_map, is_eq, Ordering}
use Rattle.erd_meaning.proofs.Common.{Less, sym, refl, ap, ◌∙◌, subst, ap₂, inl, inr, append_assoc, append-nil, and_parts, and_from, Decides-eqb, tied_itself}
use Rattle.erd_meaning.proofs.Common.{IsStrictlySortedBy, option_map_or, Data, fault_cmp, place_cmp, Fault, TwinSelection, In, In-append_left, In-append_right}
use Rattle.erd_meaning.proofs.Common.{In-append, any_at, In-any, In-all, sorted_append, fault_at, NameParts, Placed, name_cmp, fault_if, name_cmp_total}
use Rattle.erd_meaning.proofs.Common.{name_cmp_exact, NumberedName, is_selection_named, is_taken, NamesMet, added_name, with_name, named_one, named_all}
use Rattle.erd_meaning.proofs.Common.{Equal-is, or-false, list_any-append, arith, suc, ◌+◌, map, slice_get, option_map, map-append, same_Some, slice_get-map}
use Rattle.erd_meaning.proofs.Common.{enumerate_from, Selection, In-map, In-map_from, In-flat_map, all_from_In, Preference, contests, selections_of_contest}
use Rattle.erd_meaning.proofs.Common.{numbered_selections_of, numbered_selections, Located, located_one, located, ListsAll, Reason, Step, In-from_contains}
use Rattle.erd_meaning.proofs.Common.{contains_from_In, IsBefore, SelectionFault, RepeatsName, name_of, objects, In-flat_map_from}
use Rattle.erd_check.proofs.Lists.{both_empty}
use Rattle.erd_meaning.proofs.identity.IdentityFaults.{at_true}
use Rattle.erd_meaning.proofs.identity.ObjectFamilies.{itself}
use Rattle.erd_meaning.proofs.identity.ToldFaults.{if_sorted, in_if, less_itself, turned, earlier_fault, before_apart}
use Rattle.erd_meaning.proofs.identity.MetLists.{or_same}
use Rattle.erd_meaning.proofs.identity.ObjectPlaces.{apart}
use Rattle.erd_meaning.proofs.finding.OneObject.{family_apart}

-- a selection, with the number of its contest
abbrev pub Numbered : Type 0
Numbered = ℕ × Placed

-- selections by their places
abbrev pub in_places : Numbered → Numbered → Ordering
in_places a b = place_cmp a.1.place b.1.place

-- ---- the walk as lists

abbrev name_if : ℕ → Option NameParts → List NumberedName
name_if c o = option_map_or (λ n. (c, n) ∷ []) o []

-- the name of a selection, if it has one
abbrev pub name_list : (Data → Option NameParts) → Numbered → List NumberedName
name_list name s = name_if s.0 (name s.1.value)

abbrev fault_of : List NumberedName → Numbered → Option NameParts → List Fault
fault_of earlier s o = option_map_or (λ n. fault_if (is_taken earlier s.0 n) (fault_at s.1.place TwinSelection)) o []

-- the fault of a selection after these earlier names, if it has one
abbrev fault_after : (Data → Option NameParts) → List NumberedName → Numbered → List Fault
fault_after name earlier s = fault_of earlier s (name s.1.value)

abbrev pub names_told : (Data → Option NameParts) → List NumberedName → List Numbered → List Fault
names_told name earlier [] = []
names_told name earlier (x ∷ xs) = fault_after name earlier x ++ names_told name (earlier ++ name_list name x) xs

-- ---- names that are taken

pub is_named_from : (s : NumberedName) (c : ℕ) (n : NameParts) → is_selection_named c n s ≡ true → ◌≡◌ {A = NumberedName} s (c, n)
is_named_from s c n h =
    let both = and_parts (s.0 == c) (is_eq (name_cmp s.1 n)) h in
    ap₂ (λ (d : ℕ) (m : NameParts). (d, m)) ((Decides-eqb s.0 c).0 both.0) (name_cmp_exact s.1 n ((Equal-is _).0 both.1))

pub is_named_itself : (c : ℕ) (n : NameParts) → is_selection_named c n (c, n) ≡ true
is_named_itself c n = and_from (c == c) (is_eq (name_cmp n n)) (itself c) (ap is_eq (tied_itself name_cmp_total n))

taken_from : (names : List NumberedName) (c : ℕ) (n : NameParts) → is_taken names c n ≡ true → In {A = NumberedName} (c, n) names
taken_from names c n h =
    let found = In-any {A = NumberedName} (is_selection_named c n) names h in
    subst (λ (s : NumberedName). In {A = NumberedName} s names) (is_named_from found.0 c n found.2) found.1

taken_by : (names : List NumberedName) (c : ℕ) (n : NameParts) → In {A = NumberedName} (c, n) names → is_taken names c n ≡ true
taken_by names c n i = any_at {A = NumberedName} (is_selection_named c n) (c, n) names i (is_named_itself c n)

-- ---- the walk keeps the first of several equal names

-- two lists have the same names
abbrev HasSame : List NumberedName → List NumberedName → Type 0
HasSame ns ms = (c : ℕ) (n : NameParts) → is_taken ns c n ≡ is_taken ms c n

added_same : (ns ms : List NumberedName) (c : ℕ) (n : NameParts) → HasSame ns ms → HasSame (added_name ns c n) (ms ++ (c, n) ∷ [])
added_same ns ms c n h d k = at (is_taken ns c n) refl ∙ sym (list_any-append {X = NumberedName} (is_selection_named d k) ms ((c, n) ∷ []))
  where
    at : (b : Bool) → is_taken ns c n ≡ b → is_taken (cond b ns (ns ++ (c, n) ∷ [])) d k ≡ (is_taken ms d k || (is_selection_named d k (c, n) || false))
    at false e = list_any-append {X = NumberedName} (is_selection_named d k) ns ((c, n) ∷ []) ∙ ap (λ b. b || (is_selection_named d k (c, n) || false)) (h d k)
    at true e =
        h d k ∙ or_same (is_taken ms d k) (is_selection_named d k (c, n) || false)
        (λ t.
        let one = is_named_from (c, n) d k (sym (or-false (is_selection_named d k (c, n))) ∙ t) in
        sym (h d k) ∙ ap (λ (s : NumberedName). is_taken ns s.0 s.1) (sym one) ∙ e)

one_same : (m : NamesMet) (full : List NumberedName) (x : Numbered) (o : Option NameParts) → HasSame m.names full
    → HasSame (option_map_or (with_name m x.1.place x.0) o m).names (full ++ name_if x.0 o)
one_same m full x None h = subst (HasSame m.names) (sym (append-nil full)) h
one_same m full x (Some n) h = added_same m.names full x.0 n h

one_faults : (m : NamesMet) (full : List NumberedName) (x : Numbered) (o : Option NameParts) → HasSame m.names full
    → (option_map_or (with_name m x.1.place x.0) o m).faults ≡ m.faults ++ fault_of full x o
one_faults m full x None h = sym (append-nil m.faults)
one_faults m full x (Some n) h = ap (λ b. m.faults ++ fault_if b (fault_at x.1.place TwinSelection)) (h x.0 n)

pub all_faults : (name : Data → Option NameParts) (m : NamesMet) (full : List NumberedName) (xs : List Numbered) → HasSame m.names full
    → (named_all name m xs).faults ≡ m.faults ++ names_told name full xs
all_faults name m full [] h = sym (append-nil m.faults)
all_faults name m full (x ∷ xs) h =
    all_faults name (named_one name m x) (full ++ name_list name x) xs (one_same m full x (name x.1.value) h)
    ∙ ap (λ (fs : List Fault). fs ++ names_told name (full ++ name_list name x) xs) (one_faults m full x (name x.1.value) h)
    ∙ append_assoc m.faults (fault_after name full x) (names_told name (full ++ name_list name x) xs)

not_told : (b : Bool) (f : Fault) → fault_if b f ≡ [] → b ≡ false
not_told b f e = grind arith

one_names : (m : NamesMet) (x : Numbered) (o : Option NameParts) → fault_of m.names x o ≡ [] → (option_map_or (with_name m x.1.place x.0) o m).names
    ≡ m.names ++ name_if x.0 o
one_names m x None e = sym (append-nil m.names)
one_names m x (Some n) e = ap (λ b. cond b m.names (m.names ++ (x.0, n) ∷ [])) (not_told (is_taken m.names x.0 n) (fault_at x.1.place TwinSelection) e)

-- where none is told, all are kept
pub all_names : (name : Data → Option NameParts) (m : NamesMet) (xs : List Numbered) → names_told name m.names xs ≡ []
    → (named_all name m xs).names ≡ m.names ++ flat_map (name_list name) xs
all_names name m [] e = sym (append-nil m.names)
all_names name m (x ∷ xs) e =
    let none = both_empty (fault_after name m.names x) (names_told name (m.names ++ name_list name x) xs) e in
    let one : (named_one name m x).names ≡ m.names ++ name_list name x = one_names m x (name x.1.value) none.0 in
    all_names name (named_one name m x) xs (ap (λ (ns : List NumberedName). names_told name ns xs) one ∙ none.1)
    ∙ ap (λ (ns : List NumberedName). ns ++ flat_map (name_list name) xs) one ∙ append_assoc m.names (name_list name x) (flat_map (name_list name) xs)

-- ---- the names of a selection

in_name : (c : ℕ) (o : Option NameParts) (d : ℕ) (n : NameParts) → In {A = NumberedName} (d, n) (name_if c o) → (c ≡ d) × (o ≡ Some n)
in_name c None d n i = absurd i
in_name c (Some m) d n (inl e) = (ap (λ (s : NumberedName). s.0) e, ap (λ (s : NumberedName). Some s.1) e)
in_name c (Some m) d n (inr h) = absurd h

name_in : (c : ℕ) (o : Option NameParts) (d : ℕ) (n : NameParts) → c ≡ d → o ≡ Some n → In {A = NumberedName} (d, n) (name_if c o)
name_in c None d n e f = cc
name_in c (Some m) d n e f = let same : m ≡ n = cc in inl (ap₂ (λ (x : ℕ) (y : NameParts). (x, y)) e same)

-- ---- what is told of a selection

-- an earlier selection of the list, of the same contest, has the name
abbrev pub HasEarlier : (Data → Option NameParts) → List Numbered → Numbered → NameParts → Type 0
HasEarlier name xs one n = (y : Numbered) × In {A = Numbered} y xs × (y.0 ≡ one.0) × (name y.1.value ≡ Some n) × (place_cmp y.1.place one.1.place ≡ Less)

-- a selection that is told, and its name, which an earlier one has
pub record ToldTwin (name : Data → Option NameParts) (earlier : List NumberedName) (xs : List Numbered) (f : Fault) : Type 0 where
  pub one : Numbered
  pub there : In {A = Numbered} one xs
  pub parts : NameParts
  pub named : name one.1.value ≡ Some parts
  pub is : fault_at one.1.place TwinSelection ≡ f
  pub other : In {A = NumberedName} (one.0, parts) earlier ⊎ HasEarlier name xs one parts

first_told : (name : Data → Option NameParts) (earlier : List NumberedName) (x : Numbered) (xs : List Numbered) (f : Fault)
    (o : Option NameParts) → name x.1.value ≡ o → In f (fault_of earlier x o) → ToldTwin name earlier (x ∷ xs) f
first_told name earlier x xs f None e h = absurd h
first_told name earlier x xs f (Some n) e h =
    let both = in_if (is_taken earlier x.0 n) (fault_at x.1.place TwinSelection) f h in
    record { one = x; there = inl refl; parts = n; named = e; is = both.1; other = inl (taken_from earlier x.0 n both.0) }

later_told : (name : Data → Option NameParts) (earlier : List NumberedName) (x : Numbered) (xs : List Numbered) (one : Numbered) (n : NameParts)
    → in_places x one ≡ Less
    → In {A = NumberedName} (one.0, n) (earlier ++ name_list name x) ⊎ HasEarlier name xs one n → In {A = NumberedName} (one.0, n) earlier
    ⊎ HasEarlier name (x ∷ xs) one n
later_told name earlier x xs one n less (inl h) = elim (In-append {A = NumberedName} (one.0, n) earlier (name_list name x) h) [
  | inl a ↦ inl a
  | inr b ↦ let is = in_name x.0 (name x.1.value) one.0 n b in inr (x, inl refl, is.0, is.1, less)
]
later_told name earlier x xs one n less (inr (y, i, e, g, l)) = inr (y, inr i, e, g, l)

pub told_twin : (name : Data → Option NameParts) (earlier : List NumberedName) (xs : List Numbered) (f : Fault) → IsStrictlySortedBy in_places xs
    → In f (names_told name earlier xs) → ToldTwin name earlier xs f
unfolding IsStrictlySortedBy
told_twin name earlier [] f rising h = absurd h
told_twin name earlier (x ∷ xs) f rising h = elim (In-append f (fault_after name earlier x) (names_told name (earlier ++ name_list name x) xs) h) [
  | inl a ↦ first_told name earlier x xs f (name x.1.value) refl a
  | inr b ↦
      let t = told_twin name (earlier ++ name_list name x) xs f rising.1 b in
      let less = In-all {A = Numbered} (λ y. in_places x y ≡ Less) t.one xs rising.0 t.there in
      record { one = t.one; there = inr t.there; parts = t.parts; named = t.named; is = t.is; other = later_told name earlier x xs t.one t.parts less t.other }
]

-- ---- each that repeats a name is told

fault_here : (earlier : List NumberedName) (x : Numbered) (n : NameParts) (o : Option NameParts) → o ≡ Some n → In {A = NumberedName} (x.0, n) earlier
    → In (fault_at x.1.place TwinSelection) (fault_of earlier x o)
fault_here earlier x n None e i = cc
fault_here earlier x n (Some m) e i =
    let same : n ≡ m = cc in
    at_true (is_taken earlier x.0 m) (fault_at x.1.place TwinSelection)
    (taken_by earlier x.0 m (subst (λ (p : NameParts). In {A = NumberedName} (x.0, p) earlier) same i))

pub twin_told : (name : Data → Option NameParts) (earlier : List NumberedName) (xs : List Numbered) (one : Numbered) (n : NameParts)
    → IsStrictlySortedBy in_places xs
    → In {A = Numbered} one xs → name one.1.value ≡ Some n → In {A = NumberedName} (one.0, n) earlier ⊎ HasEarlier name xs one n
    → In (fault_at one.1.place TwinSelection) (names_told name earlier xs)
unfolding IsStrictlySortedBy
twin_told name earlier [] one n rising i e other = absurd i
twin_told name earlier (x ∷ xs) one n rising (inl same) e (inl taken) =
    subst (λ (z : Numbered). In (fault_at z.1.place TwinSelection) (names_told name earlier (x ∷ xs))) same
    (In-append_left (fault_at x.1.place TwinSelection) (fault_after name earlier x) (names_told name (earlier ++ name_list name x) xs)
    (fault_here earlier x n (name x.1.value) (ap (λ (z : Numbered). name z.1.value) same ∙ e)
    (subst (λ (z : Numbered). In {A = NumberedName} (z.0, n) earlier) (sym same) taken)))
twin_told name earlier (x ∷ xs) one n rising (inl same) e (inr (y, j, c, g, less)) = absurd (none j)
  where
    before : in_places y x ≡ Less
    before = subst (λ (z : Numbered). in_places y z ≡ Less) (sym same) less

    none : In {A = Numbered} y (x ∷ xs) → ⊥
    none (inl first) = less_itself x.1.place (subst (λ (z : Numbered). in_places z x ≡ Less) (sym first) before)
    none (inr k) = turned x.1.place y.1.place (In-all {A = Numbered} (λ z. in_places x z ≡ Less) y xs rising.0 k) before
twin_told name earlier (x ∷ xs) one n rising (inr i) e other =
    In-append_right (fault_at one.1.place TwinSelection) (fault_after name earlier x) (names_told name (earlier ++ name_list name x) xs)
    (twin_told name (earlier ++ name_list name x) xs one n rising.1 i e (onward other))
  where
    onward : In {A = NumberedName} (one.0, n) earlier ⊎ HasEarlier name (x ∷ xs) one n → In {A = NumberedName} (one.0, n) (earlier ++ name_list name x)
        ⊎ HasEarlier name xs one n
    onward (inl taken) = inl (In-append_left {A = NumberedName} (one.0, n) earlier (name_list name x) taken)
    onward (inr (y, inl first, c, g, less)) =
        inl (In-append_right {A = NumberedName} (one.0, n) earlier (name_list name x)
        (name_in x.0 (name x.1.value) one.0 n (ap (λ (z : Numbered). z.0) first ∙ c) (ap (λ (z : Numbered). name z.1.value) first ∙ g)))
    onward (inr (y, inr j, c, g, less)) = inr (y, j, c, g, less)

-- ---- what is told rises

one_rises : (earlier : List NumberedName) (x : Numbered) (o : Option NameParts) → IsStrictlySortedBy fault_cmp (fault_of earlier x o)
unfolding IsStrictlySortedBy
one_rises earlier x None = tt
one_rises earlier x (Some n) = if_sorted (is_taken earlier x.0 n) (fault_at x.1.place TwinSelection)

one_place : (earlier : List NumberedName) (x : Numbered) (f : Fault) (o : Option NameParts) → In f (fault_of earlier x o) → fault_at x.1.place TwinSelection ≡ f
one_place earlier x f None h = absurd h
one_place earlier x f (Some n) h = (in_if (is_taken earlier x.0 n) (fault_at x.1.place TwinSelection) f h).1

pub names_rising : (name : Data → Option NameParts) (earlier : List NumberedName) (xs : List Numbered) → IsStrictlySortedBy in_places xs
    → IsStrictlySortedBy fault_cmp (names_told name earlier xs)
unfolding IsStrictlySortedBy
names_rising name earlier [] rising = tt
names_rising name earlier (x ∷ xs) rising =
    sorted_append fault_cmp (fault_after name earlier x) (names_told name (earlier ++ name_list name x) xs) (one_rises earlier x (name x.1.value))
    (names_rising name (earlier ++ name_list name x) xs rising.1)
    (λ f g i j.
    let t = told_twin name (earlier ++ name_list name x) xs g rising.1 j in
    let less : place_cmp x.1.place t.one.1.place ≡ Less = In-all {A = Numbered} (λ y. in_places x y ≡ Less) t.one xs rising.0 t.there in
    let first = ap (λ (z : Fault). z.place) (one_place earlier x f (name x.1.value) i) in
    let second = ap (λ (z : Fault). z.place) t.is in
    earlier_fault f g (sym (ap₂ place_cmp first second) ∙ less))

-- ---- their order

sorted_from_map : {A B : Type 0} (f : A → B) (cmp : A → A → Ordering) (cmp' : B → B → Ordering)
    → ((x y : A) → cmp' (f x) (f y) ≡ Less → cmp x y ≡ Less) → (xs : List A) → IsStrictlySortedBy cmp' (map f xs) → IsStrictlySortedBy cmp xs
unfolding IsStrictlySortedBy
sorted_from_map f cmp cmp' back [] p = tt
sorted_from_map f cmp cmp' back (x ∷ xs) p = (
  all_from_In (λ y. cmp x y ≡ Less) xs (λ y i. back x y (In-all (λ z. cmp' (f x) z ≡ Less) (f y) (map f xs) p.0 (In-map f y xs i))),
  sorted_from_map f cmp cmp' back xs p.1,
)

abbrev located_selection : Preference → Numbered → Located
located_selection π s = located_one π Selection s.1

of_contest : (π : Preference) (k : ℕ) (os : List Placed) → map {A = Numbered} (located_selection π) (map {B = Numbered} (λ o. (k, o)) os)
    ≡ located π Selection os
of_contest π k [] = refl
of_contest π k (o ∷ os) = ap (λ xs. located_one π Selection o ∷ xs) (of_contest π k os)

of_contests : (π : Preference) (k : ℕ) (cs : List Placed) → map {A = Numbered} (located_selection π) (flat_map numbered_selections_of (enumerate_from k cs))
    ≡ located π Selection (flat_map selections_of_contest cs)
of_contests π k [] = refl
of_contests π k (c ∷ cs) =
    map-append {A = Numbered} (located_selection π) (numbered_selections_of (k, c)) (flat_map numbered_selections_of (enumerate_from (k + 1) cs))
    ∙ ap₂ ◌++◌ (of_contest π k (selections_of_contest c)) (of_contests π (k + 1) cs)
    ∙ sym (map-append (located_one π Selection) (selections_of_contest c) (flat_map selections_of_contest cs))

pub numbered_rising : (π : Preference) (t : Data) → IsStrictlySortedBy in_places (numbered_selections t)
numbered_rising π t =
    sorted_from_map {A = Numbered} (located_selection π) in_places apart (λ x y l. before_apart (located_selection π x) (located_selection π y) l)
    (numbered_selections t)
    (subst (IsStrictlySortedBy apart) (sym (of_contests π 0 (contests t))) (family_apart π Selection t))

-- ---- their positions

placed_of_contest : (k : ℕ) (os : List Placed) → map {A = Numbered} (λ s. s.1) (map {B = Numbered} (λ o. (k, o)) os) ≡ os
placed_of_contest k [] = refl
placed_of_contest k (o ∷ os) = ap (λ xs. o ∷ xs) (placed_of_contest k os)

pub placed_of_contests : (k : ℕ) (cs : List Placed) → map {A = Numbered} (λ s. s.1) (flat_map numbered_selections_of (enumerate_from k cs))
    ≡ flat_map selections_of_contest cs
placed_of_contests k [] = refl
placed_of_contests k (c ∷ cs) =
    map-append {A = Numbered} (λ s. s.1) (numbered_selections_of (k, c)) (flat_map numbered_selections_of (enumerate_from (k + 1) cs))
    ∙ ap₂ ◌++◌ (placed_of_contest k (selections_of_contest c)) (placed_of_contests (k + 1) cs)

-- the selection at a position
pub numbered_at : (t : Data) (i : ℕ) → option_map (λ (s : Numbered). s.1) (slice_get (numbered_selections t) i) ≡ slice_get (objects Selection t) i
numbered_at t i = sym (slice_get-map {A = Numbered} (λ s. s.1) (numbered_selections t) i) ∙ ap (λ xs. slice_get xs i) (placed_of_contests 0 (contests t))

-- ---- their contests

-- the contest of a selection is at its number
pub record OfContest (t : Data) (s : Numbered) : Type 0 where
  pub contest : Placed
  pub at : slice_get (contests t) s.0 ≡ Some contest
  pub there : In contest (contests t)
  pub inside : In s.1 (selections_of_contest contest)

-- an element and its number
record NumberedFrom {A : Type 0} (k n : ℕ) (x : A) (xs : List A) : Type 0 where
  after : ℕ
  is : n ≡ k + after
  at : slice_get xs after ≡ Some x
  there : In x xs

numbered_from : {A : Type 0} (k n : ℕ) (x : A) (xs : List A) → In {A = ℕ × A} (n, x) (enumerate_from k xs) → NumberedFrom k n x xs
numbered_from k n x [] i = absurd i
numbered_from {A} k n x (y ∷ xs) (inl e) =
    let number : k ≡ n = ap (λ (p : ℕ × A). p.0) e in
    let one : y ≡ x = ap (λ (p : ℕ × A). p.1) e in
    record { after = 0; is = omega arith; at = ap Some one; there = inl one }
numbered_from k n x (y ∷ xs) (inr i) =
    let h = numbered_from (k + 1) n x xs i in
    let is : n ≡ k + 1 + h.after = h.is in
    record { after = suc h.after; is = omega arith; at = h.at; there = inr h.there }

pub of_its_contest : (t : Data) (s : Numbered) → In {A = Numbered} s (numbered_selections t) → OfContest t s
of_its_contest t s i =
    let o = In-flat_map_from {A = Numbered} {B = Numbered} numbered_selections_of (enumerate_from 0 (contests t)) s i in
    let image = In-map_from {A = Placed} {B = Numbered} (λ p. (o.0.0, p)) (selections_of_contest o.0.1) s o.2 in
    let number : o.0.0 ≡ s.0 = ap (λ (p : Numbered). p.0) image.2 in
    let h = numbered_from 0 o.0.0 o.0.1 (contests t) o.1 in
    let is : o.0.0 ≡ 0 + h.after = h.is in
    let same : h.after ≡ s.0 = omega arith in
    record {
      contest = o.0.1;
      at = subst (λ n. slice_get (contests t) n ≡ Some o.0.1) same h.at;
      there = h.there;
      inside = subst (λ (p : Placed). In p (selections_of_contest o.0.1)) (ap (λ (p : Numbered). p.1) image.2) image.1;
    }

-- two selections with one number are of one contest
pub one_contest : (t : Data) (s r : Numbered) (a : OfContest t s) (b : OfContest t r) → s.0 ≡ r.0 → a.contest ≡ b.contest
one_contest t s r a b e = same_Some a.contest b.contest (sym a.at ∙ ap (slice_get (contests t)) e ∙ b.at)

-- the number of a contest
numbered_in : {A : Type 0} (k : ℕ) (x : A) (xs : List A) → In x xs → (n : ℕ) × In {A = ℕ × A} (n, x) (enumerate_from k xs)
numbered_in k x [] i = absurd i
numbered_in {A} k x (y ∷ xs) (inl e) = (k, inl (ap (λ z. (k, z)) e))
numbered_in k x (y ∷ xs) (inr i) = let h = numbered_in (k + 1) x xs i in (h.0, inr h.1)

-- all selections of a contest have one number
pub with_number : (t : Data) (contest : Placed) → In contest (contests t) → (n : ℕ)
    × ((o : Placed) → In o (selections_of_contest contest) → In {A = Numbered} (n, o) (numbered_selections t))
with_number t contest i =
    let h = numbered_in 0 contest (contests t) i in (
      h.0,
      λ o j.
          In-flat_map {A = Numbered} {B = Numbered} numbered_selections_of (h.0, o) (h.0, contest) (enumerate_from 0 (contests t)) h.1
          (In-map {B = Numbered} (λ p. (h.0, p)) o (selections_of_contest contest) j),
    )

-- ---- the walk over the selections of a report tells exactly the faults of selections

-- what is told of the selections of a report
abbrev pub selections_told : Preference → Data → List Fault
selections_told π t = names_told (name_of π t) [] (numbered_selections t)

-- two selections of one number and one name
pub repeats : (π : Preference) (t : Data) (one other : Numbered) (n : NameParts) → In {A = Numbered} one (numbered_selections t)
    → In {A = Numbered} other (numbered_selections t) → other.0 ≡ one.0
    → name_of π t one.1.value ≡ Some n → name_of π t other.1.value ≡ Some n → IsBefore other.1 one.1 → RepeatsName π t one.1.place
repeats π t one other n i j same named also before =
    let a = of_its_contest t one i in
    let b = of_its_contest t other j in
    let contest : b.contest ≡ a.contest = one_contest t other one b a same in
    record {
      contest = a.contest;
      contest_stands = contains_from_In a.contest (contests t) a.there;
      later = one.1;
      later_stands = contains_from_In one.1 (selections_of_contest a.contest) a.inside;
      place = refl;
      earlier = other.1;
      earlier_stands = contains_from_In other.1 (selections_of_contest a.contest) (subst (λ c. In other.1 (selections_of_contest c)) contest b.inside);
      before = before;
      name = n;
      later_name = named;
      earlier_name = also;
    }

twins : (π : Preference) (t : Data) (f : Fault) (told : ToldTwin (name_of π t) [] (numbered_selections t) f) → In {A = NumberedName} (told.one.0, told.parts) []
    ⊎ HasEarlier (name_of π t) (numbered_selections t) told.one told.parts → RepeatsName π t told.one.1.place
twins π t f told (inl h) = absurd h
twins π t f told (inr (y, i, same, also, before)) = repeats π t told.one y told.parts told.there i same told.named also before

of_told : (π : Preference) (t : Data) (f : Fault) → ToldTwin (name_of π t) [] (numbered_selections t) f → SelectionFault π t f.place f.reason
of_told π t f told = subst (λ (g : Fault). SelectionFault π t g.place g.reason) told.is (twins π t f told told.other)

told_of_reason : (π : Preference) (t : Data) (p : List Step) (r : Reason) → SelectionFault π t p r → In (fault_at p r) (selections_told π t)
told_of_reason π t p TwinSelection h =
    let number = with_number t h.contest (In-from_contains h.contest (contests t) h.contest_stands) in
    let later = number.1 h.later (In-from_contains h.later (selections_of_contest h.contest) h.later_stands) in
    let earlier = number.1 h.earlier (In-from_contains h.earlier (selections_of_contest h.contest) h.earlier_stands) in
    subst (λ q. In (fault_at q TwinSelection) (selections_told π t)) (sym h.place)
    (twin_told (name_of π t) [] (numbered_selections t) (number.0, h.later) h.name (numbered_rising π t) later h.later_name
    (inr ((number.0, h.earlier), earlier, refl, h.earlier_name, h.before)))
told_of_reason π t p r h = absurd h

pub selections_listed : (π : Preference) (t : Data) → ListsAll (SelectionFault π t) (selections_told π t)
selections_listed π t = record {
  rising = names_rising (name_of π t) [] (numbered_selections t) (numbered_rising π t);
  each = λ f. (
    λ h. of_told π t f (told_twin (name_of π t) [] (numbered_selections t) f (numbered_rising π t) (In-from_contains f (selections_told π t) h)),
    λ h. contains_from_In f (selections_told π t) (told_of_reason π t f.place f.reason h),
  );
}
