-- The names that the walk over the selections of a report meets and leaves are those of the definition.
use Rattle.erd_meaning.proofs.Common.{◌≡◌, ℕ, true, cond, List, [], ◌∷◌, Some, None, codes, Option, option_map, find, option_and_then, refl, ap, ◌∙◌, Data}
use Rattle.erd_meaning.proofs.Common.{Class, class, Family, family, NoneOf, entries_at, class_of_object, has_keys, key_cmp, Preference, key_of}
use Rattle.erd_meaning.proofs.Common.{key_of_family_object, IdentityFault, Placed, id_of, has_id, rising_list, key_named, keys_of_selection, is_write_in}
use Rattle.erd_meaning.proofs.Common.{order_of_selection, label_of_selection, name_in_class, selection_role, name_of, key_among, name_among, is_of_family}
use Rattle.erd_meaning.proofs.Common.{keeps_id, Kept, kept_objects, inl, inr, cases_Bool, zero, suc, ◌<◌, ◌++◌, slice_get, flat_map, sym, cases_order}
use Rattle.erd_meaning.proofs.Common.{option_map_or, Selection, TwinSelection, object_in, ObjectIn, In, In-flat_map, ShapeFault, SelectionFault, selection_in}
use Rattle.erd_meaning.proofs.Common.{NameParts, contests, selections_of_contest, numbered_selections, AreNames, NumberedName, and_then-Some, length, subst}
use Rattle.erd_meaning.proofs.Common.{ListsAll, Fault, none_from_empty, names_of, is_taken, NamesMet, named_all, names_met, nil_from_length, objects, in_at}
use Rattle.erd_meaning.proofs.Common.{keys_found}
use Rattle.erd_meaning.proofs.finding.OneObject.{kept_of, those_kept, among_first, sorted_at}
use Rattle.erd_meaning.proofs.references.ReferenceLookups.{find_both, named_same}
use Rattle.erd_meaning.proofs.selections.NamesTold.{Numbered, in_places, name_list, numbered_rising, of_its_contest, repeats, all_faults, all_names, names_told}
use Rattle.erd_meaning.proofs.selections.NamesTold.{selections_listed, selections_told}
use Rattle.erd_meaning.proofs.accepted.Standing.{stands_of_shape}
use Rattle.erd_meaning.specs.declared.names.selection_walk.SelectionWalk.{SelectionWalk}

-- ---- the key of what an `@id` names

keyed : (π : Preference) (f : Family) (d : Data) → has_keys f ≡ true → key_of_family_object π f d ≡ key_of π d
keyed π f d e = ap (λ b. cond b (key_of π d) None) e

key_found : (π : Preference) (f : Family) (id : List ℕ) (os : List Placed) → has_keys f ≡ true
    → option_and_then (λ k. k.key) (find (keeps_id id) (kept_of π f os)) ≡ option_and_then (key_of π)
    (option_map (λ o. o.value) (find (λ o. has_id id o.value) os))
key_found π f id [] h = refl
key_found π f id (o ∷ os) h =
    rw (named_same id (id_of o.value)) (elim (cases_Bool (has_id id o.value)) [ inl is ↦ rw is (keyed π f o.value h) | inr is ↦ rw is (key_found π f id os h) ])

key_same : (π : Preference) (t : Data) (f : Family) (id : List ℕ) → NoneOf (IdentityFault π t) → has_keys f ≡ true
    → key_among (kept_objects π t) f id ≡ key_named π t f id
key_same π t f id none h =
    ap (option_and_then (λ (k : Kept). k.key)) (among_first π t f id none ∙ find_both (is_of_family f) (keeps_id id) (kept_objects π t)
    ∙ ap (find (keeps_id id)) (those_kept π f t)) ∙ key_found π f id (objects f t) h

-- ---- the keys of a selection

selection_keys_same : (π : Preference) (t : Data) (c : Class) (d : Data) → NoneOf (IdentityFault π t) → keys_of_selection (key_among (kept_objects π t)) c d
    ≡ keys_of_selection (key_named π t) c d
selection_keys_same π t class.CandidateSelection d none = λ i. keys_found (λ id. key_same π t family.Candidate id none refl i)
    (entries_at (codes "CandidateIds") d)
selection_keys_same π t class.PartySelection d none = λ i. keys_found (λ id. key_same π t family.Party id none refl i) (entries_at (codes "PartyIds") d)
selection_keys_same π t c d none = refl

-- ---- names

class_name_same : (π : Preference) (t : Data) (c : Class) (d : Data) → NoneOf (IdentityFault π t) → name_in_class π (key_among (kept_objects π t)) c d
    ≡ name_in_class π (key_named π t) c d
class_name_same π t c d none =
    let keys_equal = selection_keys_same π t c d none in
    λ i. record {
      class = c;
      keys = rising_list key_cmp (keys_equal i);
      write_in = is_write_in c d;
      order = order_of_selection d;
      label = label_of_selection c d;
      identifier = key_of π d;
    }

pub name_same : (π : Preference) (t d : Data) → NoneOf (IdentityFault π t) → name_among π (kept_objects π t) d ≡ name_of π t d
name_same π t d none = at (class_of_object selection_role d)
  where
    at : (o : Option Class) → option_map (λ c. name_in_class π (key_among (kept_objects π t)) c d) o ≡ option_map (λ c. name_in_class π (key_named π t) c d) o
    at None = refl
    at (Some c) = ap Some (class_name_same π t c d none)

-- ---- each selection has a name

selection_class : (t : Data) → NoneOf (ShapeFault t) → (o : Placed) → In o (objects Selection t) → (c : Class)
    × (class_of_object selection_role o.value ≡ Some c)
selection_class t none o i =
    let a : ObjectIn t selection_role o.value =
    object_in t none selection_role o.value (record { place = o.place; is = stands_of_shape t none Selection o i }) in
    (a.class, ap (class_of_object selection_role) a.is_object ∙ a.at.among)

-- the name of each of these
abbrev HaveNames : (Data → Option NameParts) → List Numbered → Type 0
HaveNames name xs = (x : Numbered) → In {A = Numbered} x xs → (n : NameParts) × (name x.1.value ≡ Some n)

selections_named : (π : Preference) (t : Data) → NoneOf (ShapeFault t) → HaveNames (name_of π t) (numbered_selections t)
selections_named π t none x i =
    let contest = of_its_contest t x i in
    let c = selection_class t none x.1 (In-flat_map selections_of_contest x.1 contest.contest (contests t) contest.there contest.inside) in
    (name_in_class π (key_named π t) c.0 x.1.value, ap (option_map (λ k. name_in_class π (key_named π t) k x.1.value)) c.1)

-- ---- the name at a position

abbrev numbered_name : ℕ → Option NameParts → Option NumberedName
numbered_name c o = option_map (λ n. (c, n)) o

first_name : (c : ℕ) (o : Option NameParts) (n : NameParts) (rest : List NumberedName) → o ≡ Some n
    → slice_get {X = NumberedName} (option_map_or (λ n. (c, n) ∷ []) o [] ++ rest) 0 ≡ numbered_name c o
first_name c None n rest e = cc
first_name c (Some m) n rest e = refl

later_name : (c i : ℕ) (o : Option NameParts) (n : NameParts) (rest : List NumberedName) → o ≡ Some n
    → slice_get {X = NumberedName} (option_map_or (λ n. (c, n) ∷ []) o [] ++ rest) (suc i) ≡ slice_get rest i
later_name c i None n rest e = cc
later_name c i (Some m) n rest e = refl

names_at : (name : Data → Option NameParts) (xs : List Numbered) (i : ℕ) → HaveNames name xs
    → slice_get (flat_map (name_list name) xs) i ≡ option_and_then (λ s. numbered_name s.0 (name s.1.value)) (slice_get xs i)
names_at name [] i have = refl
names_at name (x ∷ xs) zero have = let n = have x (inl refl) in first_name x.0 (name x.1.value) n.0 (flat_map (name_list name) xs) n.1
names_at name (x ∷ xs) (suc i) have =
    let n = have x (inl refl) in
    later_name x.0 i (name x.1.value) n.0 (flat_map (name_list name) xs) n.1 ∙ names_at name xs i (λ y j. have y (inr j))

pub names_listed : (π : Preference) (t : Data) → NoneOf (ShapeFault t) → AreNames π t (flat_map (name_list (name_of π t)) (numbered_selections t))
names_listed π t none i = names_at (name_of π t) (numbered_selections t) i (selections_named π t none)

-- ---- one name in one contest

-- the selection at a position, of this contest and with this name
record SelectionAt (π : Preference) (t : Data) (i c : ℕ) (n : NameParts) : Type 0 where
  one : Numbered
  at : slice_get (numbered_selections t) i ≡ Some one
  number : one.0 ≡ c
  named : name_of π t one.1.value ≡ Some n

parts_of : (c d : ℕ) (o : Option NameParts) (n : NameParts) → numbered_name c o ≡ Some (d, n) → (c ≡ d) × (o ≡ Some n)
parts_of c d None n e = cc
parts_of c d (Some m) n e = let parts : ◌≡◌ {A = NumberedName} (c, m) (d, n) =
    cc in (ap (λ (s : NumberedName). s.0) parts, ap (λ (s : NumberedName). Some s.1) parts)

selection_at : (π : Preference) (t : Data) (i c : ℕ) (n : NameParts) → selection_in π t i ≡ Some (c, n) → SelectionAt π t i c n
selection_at π t i c n e =
    let s = and_then-Some (λ (s : Numbered). numbered_name s.0 (name_of π t s.1.value)) (slice_get (numbered_selections t) i) (c, n) e in
    let parts = parts_of s.0.0 c (name_of π t s.0.1.value) n s.2 in record { one = s.0; at = s.1; number = parts.0; named = parts.1 }

two_names : (π : Preference) (t : Data) (i j c : ℕ) (n : NameParts) → NoneOf (SelectionFault π t) → SelectionAt π t i c n → SelectionAt π t j c n → i < j → ⊥
two_names π t i j c n none a b less =
    none b.one.1.place TwinSelection
    (repeats π t b.one a.one n (in_at {A = Numbered} (numbered_selections t) j b.one b.at) (in_at {A = Numbered} (numbered_selections t) i a.one a.at)
    (a.number ∙ sym b.number) b.named a.named
    (sorted_at {A = Numbered} in_places (numbered_selections t) i j a.one b.one (numbered_rising π t) less a.at b.at))

pub one_selection : (π : Preference) (t : Data) (c : ℕ) (n : NameParts) (i j : ℕ) → NoneOf (SelectionFault π t) → selection_in π t i ≡ Some (c, n)
    → selection_in π t j ≡ Some (c, n) → i ≡ j
one_selection π t c n i j none e g =
    let a = selection_at π t i c n e in
    let b = selection_at π t j c n g in
    elim (cases_order i j) [
      | inl same ↦ same
      | inr (inl l) ↦ absurd (two_names π t i j c n none a b l)
      | inr (inr l) ↦ absurd (two_names π t j i c n none b a l)
    ]

-- ---- what the walk over the selections of a report leaves

-- a walk that began with nothing has met the selections of this report, among these objects
pub record NamesWalked (π : Preference) (w v : SelectionWalk) (ks : List Kept) (t : Data) : Type 0 where
  pub no_name : w.names.keys ≡ []
  pub no_fault : w.faults.items ≡ []
  pub kept : ks ≡ kept_objects π t
  pub identified : NoneOf (IdentityFault π t)
  pub met : names_met v ≡ named_all (name_among π ks) (names_met w) (numbered_selections t)

met_by_name : (π : Preference) (w v : SelectionWalk) (ks : List Kept) (t : Data) → NamesWalked π w v ks t → names_met v ≡ named_all (name_of π t) (names_met w)
    (numbered_selections t)
met_by_name π w v ks t h =
    let same : name_among π (kept_objects π t) ≡ name_of π t = λ i d. name_same π t d h.identified i in
    h.met ∙ ap (λ (name : Data → Option NameParts). named_all name (names_met w) (numbered_selections t)) (ap (name_among π) h.kept ∙ same)

walked_faults : (π : Preference) (w v : SelectionWalk) (ks : List Kept) (t : Data) → NamesWalked π w v ks t → v.faults.items ≡ selections_told π t
walked_faults π w v ks t h =
    ap (λ (m : NamesMet). m.faults) (met_by_name π w v ks t h)
    ∙ all_faults (name_of π t) (names_met w) [] (numbered_selections t) (λ c n. ap (λ (ns : List NumberedName). is_taken ns c n) (ap names_of h.no_name))
    ∙ ap (λ (fs : List Fault). fs ++ names_told (name_of π t) [] (numbered_selections t)) h.no_fault

walked_names : (π : Preference) (w v : SelectionWalk) (ks : List Kept) (t : Data) → NamesWalked π w v ks t → v.faults.items ≡ []
    → names_of v.names.keys ≡ flat_map (name_list (name_of π t)) (numbered_selections t)
walked_names π w v ks t h none =
    let told : names_told (name_of π t) (names_met w).names (numbered_selections t) ≡ [] =
    ap (λ (ns : List NumberedName). names_told (name_of π t) ns (numbered_selections t)) (ap names_of h.no_name) ∙ sym (walked_faults π w v ks t h) ∙ none in
    ap (λ (m : NamesMet). m.names) (met_by_name π w v ks t h) ∙ all_names (name_of π t) (names_met w) (numbered_selections t) told
    ∙ ap (λ (ns : List NumberedName). ns ++ flat_map (name_list (name_of π t)) (numbered_selections t)) (ap names_of h.no_name)

pub names_left : (π : Preference) (w v : SelectionWalk) (ks : List Kept) (t : Data) → NamesWalked π w v ks t → NoneOf (ShapeFault t)
    → (fs : List Fault) → fs ≡ v.faults.items → length fs ≡ 0 → AreNames π t (names_of v.names.keys)
names_left π w v ks t h none fs e empty = subst (AreNames π t) (sym (walked_names π w v ks t h (sym e ∙ nil_from_length fs empty))) (names_listed π t none)

pub twins_left : (π : Preference) (w v : SelectionWalk) (ks : List Kept) (t : Data) → NamesWalked π w v ks t → (fs : List Fault) → fs ≡ v.faults.items
    → ListsAll (SelectionFault π t) fs
twins_left π w v ks t h fs e = subst (ListsAll (SelectionFault π t)) (sym (e ∙ walked_faults π w v ks t h)) (selections_listed π t)

pub no_twin_left : (π : Preference) (w v : SelectionWalk) (ks : List Kept) (t : Data) → NamesWalked π w v ks t → (fs : List Fault) → fs ≡ v.faults.items
    → length fs ≡ 0 → NoneOf (SelectionFault π t)
no_twin_left π w v ks t h fs e empty = none_from_empty (SelectionFault π t) fs (twins_left π w v ks t h fs e) empty
