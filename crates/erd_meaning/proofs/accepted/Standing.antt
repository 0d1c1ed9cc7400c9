-- An accepted report has no fault of any phase: its references name objects, each object stands at its place, and no two have
-- one `@id`.
use Rattle.erd_meaning.proofs.Common.{inl, inr, Data, ShapeFault, NoneOf, IsAccepted, Preference, IdentityFault, ReferenceFault, SelectionFault, ◌≡◌, ℕ, suc}
use Rattle.erd_meaning.proofs.Common.{Bool, true, false, not, ◌&&◌, List, [], ◌∷◌, ◌++◌, is_some, is_none, IsTrue, Some, None, codes, Option, find}
use Rattle.erd_meaning.proofs.Common.{option_and_then, sym, refl, ap, ◌∙◌, subst, arith, false_from_ne_true, true_from_ne_false, list_any, string, Family}
use Rattle.erd_meaning.proofs.Common.{family, role, reason, Step, At, Name, not_within, Within, text_at, Asked, asked, asked_at, Reference, has_keys, key_of}
use Rattle.erd_meaning.proofs.Common.{is_reference_fault, is_selection_in, Placed, objects, has_id, owner, is_owned, key_named, Key, cases_Bool}
use Rattle.erd_meaning.proofs.Common.{option_map-Some, some_from, ◌+◌, ◌⊎◌, map, flat_map, ap₂, map-append, array, object, Items, no_items, item, Members}
use Rattle.erd_meaning.proofs.Common.{get_member, get_item, class, kind, entries_in, array_from, list_of_items-place, object_at, report_class, election_class}
use Rattle.erd_meaning.proofs.Common.{not_empty, ObjectAt, asked_at-step, Within-step, Within-root, of_role, asked_inside_object, faultless, wanted_within}
use Rattle.erd_meaning.proofs.Common.{lacks_none, member_within, list_of_items, entries_at, asked_inside, Member, placed_from, placed_entries, elections}
use Rattle.erd_meaning.proofs.Common.{option_map, bytes_eq, Ordering, Less, Equal, Greater, option_map_or, ordering_reverse, place_cmp_total, place_cmp_exact}
use Rattle.erd_meaning.proofs.Common.{role_of_class, place_cmp, kind_of_member, Class, Role, object_in, is_absent, is_filled_array, keyed_list, MayBeArray}
use Rattle.erd_meaning.proofs.Common.{ObjectIn, want_by_kind, Want, IsBefore, NameParts, report_of, contests, selections_of_contest, id_of, name_of, In}
use Rattle.erd_meaning.proofs.Common.{In-flat_map, In-flat_map_from, any_at, contains_from_In}
use Rattle.erd_check.specs.declared.want.Want.TheVariants.{Object}
use Rattle.erd_check.proofs.Exact.{text_exact, text_itself}
use Rattle.erd_meaning.proofs.identity.IdentityFaults.{repeats_id, repeats_key}
use Rattle.erd_meaning.proofs.accepted.HeldObjects.{HeldObject, held_object}

pub no_shape_fault : (π : Preference) (t : Data) → IsAccepted π t → NoneOf (ShapeFault t)
no_shape_fault π t accepted p r h = accepted p r (inl h)

pub no_identity_fault : (π : Preference) (t : Data) → IsAccepted π t → NoneOf (IdentityFault π t)
no_identity_fault π t accepted p r h = accepted p r (inr (no_shape_fault π t accepted, inl h))

pub no_reference_fault : (π : Preference) (t : Data) → IsAccepted π t → NoneOf (ReferenceFault t)
no_reference_fault π t accepted p r h = accepted p r (inr (no_shape_fault π t accepted, inr (no_identity_fault π t accepted, inl h)))

pub no_selection_fault : (π : Preference) (t : Data) → IsAccepted π t → NoneOf (SelectionFault π t)
no_selection_fault π t accepted p r h =
    accepted p r (inr (no_shape_fault π t accepted, inr (no_identity_fault π t accepted, inr (no_reference_fault π t accepted, h))))

pub accepted_by_phases : (π : Preference) (t : Data) → NoneOf (ShapeFault t) → NoneOf (IdentityFault π t) → NoneOf (ReferenceFault t)
    → NoneOf (SelectionFault π t) → IsAccepted π t
accepted_by_phases π t shape identity references selections p r (inl h) = shape p r h
accepted_by_phases π t shape identity references selections p r (inr (n, inl h)) = identity p r h
accepted_by_phases π t shape identity references selections p r (inr (n, inr (m, inl h))) = references p r h
accepted_by_phases π t shape identity references selections p r (inr (n, inr (m, inr (l, h)))) = selections p r h

-- ---- what the references of an accepted report name

found_either : (some any : Bool) → not any ≡ false → (not some && any) ≡ false → some ≡ true
found_either some any h k = grind arith

none_not : {A : Type 0} (o : Option A) → is_none o ≡ not (is_some o)
none_not o = grind arith

-- a reference names an object of its family
pub owned : (π : Preference) (t : Data) → IsAccepted π t → (f : Family) (r : List ℕ) → Within t (asked (Reference f) (string r)) → (o : Data)
    × (owner t f r ≡ Some o)
owned π t accepted f r w =
    let a : Asked = asked (Reference f) (string r) in
    let known : not (is_owned t r) ≡ false =
    false_from_ne_true _ (not_within t a (λ x. IsTrue (is_reference_fault t x reason.Unresolved)) w
    (no_reference_fault π t accepted w.place reason.Unresolved)) in
    let here : (is_none (owner t f r) && is_owned t r) ≡ false =
    false_from_ne_true _ (not_within t a (λ x. IsTrue (is_reference_fault t x reason.WrongFamily)) w
    (no_reference_fault π t accepted w.place reason.WrongFamily)) in
    some_from (owner t f r) (found_either (is_some (owner t f r)) (is_owned t r) known (rw (none_not (owner t f r)) at here))

-- no entry of a set of references repeats an earlier one
pub unrepeated_reference : (π : Preference) (t : Data) → IsAccepted π t → (f : Family) (d : Data) (b : Bool)
    → Within t (record { want = Reference f; value = d; repeated = b }) → Within t (asked (Reference f) d)
unrepeated_reference π t accepted f d true w =
    absurd (not_within t (record { want = Reference f; value = d; repeated = true }) (λ x. IsTrue (is_reference_fault t x reason.Repeated)) w
    (no_reference_fault π t accepted w.place reason.Repeated) refl)
unrepeated_reference π t accepted f d false w = w

-- an entry of a ballot's list is a selection of the contest
pub selected : (π : Preference) (t : Data) → IsAccepted π t → (a : Asked) (contest : Data) (w : Within t a)
    → owner t family.Contest (text_at (codes "ContestId") a.value) ≡ Some contest
    → (i : ℕ) (r : List ℕ) → asked_at t (w.place ++ Name (codes "OrderedContestSelectionIds") ∷ At i ∷ [])
    ≡ Some (asked (Reference family.Selection) (string r)) → is_selection_in contest r ≡ true
selected π t accepted a contest w names i r e =
    let p : List Step = w.place ++ Name (codes "OrderedContestSelectionIds") ∷ At i ∷ [] in
    let stands : is_some (owner t family.Selection r) ≡ true = ap is_some (owned π t accepted family.Selection r (record { place = p; is = e })).1 in
    true_from_ne_false (is_selection_in contest r) (λ h. no_reference_fault π t accepted p reason.SelectionOfOtherContest (record {
      object_place = w.place;
      position = i;
      place = refl;
      ordered_contest = a;
      ordered_contest_stands = w.is;
      entry = asked (Reference family.Selection) (string r);
      entry_stands = e;
      elsewhere = rw (stands, names, h);
    }))

-- what is found passes, and stands in the list
pub find-Some : {A : Type 0} (test : A → Bool) (xs : List A) (x : A) → find test xs ≡ Some x → In x xs × (test x ≡ true)
find-Some test [] x e = cc
find-Some test (y ∷ ys) x e = elim (cases_Bool (test y)) [
  | inl is ↦ let f : Some y ≡ Some x = rw is at e in let g : y ≡ x = cc in (subst (λ z. In z (y ∷ ys)) g (inl refl), subst (λ z. test z ≡ true) g is)
  | inr is ↦ let r = find-Some test ys x (rw is at e) in (inr r.0, r.1)
]

pub find-any : {A : Type 0} (test : A → Bool) (xs : List A) → list_any test xs ≡ true → (x : A) × (find test xs ≡ Some x) × (test x ≡ true) × In x xs
find-any test [] e = cc
find-any test (x ∷ xs) e = elim (cases_Bool (test x)) [
  | inl is ↦ (x, rw is, is, inl refl)
  | inr is ↦ let r = find-any test xs (rw is at e) in
      (r.0, rw is r.1, r.2, inr r.3)
]

-- an object of a family that is named by keys has one
pub has_identifier : (π : Preference) (t : Data) → NoneOf (IdentityFault π t) → (f : Family) (o : Placed) → has_keys f ≡ true → In o (objects f t) → (k : Key)
    × (key_of π o.value ≡ Some k)
has_identifier π t none f o keyed h = at (key_of π o.value) refl
  where
    at : (k : Option Key) → key_of π o.value ≡ k → (l : Key) × (key_of π o.value ≡ Some l)
    at None e =
        absurd (none o.place reason.NoIdentifier
        (record { role = role.OfFamily f; needed = keyed; placed = o; stands = contains_from_In o (objects f t) h; place = refl; keyless = e }))
    at (Some k) e = (k, e)

-- a reference names an object that has a key
pub resolves : (π : Preference) (t : Data) → IsAccepted π t → (f : Family) (r : List ℕ) → has_keys f ≡ true → Within t (asked (Reference f) (string r))
    → (k : Key) × (key_named π t f r ≡ Some k)
resolves π t accepted f r keyed w =
    let o = owned π t accepted f r w in
    let x = option_map-Some (λ x. x.value) (find (λ x. has_id r x.value) (objects f t)) o.0 o.1 in
    let k = has_identifier π t (no_identity_fault π t accepted) f x.0 keyed (find-Some (λ x. has_id r x.value) (objects f t) x.0 x.1).0 in
    (k.0, ap (option_and_then (key_of π)) o.1 ∙ ap (key_of π) (sym x.2) ∙ k.1)

-- ---- the report and its elections, and where the objects of families stand

-- the report and the array of its elections
pub record Skeleton (t : Data) : Type 0 where
  pub ms : Members
  pub is_object : t ≡ object ms
  pub report : ObjectAt t (Object role.Report) role.Report class.ElectionReport ms
  pub es : Items
  pub listed : get_member (codes "Election") ms ≡ Some (array es)
  pub inside : Within t (asked (Member kind.Elections false) (array es))
  pub filled : ¬ (es ≡ no_items)

pub skeleton_of_shape : (t : Data) → NoneOf (ShapeFault t) → Skeleton t
skeleton_of_shape t none = at (get_member (codes "Election") ms) refl
  where
    top : (ms : Members) × (t ≡ object ms) × ObjectAt t (Object role.Report) role.Report class.ElectionReport ms
    top = object_at t none role.Report class.ElectionReport report_class t (Within-root t)

    ms : Members
    ms = top.0

    at : (o : Option Data) → get_member (codes "Election") ms ≡ o → Skeleton t
    at None e = absurd (lacks_none t none (asked (Object role.Report) (object ms)) (codes "Election") top.2.inside (rw top.2.typed refl) e)
    at (Some v) e =
        let inside : Within t (asked (Member kind.Elections false) v) =
        member_within t none (Object role.Report) role.Report ms class.ElectionReport (codes "Election") v of_role top.2.among refl top.2.inside e in
        let ds = array_from v (wanted_within t none (asked (Member kind.Elections false) v) inside) in
        let inside' : Within t (asked (Member kind.Elections false) (array ds.0)) = subst (λ x. Within t (asked (Member kind.Elections false) x)) ds.1 inside in
        record {
          ms = ms;
          is_object = top.1;
          report = top.2;
          es = ds.0;
          listed = e ∙ ap Some ds.1;
          inside = inside';
          filled = not_empty ds.0 (faultless t none (asked (Member kind.Elections false) (array ds.0)) reason.ElectionCount inside');
        }

pub skeleton : (π : Preference) (t : Data) → IsAccepted π t → Skeleton t
skeleton π t accepted = skeleton_of_shape t (no_shape_fault π t accepted)

-- ---- entries and their places

pub values-placed_from : (p : List Step) (i : ℕ) (ds : List Data) → map (λ o. o.value) (placed_from p i ds) ≡ ds
values-placed_from p i [] = refl
values-placed_from p i (d ∷ ds) = ap (◌∷◌ d) (values-placed_from p (i + 1) ds)

pub values-placed_entries : (name : List ℕ) (o : Placed) → map (λ o. o.value) (placed_entries name o) ≡ entries_at name o.value
values-placed_entries name o = values-placed_from (o.place ++ Name name ∷ []) 0 (entries_at name o.value)

-- the entries of the arrays of several objects
pub values-placed_flat : (name : List ℕ) (os : List Placed) → map (λ o. o.value) (flat_map (placed_entries name) os) ≡ flat_map (entries_at name)
    (map (λ o. o.value) os)
values-placed_flat name [] = refl
values-placed_flat name (o ∷ os) =
    map-append (λ (o : Placed). o.value) (placed_entries name o) (flat_map (placed_entries name) os) ∙ ap₂ ◌++◌ (values-placed_entries name o)
    (values-placed_flat name os)

-- where an entry of an array stands
pub placed_index : (p : List Step) (i : ℕ) (ds : Items) (o : Placed) → In o (placed_from p i (list_of_items ds)) → (j : ℕ) × (o.place ≡ p ++ At (i + j) ∷ [])
    × (get_item j ds ≡ Some o.value)
placed_index p i no_items o h = elim h [ ]
placed_index p i (item d ds) o h = at h (placed_index p (i + 1) ds o)
  where
    Found : Type 0
    Found = (j : ℕ) × (o.place ≡ p ++ At (i + j) ∷ []) × (get_item j (item d ds) ≡ Some o.value)

    at : (◌≡◌ {A = Placed} (record { place = p ++ At i ∷ []; value = d }) o) ⊎ In o (placed_from p (i + 1) (list_of_items ds))
        → (In o (placed_from p (i + 1) (list_of_items ds)) → (j : ℕ) × (o.place ≡ p ++ At (i + 1 + j) ∷ []) × (get_item j ds ≡ Some o.value)) → (j : ℕ)
        × (o.place ≡ p ++ At (i + j) ∷ []) × (get_item j (item d ds) ≡ Some o.value)
    at (inl e) k = let s : i ≡ i + 0 = omega arith in (0, sym (ap (λ x. x.place) e) ∙ ap (λ n. p ++ At n ∷ []) s, ap (λ x. Some x.value) e)
    at (inr m) k = let r = k m in let s : i + 1 + r.0 ≡ i + suc r.0 = omega arith in (suc r.0, r.1 ∙ ap (λ n. p ++ At n ∷ []) s, r.2)

-- ---- the elections

pub election_entries : (t : Data) (s : Skeleton t) → entries_at (codes "Election") t ≡ list_of_items s.es
election_entries t s = ap (entries_at (codes "Election")) s.is_object ∙ ap entries_in s.listed

pub elections_placed : (t : Data) (s : Skeleton t) → elections t ≡ placed_from (Name (codes "Election") ∷ []) 0 (list_of_items s.es)
elections_placed t s = ap (placed_from (Name (codes "Election") ∷ []) 0) (election_entries t s)

-- what stands in the elections, one election after another
pub values_in_elections : (t : Data) (s : Skeleton t) (name : List ℕ) → map (λ o. o.value) (flat_map (placed_entries name) (elections t))
    ≡ flat_map (entries_at name) (list_of_items s.es)
values_in_elections t s name =
    values-placed_flat name (elections t)
    ∙ ap (flat_map (entries_at name)) (values-placed_from (Name (codes "Election") ∷ []) 0 (entries_at (codes "Election") t) ∙ election_entries t s)

-- each election stands at its place
pub election_stands : (t : Data) (s : Skeleton t) (e : Placed) → In e (elections t) → asked_at t e.place ≡ Some (asked (Object role.Election) e.value)
election_stands t s e h =
    let j = placed_index (Name (codes "Election") ∷ []) 0 s.es e (subst (λ os. In e os) (elections_placed t s) h) in
    let same : 0 + j.0 ≡ j.0 = omega arith in
    ap (asked_at t) (j.1 ∙ ap (λ n. Name (codes "Election") ∷ At n ∷ []) same)
    ∙ asked_at-step t (Name (codes "Election") ∷ []) (asked (Member kind.Elections false) (array s.es)) (asked (Object role.Election) e.value) (At j.0)
    (asked_at-step t [] (asked (Object role.Report) t) (asked (Member kind.Elections false) (array s.es)) (Name (codes "Election")) refl
    (subst (λ x. asked_inside (Object role.Report) x (Name (codes "Election")) ≡ Some (asked (Member kind.Elections false) (array s.es))) (sym s.is_object)
    (asked_inside_object (Object role.Report) role.Report s.ms class.ElectionReport (codes "Election") (array s.es) s.report.asks
    s.report.among refl s.listed)))
    (rw j.2)

-- each value of the array of elections is asked to be an election
pub election_within : (t : Data) (s : Skeleton t) (d : Data) → In d (list_of_items s.es) → Within t (asked (Object role.Election) d)
election_within t s d h =
    let p = list_of_items-place s.es d h in
    Within-step t (asked (Member kind.Elections false) (array s.es)) (asked (Object role.Election) d) (At p.0) s.inside (rw p.1)

-- and is an object of the class of elections
pub election_object : (t : Data) → NoneOf (ShapeFault t) → (d : Data) → Within t (asked (Object role.Election) d) → (ms : Members) × (d ≡ object ms)
    × ObjectAt t (Object role.Election) role.Election class.Election ms
election_object t none d w = object_at t none role.Election class.Election election_class d w

-- ---- each object stands at its place, and no two have one `@id`

-- the objects in an array stand at their places
entries_found : (t : Data) (parent : Placed) (w : Want) (q : Role) (c : Class) (ms : Members) → parent.value ≡ object ms → ObjectAt t w q c ms
    → asked_at t parent.place ≡ Some (asked w (object ms))
    → (f : Family) (name : List ℕ) → bytes_eq name (codes "@type") ≡ false → kind_of_member c name ≡ kind.Keyed f
    → (found_at : Option Data) → get_member name ms ≡ found_at → MayBeArray (λ ds. Within t (asked (Member (kind.Keyed f) false) (array ds))) found_at
    → (o : Placed) → In o (placed_from (parent.place ++ Name name ∷ []) 0 (entries_in found_at)) → asked_at t o.place
    ≡ Some (asked (Object (role.OfFamily f)) o.value)
entries_found t parent w q c ms is a stands f name other keyed found_at e is_absent o h = elim h [ ]
entries_found t parent w q c ms is a stands f name other keyed found_at e (is_filled_array {ds = ds} inside) o h =
    let j = placed_index (parent.place ++ Name name ∷ []) 0 ds o h in
    let above : asked_at t (parent.place ++ Name name ∷ []) ≡ Some (asked (Member (kind.Keyed f) false) (array ds)) =
    asked_at-step t parent.place (asked w (object ms)) (asked (Member (kind.Keyed f) false) (array ds)) (Name name) stands
    (asked_inside_object w q ms c name (array ds) a.asks a.among other e ∙ ap (λ x. Some (asked x (array ds)))
    (want_by_kind c name (kind.Keyed f) keyed refl)) in
    let s : 0 + j.0 ≡ j.0 = omega arith in
    ap (asked_at t) (j.1 ∙ ap (λ n. (parent.place ++ Name name ∷ []) ++ At n ∷ []) s)
    ∙ asked_at-step t (parent.place ++ Name name ∷ []) (asked (Member (kind.Keyed f) false) (array ds)) (asked (Object (role.OfFamily f)) o.value)
    (At j.0) above (rw j.2)

pub placed_found : (t : Data) → NoneOf (ShapeFault t) → (parent : Placed) (w : Want) (q : Role) (c : Class) (ms : Members) → parent.value ≡ object ms
    → ObjectAt t w q c ms → asked_at t parent.place ≡ Some (asked w (object ms))
    → (f : Family) (name : List ℕ) → bytes_eq name (codes "@type") ≡ false → kind_of_member c name ≡ kind.Keyed f
    → (o : Placed) → In o (placed_entries name parent) → asked_at t o.place ≡ Some (asked (Object (role.OfFamily f)) o.value)
placed_found t none parent w q c ms is a stands f name other keyed o h =
    entries_found t parent w q c ms is a stands f name other keyed (get_member name ms) refl
    (keyed_list t none w q c ms a f name other keyed (get_member name ms) refl) o
    (subst (λ x. In o (placed_from (parent.place ++ Name name ∷ []) 0 (entries_at name x))) is h)

in_report : (t : Data) → NoneOf (ShapeFault t) → (s : Skeleton t) (f : Family) (name : List ℕ) → bytes_eq name (codes "@type") ≡ false
    → kind_of_member class.ElectionReport name ≡ kind.Keyed f
    → (o : Placed) → In o (placed_entries name (report_of t)) → asked_at t o.place ≡ Some (asked (Object (role.OfFamily f)) o.value)
in_report t none s f name other keyed o h =
    placed_found t none (report_of t) (Object role.Report) role.Report class.ElectionReport s.ms s.is_object s.report
    (ap (λ x. Some (asked (Object role.Report) x)) s.is_object) f name other keyed o h

in_election : (t : Data) → NoneOf (ShapeFault t) → (s : Skeleton t) (f : Family) (name : List ℕ) → bytes_eq name (codes "@type") ≡ false
    → kind_of_member class.Election name ≡ kind.Keyed f
    → (o : Placed) → In o (flat_map (placed_entries name) (elections t)) → asked_at t o.place ≡ Some (asked (Object (role.OfFamily f)) o.value)
in_election t none s f name other keyed o h =
    let held : HeldObject t name o = held_object t name o h in
    let e : Placed = held.election in
    let stands : asked_at t e.place ≡ Some (asked (Object role.Election) e.value) = election_stands t s e held.stands in
    let at = election_object t none e.value (record { place = e.place; is = stands }) in
    placed_found t none e (Object role.Election) role.Election class.Election at.0 at.1 at.2 (stands ∙ ap (λ x. Some (asked (Object role.Election) x)) at.1) f
    name other keyed o held.holds

-- an object of a family stands at its place
keyed_stands : (t : Data) → NoneOf (ShapeFault t) → (s : Skeleton t) (f : Family) → has_keys f ≡ true → (o : Placed) → In o (objects f t) → asked_at t o.place
    ≡ Some (asked (Object (role.OfFamily f)) o.value)
keyed_stands t none s family.Unit k o h = in_report t none s family.Unit (codes "GpUnit") refl refl o h
keyed_stands t none s family.Party k o h = in_report t none s family.Party (codes "Party") refl refl o h
keyed_stands t none s family.Person k o h = in_report t none s family.Person (codes "Person") refl refl o h
keyed_stands t none s family.Office k o h = in_report t none s family.Office (codes "Office") refl refl o h
keyed_stands t none s family.Header k o h = in_report t none s family.Header (codes "Header") refl refl o h
keyed_stands t none s family.Candidate k o h = in_election t none s family.Candidate (codes "Candidate") refl refl o h
keyed_stands t none s family.Contest k o h = in_election t none s family.Contest (codes "Contest") refl refl o h
keyed_stands t none s family.Style k o h = in_election t none s family.Style (codes "BallotStyle") refl refl o h
keyed_stands t none s family.Selection k o h = cc

pub contest_selections : (c : Class) → role_of_class c ≡ role.OfFamily family.Contest → kind_of_member c (codes "ContestSelection")
    ≡ kind.Keyed family.Selection
contest_selections class.CandidateContest e = refl
contest_selections class.BallotMeasureContest e = refl
contest_selections class.RetentionContest e = refl
contest_selections class.PartyContest e = refl
contest_selections c e = cc

-- a selection stands at its place in its contest
selection_stands : (t : Data) → NoneOf (ShapeFault t) → (contest : Placed) → asked_at t contest.place
    ≡ Some (asked (Object (role.OfFamily family.Contest)) contest.value)
    → (o : Placed) → In o (placed_entries (codes "ContestSelection") contest) → asked_at t o.place
    ≡ Some (asked (Object (role.OfFamily family.Selection)) o.value)
selection_stands t none contest stands o h =
    let a : ObjectIn t (role.OfFamily family.Contest) contest.value =
    object_in t none (role.OfFamily family.Contest) contest.value (record { place = contest.place; is = stands }) in
    placed_found t none contest (Object (role.OfFamily family.Contest)) (role.OfFamily family.Contest) a.class a.ms a.is_object a.at
    (stands ∙ ap (λ x. Some (asked (Object (role.OfFamily family.Contest)) x)) a.is_object) family.Selection (codes "ContestSelection") refl
    (contest_selections a.class a.role) o h

pub stands_of_shape : (t : Data) → NoneOf (ShapeFault t) → (f : Family) (o : Placed) → In o (objects f t) → asked_at t o.place
    ≡ Some (asked (Object (role.OfFamily f)) o.value)
stands_of_shape t none family.Selection o h =
    let c = In-flat_map_from (placed_entries (codes "ContestSelection")) (contests t) o h in
    selection_stands t none c.0 (keyed_stands t none (skeleton_of_shape t none) family.Contest refl c.0 c.1) o c.2
stands_of_shape t none d o h = keyed_stands t none (skeleton_of_shape t none) d refl o h

pub stands : (π : Preference) (t : Data) → IsAccepted π t → (f : Family) (o : Placed) → In o (objects f t) → asked_at t o.place
    ≡ Some (asked (Object (role.OfFamily f)) o.value)
stands π t accepted = stands_of_shape t (no_shape_fault π t accepted)

-- two objects of which neither is before the other are one
pub one_placed : (π : Preference) (t : Data) → IsAccepted π t → (f g : Family) (o p : Placed) → In o (objects f t) → In p (objects g t) → (IsBefore o p → ⊥)
    → (IsBefore p o → ⊥) → o ≡ p
one_placed π t accepted f g o p h k before after = at (place_cmp o.place p.place) refl
  where
    at : (c : Ordering) → place_cmp o.place p.place ≡ c → o ≡ p
    at Less is = absurd (before is)
    at Equal is =
        let same : o.place ≡ p.place = place_cmp_exact o.place p.place is in
        let both : Some (asked (Object (role.OfFamily f)) o.value) ≡ Some (asked (Object (role.OfFamily g)) p.value) =
        sym (stands π t accepted f o h) ∙ ap (asked_at t) same ∙ stands π t accepted g p k in
        let one : asked (Object (role.OfFamily f)) o.value ≡ asked (Object (role.OfFamily g)) p.value = cc in
        let values : o.value ≡ p.value = ap (λ a. a.value) one in
        λ i. record { place = same i; value = values i }
    at Greater is = absurd (after (place_cmp_total.antisymm p.place o.place ∙ ap ordering_reverse is))

-- a later object has not the `@id` of an earlier one
no_second_id : (π : Preference) (t : Data) → IsAccepted π t → (f g : Family) (o p : Placed) (r : List ℕ) → In o (objects f t) → In p (objects g t)
    → id_of o.value ≡ Some r → id_of p.value ≡ Some r → ¬ IsBefore o p
no_second_id π t accepted f g o p r h k e l is = no_identity_fault π t accepted (p.place ++ Name (codes "@id") ∷ []) reason.DuplicateId
    (repeats_id t g f p o r (contains_from_In p (objects g t) k) (contains_from_In o (objects f t) h) is l e)

-- two objects with one `@id` are one
pub one_object : (π : Preference) (t : Data) → IsAccepted π t → (f g : Family) (o p : Placed) (r : List ℕ) → In o (objects f t) → In p (objects g t)
    → id_of o.value ≡ Some r → id_of p.value ≡ Some r → o ≡ p
one_object π t accepted f g o p r h k e l =
    one_placed π t accepted f g o p h k (no_second_id π t accepted f g o p r h k e l) (no_second_id π t accepted g f p o r k h l e)

-- a later object of a family has not the key of an earlier one
no_twin : (π : Preference) (t : Data) → IsAccepted π t → (f : Family) (o p : Placed) (k : Key) → has_keys f ≡ true → In o (objects f t) → In p (objects f t)
    → key_of π o.value ≡ Some k → key_of π p.value ≡ Some k → ¬ IsBefore o p
no_twin π t accepted f o p k keyed h i e l is = no_identity_fault π t accepted p.place reason.TwinIdentifier
    (repeats_key π t (role.OfFamily f) p o k keyed (contains_from_In p (objects f t) i) (contains_from_In o (objects f t) h) is l e)

-- two objects of a family with one key are one
pub one_keyed : (π : Preference) (t : Data) → IsAccepted π t → (f : Family) (o p : Placed) (k : Key) → has_keys f ≡ true → In o (objects f t)
    → In p (objects f t) → key_of π o.value ≡ Some k → key_of π p.value ≡ Some k → o ≡ p
one_keyed π t accepted f o p k keyed h i e l =
    one_placed π t accepted f f o p h i (no_twin π t accepted f o p k keyed h i e l) (no_twin π t accepted f p o k keyed i h l e)

-- a later selection of a contest has not the name of an earlier one
no_second_name : (π : Preference) (t : Data) → IsAccepted π t → (contest o p : Placed) (n : NameParts) → In contest (objects family.Contest t)
    → In o (selections_of_contest contest) → In p (selections_of_contest contest) → name_of π t o.value ≡ Some n → name_of π t p.value ≡ Some n → ¬ IsBefore o p
no_second_name π t accepted contest o p n c h k e l is = no_selection_fault π t accepted p.place reason.TwinSelection (record {
  contest = contest;
  contest_stands = contains_from_In contest (objects family.Contest t) c;
  later = p;
  later_stands = contains_from_In p (selections_of_contest contest) k;
  place = refl;
  earlier = o;
  earlier_stands = contains_from_In o (selections_of_contest contest) h;
  before = is;
  name = n;
  later_name = l;
  earlier_name = e;
})

-- two selections of a contest with one name are one
pub one_named : (π : Preference) (t : Data) → IsAccepted π t → (contest o p : Placed) (n : NameParts) → In contest (objects family.Contest t)
    → In o (selections_of_contest contest) → In p (selections_of_contest contest) → name_of π t o.value ≡ Some n → name_of π t p.value ≡ Some n → o ≡ p
one_named π t accepted contest o p n c h k e l =
    one_placed π t accepted family.Selection family.Selection o p (In-flat_map selections_of_contest o contest (contests t) c h)
    (In-flat_map selections_of_contest p contest (contests t) c k)
    (no_second_name π t accepted contest o p n c h k e l) (no_second_name π t accepted contest p o n c k h l e)

pub has_id-Some : (r : List ℕ) (d : Data) → has_id r d ≡ true → id_of d ≡ Some r
has_id-Some r d e = at (id_of d) e
  where
    at : (o : Option (List ℕ)) → option_map_or (bytes_eq r) o false ≡ true → o ≡ Some r
    at None h = cc
    at (Some s) h = ap Some (sym (text_exact r s h))

pub has_id-from : (r : List ℕ) (d : Data) → id_of d ≡ Some r → has_id r d ≡ true
has_id-from r d e = ap (λ o. option_map_or (bytes_eq r) o false) e ∙ text_itself r

-- an object owns its `@id`
pub owner_is : (π : Preference) (t : Data) → IsAccepted π t → (f : Family) (o : Placed) (r : List ℕ) → In o (objects f t) → id_of o.value ≡ Some r
    → owner t f r ≡ Some o.value
owner_is π t accepted f o r h e =
    let x = find-any (λ o. has_id r o.value) (objects f t) (any_at (λ o. has_id r o.value) o (objects f t) h (has_id-from r o.value e)) in
    ap (option_map (λ o. o.value)) x.1 ∙ ap (λ x. Some x.value) (one_object π t accepted f f x.0 o r x.3 h (has_id-Some r x.0.value x.2) e)

-- the object that an `@id` names
pub owned_by : (t : Data) (f : Family) (r : List ℕ) (d : Data) → owner t f r ≡ Some d → (o : Placed) × In o (objects f t) × (o.value ≡ d) × (id_of d ≡ Some r)
owned_by t f r d e =
    let x = option_map-Some (λ o. o.value) (find (λ o. has_id r o.value) (objects f t)) d e in
    let y = find-Some (λ o. has_id r o.value) (objects f t) x.0 x.1 in
    (x.0, y.0, x.2, ap id_of (sym x.2) ∙ has_id-Some r x.0.value y.1)
