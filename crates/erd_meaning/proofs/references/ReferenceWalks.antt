-- The walk that judges references tells exactly the faults of references; a selection is referred to in the list of an object
-- alone.
use Rattle.erd_meaning.proofs.Common.{◌≡◌, ℕ, ◌-◌, ◌<◌, ◌≤◌, Bool, true, false, cond, not, ◌&&◌, List, [], ◌∷◌, ◌++◌, length, take, Some, None, codes, filter}
use Rattle.erd_meaning.proofs.Common.{Option, option_map, option_and_then, bytes_eq, sym, refl, ap, ◌∙◌, subst, true≢false, arith, length-drop}
use Rattle.erd_meaning.proofs.Common.{take-append-drop, and_parts, and_from, bytes_eq-Decides, list_all, option_map_or, Data, array, object, get_member}
use Rattle.erd_meaning.proofs.Common.{get_item, reason_cmp, ListsAll, Row, rows_of_class, kind_of_identity, kind_of_member, is_required, Class, class, Family}
use Rattle.erd_meaning.proofs.Common.{family, Report, Fault, Reason, SelectionOfOtherContest, MemberKind, kind, Step, At, Name, tree_in_order, In, In-filter}
use Rattle.erd_meaning.proofs.Common.{In-filter_kept, IsStrictlySortedBy-filter, kind_of_name, kind_of_id, outer_place, IsTree, scope_inside, want_of_kind}
use Rattle.erd_meaning.proofs.Common.{is_report_class, member_want, carried_want, want_of_name, entry_want, is_compared_set, Asked, asked, is_repeated}
use Rattle.erd_meaning.proofs.Common.{asked_of_member, asked_inside, asked_from, asked_at, Want, ClassText, Member, Reference, Status, is_reference_fault}
use Rattle.erd_meaning.proofs.Common.{is_other_selection, ReferenceFault, inl, inr, cases_Bool, is_none, ap₂, append-nil, and-false, as_str, Repeated}
use Rattle.erd_meaning.proofs.Common.{Unresolved, WrongFamily, walk_lists, Agrees, Around, NoneOf, told_of_report, IsInOrder, Preference, IdentityFault}
use Rattle.erd_meaning.proofs.Common.{is_in_other_contest, owner, is_owned, kept_objects, is_known, is_of_others, is_selection_family, is_elsewhere, reason_if}
use Rattle.erd_meaning.proofs.Common.{id_reasons, reference_reasons_told, and-true, Carried}
use Rattle.erd_check.specs.declared.want.Scope.{Scope, Scope as scope}
use Rattle.erd_check.specs.declared.want.Want.TheVariants.{Object}
use Rattle.erd_check.proofs.Walks.{faults_asked, faults_asked_listed, AreReasons}
use Rattle.erd_check.proofs.Positions.{and_then-Some}
use Rattle.erd_meaning.proofs.references.ReferenceFaultLists.{are_entry_steps, fault_of_reason, has_reference_reason, stands_elsewhere, last_steps}
use Rattle.erd_meaning.proofs.references.ReferenceFaultLists.{reason_of_fault, reference_reasons, reference_reasons_rise}
use Rattle.erd_check.specs.code.Walk.{asked_with}
use Rattle.erd_meaning.proofs.references.ReferenceLookups.{known_same, owner_same, elsewhere_same}

-- ---- the table

abbrev is_selection : Family → Bool
is_selection family.Selection = true
is_selection f = false

abbrev list_name : List ℕ
list_name = codes "OrderedContestSelectionIds"

-- a member of this name has references to selections only if it is the list
abbrev fits_name : List ℕ → MemberKind → Bool
fits_name name kind.Ordered = bytes_eq name list_name
fits_name name (kind.One f) = not (is_selection f)
fits_name name (kind.Many f) = not (is_selection f)
fits_name name k = true

abbrev row_fits : Row → Bool
row_fits m = fits_name m.name m.kind

rows_fit : (c : Class) → list_all row_fits (rows_of_class c) ≡ true
rows_fit class.ElectionReport = refl
rows_fit c = refl

identity_fits : (name : List ℕ) (c : Class) → fits_name name (kind_of_identity c) ≡ true
identity_fits name class.ElectionReport = refl
identity_fits name c = refl

kind_fits : (c : Class) (name : List ℕ) → bytes_eq name (codes "@type") ≡ false → fits_name name (kind_of_member c name) ≡ true
kind_fits c name other = at (bytes_eq name (codes "@id")) refl
  where
    at : (b : Bool) → bytes_eq name (codes "@id") ≡ b → fits_name name (kind_of_member c name) ≡ true
    at true is =
        let same : name ≡ codes "@id" = (bytes_eq-Decides name (codes "@id")).0 is in
        subst (λ n. fits_name n (kind_of_member c n) ≡ true) (sym same) (ap (fits_name (codes "@id")) (kind_of_id c) ∙ identity_fits (codes "@id") c)
    at false is =
        kind_of_name row_fits (fits_name name) c name other is (rows_fit c)
        (λ m h e. subst (λ n. fits_name n m.kind ≡ true) (sym ((bytes_eq-Decides name m.name).0 e)) h) refl refl

-- ---- what is asked of a member of this name

abbrev want_fits : List ℕ → Want → Bool
want_fits name (Reference f) = not (is_selection f)
want_fits name (Member k required) = fits_name name k
want_fits name w = true

kind_wanted_fits : (name : List ℕ) (k : MemberKind) (required : Bool) → fits_name name k ≡ true → want_fits name (want_of_kind k required) ≡ true
kind_wanted_fits name (kind.One f) required h = h
kind_wanted_fits name kind.Carried required h = refl
kind_wanted_fits name k required h = h

cond_fits : (name : List ℕ) (b : Bool) (v w : Want) → want_fits name v ≡ true → want_fits name w ≡ true → want_fits name (cond b v w) ≡ true
cond_fits name true v w h k = h
cond_fits name false v w h k = k

member_fits : (c : Class) (name : List ℕ) → bytes_eq name (codes "@type") ≡ false → want_fits name (member_want c name) ≡ true
member_fits c name other =
    cond_fits name (is_report_class c && bytes_eq name (codes "Status")) Status (want_of_kind (kind_of_member c name) (is_required c name)) refl
    (kind_wanted_fits name (kind_of_member c name) (is_required c name) (kind_fits c name other))

some_fits : (name : List ℕ) (v w : Want) → Some v ≡ Some w → want_fits name v ≡ true → want_fits name w ≡ true
some_fits name v w e h = let same : v ≡ w = cc in subst (λ x. want_fits name x ≡ true) same h

named_fits : (s : Scope) (name : List ℕ) (w : Want) → want_of_name s name ≡ Some w → want_fits name w ≡ true
named_fits scope.Nothing name w e = cc
named_fits (scope.Members r None) name w e =
    elim (cases_Bool (bytes_eq name (codes "@type"))) [
      | inl is ↦ some_fits name (ClassText r) w (rw is at e) refl
      | inr is ↦ (let h : None ≡ Some w = rw is at e in cc)
    ]
named_fits (scope.Members r (Some c)) name w e = at (bytes_eq name (codes "@type")) refl e
  where
    at : (b : Bool) → bytes_eq name (codes "@type") ≡ b → cond b (Some (ClassText r)) (Some (member_want c name)) ≡ Some w → want_fits name w ≡ true
    at true is e = some_fits name (ClassText r) w e refl
    at false is e = some_fits name (member_want c name) w e (member_fits c name is)
named_fits scope.Carried name w e =
    some_fits name (carried_want name) w e (cond_fits name _ (Member kind.StrangeIdentity false) Carried refl refl)

-- ---- steps to a reference to a selection

abbrev pub wants_selection : Want → Bool
wants_selection (Reference family.Selection) = true
wants_selection w = false

-- the array whose entries are such references
abbrev lists_selections : Want → Bool
lists_selections (Member kind.Ordered required) = true
lists_selections (Member (kind.Many family.Selection) required) = true
lists_selections w = false

-- what is asked of a value that is found
member_found : (v : Option Want) (d : Option Data) (a : Asked) → asked_of_member v d ≡ Some a → v ≡ Some a.want
member_found None d a e = cc
member_found (Some w) None a e = cc
member_found (Some w) (Some d) a e = let h : asked w d ≡ a = cc in ap (λ (x : Asked). Some x.want) h

entry_found : (v : Option Want) (make : Want → Data → Asked) → ((w : Want) (d : Data) → (make w d).want ≡ w) → (d : Option Data) (a : Asked)
    → option_and_then (λ w. option_map (make w) d) v ≡ Some a → v ≡ Some a.want
entry_found None make keeps d a e = cc
entry_found (Some w) make keeps None a e = cc
entry_found (Some w) make keeps (Some d) a e = let h : make w d ≡ a = cc in ap Some (sym (keeps w d)) ∙ ap (λ (x : Asked). Some x.want) h

by_name : (w : Want) (d : Data) (n : List ℕ) (a : Asked) → asked_inside w d (Name n) ≡ Some a → (s : Scope) × (want_of_name s n ≡ Some a.want)
by_name w (object ms) n a e = (scope_inside w (object ms), member_found (want_of_name (scope_inside w (object ms)) n) (get_member n ms) a e)
by_name w d n a e = cc

by_entry : (w : Want) (d : Data) (i : ℕ) (a : Asked) → asked_inside w d (At i) ≡ Some a → entry_want w ≡ Some a.want
by_entry w (array ds) i a e = entry_found (entry_want w) (λ v d. record { want = v; value = d; repeated = is_compared_set w && is_repeated ds i d })
    (λ v d. refl) (get_item i ds) a e
by_entry w d i a e = cc

abbrev some_wants : Option Want → Bool
some_wants None = false
some_wants (Some w) = wants_selection w

abbrev some_lists : Option Want → Bool
some_lists None = false
some_lists (Some w) = lists_selections w

no_member : (n : List ℕ) (w : Want) → want_fits n w ≡ true → wants_selection w ≡ true → ⊥
no_member n (Reference family.Selection) h k = cc
no_member n w h k = cc

list_named : (n : List ℕ) (w : Want) → want_fits n w ≡ true → lists_selections w ≡ true → bytes_eq n list_name ≡ true
list_named n (Member kind.Ordered required) h k = h
list_named n (Member (kind.Many family.Selection) required) h k = cc
list_named n w h k = cc

list_of_entry : (w : Want) → some_wants (entry_want w) ≡ true → lists_selections w ≡ true
list_of_entry (Member kind.Ordered required) h = refl
list_of_entry (Member (kind.Many family.Selection) required) h = refl
list_of_entry w h = cc

no_list_of_lists : (w : Want) → some_lists (entry_want w) ≡ true → ⊥
no_list_of_lists (Member kind.Ordered required) h = cc
no_list_of_lists w h = cc

-- the last step to such a reference leads into a list
last_step : (w : Want) (d : Data) (r : Step) (a : Asked) → asked_inside w d r ≡ Some a → wants_selection a.want ≡ true → (i : ℕ) × (r ≡ At i)
    × (lists_selections w ≡ true)
last_step w d (Name n) a e k = let named = by_name w d n a e in absurd (no_member n a.want (named_fits named.0 n a.want named.1) k)
last_step w d (At i) a e k = (i, refl, list_of_entry w (ap some_wants (by_entry w d i a e) ∙ k))

-- the step to such a list is its name
list_step : (w : Want) (d : Data) (s : Step) (a : Asked) → asked_inside w d s ≡ Some a → lists_selections a.want ≡ true → (n : List ℕ) × (s ≡ Name n)
    × (bytes_eq n list_name ≡ true)
list_step w d (Name n) a e k = let named = by_name w d n a e in (n, refl, list_named n a.want (named_fits named.0 n a.want named.1) k)
list_step w d (At i) a e k = absurd (no_list_of_lists w (ap some_lists (by_entry w d i a e) ∙ k))

steps_are : (s r : Step) (n : List ℕ) (i : ℕ) → s ≡ Name n → r ≡ At i → bytes_eq n list_name ≡ true → are_entry_steps (s ∷ r ∷ []) ≡ true
steps_are s r n i e g h = subst (λ x. are_entry_steps (x ∷ r ∷ []) ≡ true) (sym e) (subst (λ y. are_entry_steps (Name n ∷ y ∷ []) ≡ true) (sym g) h)

one_step : (b : Asked) (r : Step) (a : Asked) → asked_from b (r ∷ []) ≡ Some a → asked_inside b.want b.value r ≡ Some a
one_step b r a h = let c = and_then-Some (λ c. asked_from c []) (asked_inside b.want b.value r) a h in c.1 ∙ c.2

two_steps : (b : Asked) (s r : Step) (a : Asked) → asked_from b (s ∷ r ∷ []) ≡ Some a → wants_selection a.want ≡ true → are_entry_steps (s ∷ r ∷ []) ≡ true
two_steps b s r a h k =
    let c = and_then-Some (λ c. asked_from c (r ∷ [])) (asked_inside b.want b.value s) a h in
    let last = last_step c.0.want c.0.value r a (one_step c.0 r a c.2) k in
    let list = list_step b.want b.value s c.0 c.1 last.2 in
    steps_are s r list.0 last.0 list.1 last.1 list.2

-- ---- places

pub asked_from-append : (a : Asked) (p q : List Step) → asked_from a (p ++ q) ≡ option_and_then (λ b. asked_from b q) (asked_from a p)
asked_from-append a [] q = refl
asked_from-append a (s ∷ p) q = onward (asked_inside a.want a.value s) (λ b. asked_from-append b p q)
  where
    onward : (o : Option Asked) → ((b : Asked) → asked_from b (p ++ q) ≡ option_and_then (λ c. asked_from c q) (asked_from b p))
        → option_and_then (λ b. asked_from b (p ++ q)) o ≡ option_and_then (λ c. asked_from c q) (option_and_then (λ b. asked_from b p) o)
    onward None h = refl
    onward (Some b) h = h b

-- the steps are the last two, or all of them
steps_at : (t : Data) (q ss : List Step) (a : Asked) → asked_at t (q ++ ss) ≡ Some a → length ss ≤ 2 → (length ss < 2 → q ≡ []) → wants_selection a.want ≡ true
    → are_entry_steps ss ≡ true
steps_at t q [] a e few all k =
    let here : asked_at t [] ≡ Some a = subst (λ x. asked_at t (x ++ []) ≡ Some a) (all (omega arith)) e in
    let same : asked (Object Report) t ≡ a = cc in
    absurd (true≢false (sym k ∙ ap (λ (x : Asked). wants_selection x.want) (sym same)))
steps_at t q (s ∷ []) a e few all k =
    let here : asked_at t (s ∷ []) ≡ Some a = subst (λ x. asked_at t (x ++ s ∷ []) ≡ Some a) (all (omega arith)) e in
    let last = last_step (Object Report) t s a (one_step (asked (Object Report) t) s a here) k in
    absurd (true≢false (sym last.2))
steps_at t q (s ∷ r ∷ []) a e few all k =
    let b = and_then-Some (λ b. asked_from b (s ∷ r ∷ [])) (asked_at t q) a (sym (asked_from-append (asked (Object Report) t) q (s ∷ r ∷ [])) ∙ e) in
    two_steps b.0 s r a b.2 k
steps_at t q (s ∷ r ∷ x ∷ ss) a e few all k = absurd (omega arith)

none_before : (p : List Step) → length (last_steps p) < 2 → outer_place p ≡ []
none_before p h =
    let e : length p - 2 ≡ 0 = omega (arith, length-drop (length p - 2) p) in
    ap (λ n. take n p) e

-- where a reference to a selection is asked for, an entry of an object's list stands
pub selection_place : (t : Data) (p : List Step) (a : Asked) → asked_at t p ≡ Some a → wants_selection a.want ≡ true → are_entry_steps (last_steps p) ≡ true
selection_place t p a e k =
    let few : length (last_steps p) ≤ 2 = omega (arith, length-drop (length p - 2) p) in
    let parts : asked_at t (outer_place p ++ last_steps p) ≡ Some a = ap (asked_at t) (take-append-drop (length p - 2) p) ∙ e in
    steps_at t (outer_place p) (last_steps p) a parts few (none_before p) k

-- ---- the reasons without the test

-- whether what is asked there has this fault of references
abbrev pub has_reference_fault : Data → List Step → Asked → Reason → Bool
has_reference_fault t p a SelectionOfOtherContest = stands_elsewhere t p a
has_reference_fault t p a r = is_reference_fault t a r

elsewhere_wants : (t d : Data) (w : Want) (e : Data) → is_other_selection t d w e ≡ true → wants_selection w ≡ true
elsewhere_wants t d (Reference family.Selection) e h = refl
elsewhere_wants t d w e h = cc

elsewhere_at : (t : Data) (a : Asked) (o : Option Asked) → option_map_or (λ contest. is_other_selection t contest.value a.want a.value) o false ≡ true
    → wants_selection a.want ≡ true
elsewhere_at t a None h = cc
elsewhere_at t a (Some contest) h = elsewhere_wants t contest.value a.want a.value h

reason_from : (t : Data) (p : List Step) (a : Asked) (r : Reason) → asked_at t p ≡ Some a → has_reference_fault t p a r ≡ true
    → has_reference_reason t p a r ≡ true
reason_from t p a SelectionOfOtherContest e h =
    and_from (are_entry_steps (last_steps p)) (stands_elsewhere t p a) (selection_place t p a e (elsewhere_at t a (asked_at t (outer_place p)) h)) h
reason_from t p a r e h = h

fault_from : (t : Data) (p : List Step) (a : Asked) (r : Reason) → has_reference_reason t p a r ≡ true → has_reference_fault t p a r ≡ true
fault_from t p a SelectionOfOtherContest h = (and_parts (are_entry_steps (last_steps p)) (stands_elsewhere t p a) h).1
fault_from t p a r h = h

abbrev pub reasons_there : Data → List Step → Asked → List Reason
reasons_there t p a = filter (has_reference_fault t p a) reference_reasons

complete_there : (t : Data) (p : List Step) (r : Reason) → ReferenceFault t p r → (a : Asked) × (asked_at t p ≡ Some a) × In r (reasons_there t p a)
complete_there t p r h =
    let c = reason_of_fault t p r h in
    let i = In-filter (has_reference_reason t p c.0) r reference_reasons c.2 in
    (c.0, c.1, In-filter_kept (has_reference_fault t p c.0) r reference_reasons i.0 (fault_from t p c.0 r i.1))

pub reasons_all : (t : Data) → AreReasons t (reasons_there t) (ReferenceFault t)
reasons_all t = record {
  rising = λ p a. IsStrictlySortedBy-filter reason_cmp (has_reference_fault t p a) reference_reasons reference_reasons_rise;
  sound = λ p a r e i. fault_of_reason t p a r e (reason_from t p a r e (In-filter (has_reference_fault t p a) r reference_reasons i).1);
  complete = complete_there t;
}

-- the faults of references of a report
abbrev pub reference_faults : Data → List Fault
reference_faults t = faults_asked (reasons_there t) t

pub reference_faults_listed : (t : Data) → IsTree t → ListsAll (ReferenceFault t) (reference_faults t)
reference_faults_listed t tree = faults_asked_listed t (reasons_there t) (ReferenceFault t) (tree_in_order (Object Report) t tree) (reasons_all t)

-- ---- at one place

-- reasons, each where its test holds
abbrev if_told : Bool → Bool → Bool → Bool → List Reason
if_told a b c d = reason_if a Repeated ++ (reason_if b Unresolved ++ (reason_if c WrongFamily ++ reason_if d SelectionOfOtherContest))

if_told-same : (a b c d a' b' c' d' : Bool) → a ≡ a' → b ≡ b' → c ≡ c' → d ≡ d' → if_told a b c d ≡ if_told a' b' c' d'
if_told-same a b c d a' b' c' d' e f g h =
    ap₂ (λ x rs. reason_if x Repeated ++ rs) e
    (ap₂ (λ x rs. reason_if x Unresolved ++ rs) f
    (ap₂ (λ x rs. reason_if x WrongFamily ++ rs) g (ap (λ x. reason_if x SelectionOfOtherContest) h)))

first_told : (r : Reason) (b : Bool) (rs : List Reason) → cond b (r ∷ rs) rs ≡ reason_if b r ++ rs
first_told r true rs = refl
first_told r false rs = refl

all_told : (test : Reason → Bool) → filter test reference_reasons ≡ if_told (test Repeated) (test Unresolved) (test WrongFamily) (test SelectionOfOtherContest)
all_told test =
    first_told Repeated (test Repeated) _ ∙ ap (λ rs. reason_if (test Repeated) Repeated ++ rs) (first_told Unresolved (test Unresolved) _
    ∙ ap (λ rs. reason_if (test Unresolved) Unresolved ++ rs) (first_told WrongFamily (test WrongFamily) _
    ∙ ap (λ rs. reason_if (test WrongFamily) WrongFamily ++ rs) (first_told SelectionOfOtherContest (test SelectionOfOtherContest) [] ∙ append-nil _)))

of_others_same : (π : Preference) (t : Data) (f : Family) (id : List ℕ) → NoneOf (IdentityFault π t) → is_of_others (kept_objects π t) f id
    ≡ (is_none (owner t f id) && is_owned t id)
of_others_same π t f id none = ap₂ (λ (a : Option Data) (b : Bool). is_none a && b) (owner_same π t f id none) (known_same π t id)

by_text : (π : Preference) (t u : Data) (f : Family) (repeated : Bool) (o : Option (List ℕ)) → NoneOf (IdentityFault π t)
    → reason_if repeated Repeated ++ option_map_or (id_reasons (kept_objects π t) u f) o []
    ≡ if_told repeated (option_map_or (λ id. not (is_owned t id)) o false) (option_map_or (λ id. is_none (owner t f id) && is_owned t id) o false)
    (is_selection_family f && option_map_or (is_in_other_contest t u) o false)
by_text π t u f repeated None none =
    sym (if_told-same repeated false false (is_selection_family f && false) repeated false false false refl refl refl (and-false (is_selection_family f)))
by_text π t u f repeated (Some id) none =
    if_told-same repeated (not (is_known (kept_objects π t) id)) (is_of_others (kept_objects π t) f id)
    (is_selection_family f && is_elsewhere (kept_objects π t) u id)
    repeated (not (is_owned t id)) (is_none (owner t f id) && is_owned t id) (is_selection_family f && is_in_other_contest t u id)
    refl (ap not (known_same π t id)) (of_others_same π t f id none) (ap (λ b. is_selection_family f && b) (elsewhere_same π t u id none))

other_same : (t u : Data) (f : Family) (d : Data) → is_other_selection t u (Reference f) d
    ≡ (is_selection_family f && option_map_or (is_in_other_contest t u) (as_str d) false)
other_same t u family.Selection d = refl
other_same t u f d = refl

-- whether a selection of another contest stands there
abbrev told_other : Data → List Step → Asked → Bool
told_other t p a = has_reference_fault t p a SelectionOfOtherContest

other_there : (t u : Data) (p : List Step) (near : Data) (a : Asked) → Around t p u near → told_other t p a ≡ is_other_selection t u a.want a.value
other_there t u p near a around =
    ap (λ (o : Option Asked). option_map_or (λ contest. is_other_selection t contest.value a.want a.value) o false) around.far_stands
    ∙ ap (λ (d : Data). is_other_selection t d a.want a.value) around.far_is

none_here : (t u : Data) (p : List Step) (near : Data) (a : Asked) → Around t p u near → is_other_selection t u a.want a.value ≡ false
    → if_told (a.repeated && false) false false (told_other t p a) ≡ []
none_here t u p near a around e =
    if_told-same (a.repeated && false) false false (told_other t p a) false false false false (and-false a.repeated) refl refl
    (other_there t u p near a around ∙ e)

tests_here : (π : Preference) (t u : Data) (p : List Step) (near : Data) (w : Want) (repeated : Bool) (d : Data)
    → NoneOf (IdentityFault π t) → Around t p u near
    → let a : Asked = asked_with w repeated d in
    if_told (has_reference_fault t p a Repeated) (has_reference_fault t p a Unresolved) (has_reference_fault t p a WrongFamily) (told_other t p a)
    ≡ reference_reasons_told (kept_objects π t) u w repeated d
tests_here π t u p near (Reference f) repeated d none around =
    let a : Asked = asked_with (Reference f) repeated d in
    if_told-same (repeated && true) (option_map_or (λ id. not (is_owned t id)) (as_str d) false)
    (option_map_or (λ id. is_none (owner t f id) && is_owned t id) (as_str d) false) (told_other t p a)
    repeated (option_map_or (λ id. not (is_owned t id)) (as_str d) false) (option_map_or (λ id. is_none (owner t f id) && is_owned t id) (as_str d) false)
    (is_selection_family f && option_map_or (is_in_other_contest t u) (as_str d) false)
    (and-true repeated) refl refl (other_there t u p near a around ∙ other_same t u f d) ∙ sym (by_text π t u f repeated (as_str d) none)
tests_here π t u p near w repeated d none around = none_here t u p near (asked_with w repeated d) around refl

-- ---- the walk

told_there : (π : Preference) (t : Data) → NoneOf (IdentityFault π t) → Agrees t (reference_reasons_told (kept_objects π t)) (reasons_there t)
told_there π t none =
    record {
      same = λ p outer owner w repeated d around. sym (all_told (has_reference_fault t p (asked_with w repeated d))
          ∙ tests_here π t outer p owner w repeated d none around);
    }

pub references_all : (π : Preference) (t : Data) → NoneOf (IdentityFault π t) → IsInOrder (Object Report) t
    → ListsAll (ReferenceFault t) (told_of_report (reference_reasons_told (kept_objects π t)) t)
references_all π t none order = walk_lists t (reference_reasons_told (kept_objects π t)) (reasons_there t) (ReferenceFault t)
    (told_there π t none) order (reasons_all t)
