-- Members that a report must have, and lists of references to selections.
use Rattle.erd_normal.proofs.Common.{◌≡◌, ℕ, Bool, true, false, ◌&&◌, List, [], ◌∷◌, ◌++◌, Some, None, Option, option_map, option_and_then, sym, refl, ap, ◌∙◌}
use Rattle.erd_normal.proofs.Common.{subst, true≢false, same_Some, AllByRecursion, option_map_or, Data, array, object, Items, Members, get_member, get_item}
use Rattle.erd_normal.proofs.Common.{role_of_class, Class, class, family, Role, role, kind, Step, At, Name, and_then-Some, list_of_items, entries_of}
use Rattle.erd_normal.proofs.Common.{entries_at, class_of_object, scope_inside, member_want, want_of_name, entry_want, is_compared_set, Asked, asked}
use Rattle.erd_normal.proofs.Common.{is_repeated, asked_of_member, asked_inside, asked_from, asked_at, Want, Carried, Member, Object, Reference, class_role}
use Rattle.erd_normal.proofs.Common.{is_other_selection, NamesOtherContest, class_of_node, In-all, cond, not, ◌||◌, codes, bytes_eq, and_parts, list_all}
use Rattle.erd_normal.proofs.Common.{list_any, no_items, get, Row, rows_of_class, is_envelope_name, kind_of_identity, kind_of_member, required_names}
use Rattle.erd_normal.proofs.Common.{is_required, reason, MemberKind, text_exact, text_itself, Within-step, faultless, lacks_none, Within, kind_of_name}
use Rattle.erd_normal.proofs.Common.{kind_of_id, want_unless_status, names_wanted, ShapeFault, NoneOf, want_of_kind, is_report_class, Scope, scope, ClassText}
use Rattle.erd_normal.proofs.Common.{Status, is_array_kind, is_envelope, an_empty_array, of_the_envelope, an_unused_id, MayBeAbsent, string, Reason}
use Rattle.erd_normal.proofs.Common.{is_shape_fault, carried_want, has_kind, In-any, any_at, each_holds}
use Rattle.erd_meaning.proofs.references.ReferenceWalks.{asked_from-append}
use Rattle.erd_normal.proofs.canonical.CanonicalIds.{list_name}
use Rattle.erd_normal.proofs.same.Related.{entry_has}
use Rattle.std.proofs.Math.Bool.{and-true}
use Rattle.erd_check.specs.Wants.{may_need_entry}
use Rattle.erd_normal.proofs.same.Lookups.{MayLack, type_stays}
use Rattle.erd_normal.proofs.same.InTurn.{is_quiet, nothing_after, nothing_empty}

-- ---- the lists of a report

-- the entries of the list of an object that names one contest are selections of it
abbrev pub IsListSound : Data → Data → Type 0
IsListSound u d = AllByRecursion (λ e. is_other_selection u d (Reference family.Selection) e ≡ false) (entries_at list_name d)

-- the list of an object that names one contest holds selections of it
pub record IsListed (u : Data) (a : Asked) : Type 0 where
  pub sound : a.want ≡ Object role.Content → class_of_node a.value ≡ Some class.OrderedContest → IsListSound u a.value

-- ---- the steps into a list

-- the array whose entries are references to selections
abbrev lists_selections : Want → Bool
lists_selections (Member kind.Ordered required) = true
lists_selections (Member (kind.Many family.Selection) required) = true
lists_selections w = false

only_contests : (c : Class) → lists_selections (member_want c list_name) ≡ true → c ≡ class.OrderedContest
only_contests class.OrderedContest h = refl
only_contests c h = cc

-- what is asked of a member that is found
record MemberFound (ow : Option Want) (o : Option Data) (b : Asked) : Type 0 where
  want : Want
  wanted : ow ≡ Some want
  found : o ≡ Some b.value
  same : want ≡ b.want

member_found : (ow : Option Want) (o : Option Data) (b : Asked) → asked_of_member ow o ≡ Some b → MemberFound ow o b
member_found (Some w) (Some d) b e =
    let is : asked w d ≡ b = cc in
    record { want = w; wanted = refl; found = ap (λ (x : Asked). Some x.value) is; same = ap (λ (x : Asked). x.want) is }
member_found ow o b e = cc

-- the list stands in an object of the class of contests in the order of a ballot
record OfContest (w : Want) (d : Data) (b : Asked) : Type 0 where
  content : w ≡ Object role.Content
  among : class_of_node d ≡ Some class.OrderedContest
  stands : (ms : Members) × (d ≡ object ms) × (get_member list_name ms ≡ Some b.value)

of_class : (r : Role) (ms : Members) (c : Class) (b : Asked) → class_of_object r (object ms) ≡ Some c → c ≡ class.OrderedContest
    → get_member list_name ms ≡ Some b.value → (r ≡ role.Content) × (class_of_node (object ms) ≡ Some class.OrderedContest)
of_class r ms c b among is found =
    let content : role.Content ≡ r = ap role_of_class (sym is) ∙ class_role r (object ms) c among in
    (sym content, ap (λ q. class_of_object q (object ms)) content ∙ among ∙ ap Some is)

class_listing : (r : Role) (ms : Members) (b : Asked) (want : Want) → option_map (λ c. member_want c list_name) (class_of_object r (object ms)) ≡ Some want
    → want ≡ b.want → lists_selections b.want ≡ true
    → get_member list_name ms ≡ Some b.value → (r ≡ role.Content) × (class_of_node (object ms) ≡ Some class.OrderedContest)
class_listing r ms b want wanted same lists found = at (class_of_object r (object ms)) refl wanted
  where
    at : (o : Option Class) → class_of_object r (object ms) ≡ o → option_map (λ c. member_want c list_name) o ≡ Some want → (r ≡ role.Content)
        × (class_of_node (object ms) ≡ Some class.OrderedContest)
    at None among e = cc
    at (Some c) among e =
        let asks : member_want c list_name ≡ b.want = same_Some (member_want c list_name) want e ∙ same in
        of_class r ms c b among (only_contests c (ap lists_selections asks ∙ lists)) found

in_contest : (w : Want) (ms : Members) (b : Asked) → MemberFound (want_of_name (scope_inside w (object ms)) list_name) (get_member list_name ms) b
    → lists_selections b.want ≡ true → OfContest w (object ms) b
in_contest (Object r) ms b m lists =
    let h = class_listing r ms b m.want m.wanted m.same lists m.found in
    record { content = ap Object h.0; among = h.1; stands = (ms, refl, m.found) }
in_contest (Member kind.Label required) ms b m lists = let h : role.Label ≡ role.Content =
    (class_listing role.Label ms b m.want m.wanted m.same lists m.found).0 in cc
in_contest Carried ms b m lists =
    let asks : Member kind.StrangeIdentity false ≡ b.want = same_Some (Member kind.StrangeIdentity false) m.want m.wanted ∙ m.same in
    absurd (true≢false (sym lists ∙ ap lists_selections (sym asks)))
in_contest w ms b m lists = let x = m.wanted in cc

list_owner : (w : Want) (d : Data) (b : Asked) → asked_inside w d (Name list_name) ≡ Some b → lists_selections b.want ≡ true → OfContest w d b
list_owner w (object ms) b e lists = in_contest w ms b (member_found (want_of_name (scope_inside w (object ms)) list_name) (get_member list_name ms) b e) lists
list_owner w d b e lists = cc

-- an entry that is a reference to a selection
record EntryOf (w : Want) (d : Data) (i : ℕ) (a : Asked) : Type 0 where
  lists : lists_selections w ≡ true
  items : Items
  is_array : d ≡ array items
  found : get_item i items ≡ Some a.value

lists_entry : (w : Want) → entry_want w ≡ Some (Reference family.Selection) → lists_selections w ≡ true
lists_entry (Member kind.Ordered required) e = refl
lists_entry (Member (kind.Many family.Selection) required) e = refl
lists_entry w e = cc

entry_of : (w : Want) (d : Data) (i : ℕ) (a : Asked) → asked_inside w d (At i) ≡ Some a → a.want ≡ Reference family.Selection → EntryOf w d i a
entry_of w (array ds) i a e is = at (entry_want w) refl (get_item i ds) refl e
  where
    at : (ow : Option Want) → entry_want w ≡ ow → (o : Option Data) → get_item i ds ≡ o
        → option_and_then (λ v. option_map (λ d. record { want = v; value = d; repeated = is_compared_set w && is_repeated ds i d }) o) ow ≡ Some a
        → EntryOf w (array ds) i a
    at (Some v) want (Some d) found e =
        let same : record { want = v; value = d; repeated = is_compared_set w && is_repeated ds i d } ≡ a = cc in
        record {
          lists = lists_entry w (want ∙ ap Some (ap (λ (x : Asked). x.want) same ∙ is));
          items = ds;
          is_array = refl;
          found = found ∙ ap (λ (x : Asked). Some x.value) same;
        }
    at ow want o found e = cc
entry_of w d i a e is = cc

elsewhere_wants : (u d : Data) (w : Want) (e : Data) → is_other_selection u d w e ≡ true → w ≡ Reference family.Selection
elsewhere_wants u d (Reference family.Selection) e h = refl
elsewhere_wants u d w e h = cc

-- where each list holds selections of its contest, no entry is one of another
pub none_elsewhere : (u : Data) → ((p : List Step) (a : Asked) → asked_at u p ≡ Some a → IsListed u a) → (p : List Step) → NamesOtherContest u p → ⊥
none_elsewhere u listed p h =
    let steps : asked_at u (h.object_place ++ Name list_name ∷ At h.position ∷ []) ≡ Some h.entry = ap (asked_at u) (sym h.place) ∙ h.entry_stands in
    let inside : asked_from h.ordered_contest (Name list_name ∷ At h.position ∷ []) ≡ Some h.entry =
    ap (option_and_then (λ b. asked_from b (Name list_name ∷ At h.position ∷ []))) (sym h.ordered_contest_stands)
    ∙ sym (asked_from-append (asked (Object role.Report) u) h.object_place (Name list_name ∷ At h.position ∷ [])) ∙ steps in
    let b = and_then-Some (λ b. asked_from b (At h.position ∷ [])) (asked_inside h.ordered_contest.want h.ordered_contest.value (Name list_name)) h.entry
    inside in
    let c = and_then-Some (λ c. asked_from c []) (asked_inside b.0.want b.0.value (At h.position)) h.entry b.2 in
    let wants : h.entry.want ≡ Reference family.Selection = elsewhere_wants u h.ordered_contest.value h.entry.want h.entry.value h.elsewhere in
    let entry : EntryOf b.0.want b.0.value h.position h.entry = entry_of b.0.want b.0.value h.position h.entry (c.1 ∙ c.2) wants in
    let owner : OfContest h.ordered_contest.want h.ordered_contest.value b.0 = list_owner h.ordered_contest.want h.ordered_contest.value b.0 b.1 entry.lists in
    let all : IsListSound u h.ordered_contest.value = (listed h.object_place h.ordered_contest h.ordered_contest_stands).sound owner.content owner.among in
    let entries : entries_at list_name h.ordered_contest.value ≡ list_of_items entry.items =
    ap (entries_at list_name) owner.stands.1 ∙ ap (λ o. option_map_or entries_of o []) (owner.stands.2 ∙ ap Some entry.is_array) in
    let here : is_other_selection u h.ordered_contest.value (Reference family.Selection) h.entry.value ≡ false =
    In-all (λ e. is_other_selection u h.ordered_contest.value (Reference family.Selection) e ≡ false) h.entry.value (list_of_items entry.items)
    (subst (AllByRecursion (λ e. is_other_selection u h.ordered_contest.value (Reference family.Selection) e ≡ false)) entries all)
    (entry_has entry.items h.position h.entry.value entry.found) in
    true≢false (sym h.elsewhere ∙ ap (λ w. is_other_selection u h.ordered_contest.value w h.entry.value) wants ∙ here)

-- ---- the names that a class requires

-- what holds of each name of a list holds of one that is among them
named_passes : (P : List ℕ → Bool) (n : List ℕ) (ns : List (List ℕ)) → list_all P ns ≡ true → list_any (bytes_eq n) ns ≡ true → P n ≡ true
named_passes P n ns all among =
    let x = In-any (bytes_eq n) ns among in subst (λ y. P y ≡ true) (sym (text_exact n x.0 x.2)) (each_holds P ns x.0 all x.1)

same_either_way : (a b : List ℕ) → bytes_eq a b ≡ true → bytes_eq b a ≡ true
same_either_way a b h = subst (λ x. bytes_eq x a ≡ true) (text_exact a b h) (text_itself a)

pub required_if_named : (c : Class) (n : List ℕ) → list_any (bytes_eq n) (required_names c) ≡ true → is_required c n ≡ true
required_if_named c n h =
    let x = In-any (bytes_eq n) (required_names c) h in any_at (λ r. bytes_eq r n) x.0 (required_names c) x.1 (same_either_way n x.0 x.2)

pub named_if_required : (c : Class) (n : List ℕ) → is_required c n ≡ true → list_any (bytes_eq n) (required_names c) ≡ true
named_if_required c n h =
    let x = In-any (λ r. bytes_eq r n) (required_names c) h in any_at (bytes_eq n) x.0 (required_names c) x.1 (same_either_way x.0 n x.2)

-- ---- what the table says of them

-- an empty array of this kind is refused where it is required
abbrev pub refuses_empty : MemberKind → Bool
refuses_empty (kind.Many f) = true
refuses_empty kind.Languages = true
refuses_empty kind.Elections = true
refuses_empty k = false

abbrev is_due_kind : MemberKind → Bool
is_due_kind kind.Identity = false
is_due_kind k = not (is_array_kind k) || refuses_empty k

-- a member that may be required: no `@id`, no member of the envelope, and no array that may be empty
abbrev is_due : Class → List ℕ → Bool
is_due c n = is_due_kind (kind_of_member c n) && not (is_report_class c && is_envelope_name n)

all_due : (c : Class) → list_all (is_due c) (required_names c) ≡ true
all_due class.ElectionReport = refl
all_due c = refl

due : (c : Class) (n : List ℕ) → list_any (bytes_eq n) (required_names c) ≡ true → (is_due_kind (kind_of_member c n) ≡ true)
    × (not (is_report_class c && is_envelope_name n) ≡ true)
due c n h = and_parts (is_due_kind (kind_of_member c n)) (not (is_report_class c && is_envelope_name n))
    (named_passes (is_due c) n (required_names c) (all_due c) h)

abbrev is_elections_kind : MemberKind → Bool
is_elections_kind kind.Elections = true
is_elections_kind k = false

abbrev asks_elections : Class → Row → Bool
asks_elections c row = not (is_elections_kind row.kind) || is_required c row.name

elections_in_rows : (c : Class) → list_all (asks_elections c) (rows_of_class c) ≡ true
elections_in_rows class.ElectionReport = refl
elections_in_rows c = refl

no_elections_id : (c : Class) → kind_of_identity c ≡ kind.Elections → ⊥
no_elections_id class.ElectionReport e = cc
no_elections_id c e = cc

-- the array of elections is required
pub elections_required : (c : Class) (n : List ℕ) → bytes_eq n (codes "@type") ≡ false → kind_of_member c n ≡ kind.Elections → is_required c n ≡ true
elections_required c n no_type is = at (bytes_eq n (codes "@id")) refl
  where
    at : (b : Bool) → bytes_eq n (codes "@id") ≡ b → is_required c n ≡ true
    at true same = absurd (no_elections_id c (sym (kind_of_id c) ∙ ap (kind_of_member c) (sym (text_exact n (codes "@id") same)) ∙ is))
    at false other =
        subst (λ k. not (is_elections_kind k) || is_required c n ≡ true) is
        (kind_of_name (asks_elections c) (λ k. not (is_elections_kind k) || is_required c n) c n no_type other (elections_in_rows c)
        (λ m h e. subst (λ x. not (is_elections_kind m.kind) || is_required c x ≡ true) (sym (text_exact n m.name e)) h) refl refl)

-- ---- what is asked of a member

want_parts : (q : MemberKind) (b : Bool) (k : MemberKind) (required : Bool) → want_of_kind q b ≡ Member k required → (q ≡ k)
    × ((may_need_entry k && b) ≡ required)
want_parts kind.Carried b k required e = cc
want_parts q b k required e = (cc, cc)

-- a member of this kind in an object of this class
pub record MemberOf (c : Class) (n : List ℕ) (k : MemberKind) (required : Bool) : Type 0 where
  pub no_type : bytes_eq n (codes "@type") ≡ false
  pub kind_is : kind_of_member c n ≡ k
  pub required_is : (may_need_entry k && is_required c n) ≡ required

pub member_of : (r : Role) (c : Class) (n : List ℕ) (k : MemberKind) (required : Bool) → want_of_name (scope.Members r (Some c)) n ≡ Some (Member k required)
    → MemberOf c n k required
member_of r c n k required asks = at (bytes_eq n (codes "@type")) refl (is_report_class c && bytes_eq n (codes "Status")) refl
  where
    at : (b : Bool) → bytes_eq n (codes "@type") ≡ b → (s : Bool) → (is_report_class c && bytes_eq n (codes "Status")) ≡ s → MemberOf c n k required
    at true is s status = let g : Some (ClassText r) ≡ Some (Member k required) = rw is at asks in cc
    at false is true status =
        let g : Some Status ≡ Some (Member k required) = sym (ap Some (ap (λ b. cond b Status (want_of_kind (kind_of_member c n) (is_required c n))) status))
        ∙ sym (ap (λ b. cond b (Some (ClassText r)) (Some (member_want c n))) is) ∙ asks in
        cc
    at false is false status =
        let g : Some (member_want c n) ≡ Some (Member k required) = sym (ap (λ b. cond b (Some (ClassText r)) (Some (member_want c n))) is) ∙ asks in
        let h : member_want c n ≡ Member k required = cc in
        let parts = want_parts (kind_of_member c n) (is_required c n) k required (sym (want_unless_status c n status) ∙ h) in
        record { no_type = is; kind_is = parts.0; required_is = parts.1 }

-- ---- no required member may be absent

module _ (t : Data) (clean : NoneOf (ShapeFault t)) where
  refused : (k : MemberKind) → refuses_empty k ≡ true → Within t (asked (Member k (may_need_entry k)) (array no_items)) → ⊥
  refused (kind.Many f) h inside = true≢false (faultless t clean (asked (Member (kind.Many f) true) (array no_items)) reason.EmptyArray inside)
  refused kind.Languages h inside = true≢false (faultless t clean (asked (Member kind.Languages true) (array no_items)) reason.EmptyArray inside)
  refused kind.Elections h inside = true≢false (faultless t clean (asked (Member kind.Elections false) (array no_items)) reason.ElectionCount inside)
  refused k h inside = cc

  due_array : (k : MemberKind) → is_due_kind k ≡ true → is_array_kind k ≡ true → refuses_empty k ≡ true
  due_array kind.Identity h is_array = cc
  due_array k h is_array = subst (λ b. not b || refuses_empty k ≡ true) is_array h

  in_envelope : (r : Role) (c : Class) (n : List ℕ) → is_envelope (scope.Members r (Some c)) n ≡ true → not (is_report_class c && is_envelope_name n) ≡ true → ⊥
  in_envelope r class.ElectionReport n h apart = let e : false ≡ true = sym (ap not h) ∙ apart in cc
  in_envelope r c n h apart = cc

  stays_in_class : (r : Role) (c : Class) (n : List ℕ) (d : Data) → list_any (bytes_eq n) (required_names c) ≡ true
      → ((v : Want) → want_of_name (scope.Members r (Some c)) n ≡ Some v → Within t (asked v d)) → MayBeAbsent t (scope.Members r (Some c)) n d → ⊥
  stays_in_class r c n d named inside (an_empty_array k required asks is empty) =
      let m = member_of r c n k required asks in
      let must : required ≡ may_need_entry k = sym m.required_is ∙ ap (λ b. may_need_entry k && b) (required_if_named c n named)
      ∙ and-true (may_need_entry k) in
      refused k (due_array k (subst (λ x. is_due_kind x ≡ true) m.kind_is (due c n named).0) is)
      (subst (λ x. Within t (asked (Member k (may_need_entry k)) x)) empty
      (subst (λ x. Within t (asked (Member k x) d)) must (inside (Member k required) asks)))
  stays_in_class r c n d named inside (of_the_envelope h) = in_envelope r c n h (due c n named).1
  stays_in_class r c n d named inside (an_unused_id id required asks is unused) =
      let m = member_of r c n kind.Identity required asks in
      true≢false (sym (due c n named).0 ∙ ap is_due_kind m.kind_is)

  stays_in : (s : Scope) (n : List ℕ) (d : Data) → list_any (bytes_eq n) (names_wanted s) ≡ true
      → ((v : Want) → want_of_name s n ≡ Some v → Within t (asked v d)) → MayBeAbsent t s n d → ⊥
  stays_in (scope.Members r (Some c)) n d named inside h = stays_in_class r c n d named inside h
  stays_in (scope.Members r None) n d named inside h =
      type_stays t (scope.Members r None) d
      (subst (λ y. MayBeAbsent t (scope.Members r None) y d) (text_exact n (codes "@type") (at (bytes_eq n (codes "@type")) named)) h)
    where
      at : (b : Bool) → b || false ≡ true → b ≡ true
      at true e = refl
      at false e = cc
  stays_in e n d named inside h = cc

  -- an object has each member that it must have, and none of these may be absent
  pub required_stays : (a : Asked) (ms : Members) (n : List ℕ) → Within t a → a.value ≡ object ms
      → list_any (bytes_eq n) (names_wanted (scope_inside a.want (object ms))) ≡ true → MayLack t (scope_inside a.want (object ms)) n (get_member n ms) → ⊥
  required_stays a ms n inside value named lacks = at (get_member n ms) refl lacks
    where
      at : (o : Option Data) → get_member n ms ≡ o → MayLack t (scope_inside a.want (object ms)) n o → ⊥
      at None found h = lacks_none t clean a n inside (ap (λ x. list_any (bytes_eq n) (names_wanted (scope_inside a.want x))) value ∙ named)
          (ap (get n) value ∙ found)
      at (Some d) found h =
          stays_in (scope_inside a.want (object ms)) n d named
          (λ v asks. Within-step t a (asked v d) (Name n) inside (rw (value, asks, found) refl)) (h.each d refl)

-- ---- what stands in the right report alone has no fault of shape

-- neither a reference nor a part of a ballot
abbrev pub is_lone : Want → Bool
is_lone (Reference f) = false
is_lone (Object role.Content) = false
is_lone w = true

pub record IsSound (b : Asked) : Type 0 where
  pub no_fault : (r : Reason) → is_shape_fault b r ≡ false
  pub lone : is_lone b.want ≡ true

-- all that is asked at it or in it has no fault
abbrev pub IsSoundInside : Asked → Type 0
IsSoundInside c = (ss : List Step) (b : Asked) → asked_from c ss ≡ Some b → IsSound b

pub quiet_lone : (w : Want) → is_quiet w ≡ true → is_lone w ≡ true
quiet_lone (Object role.Content) h = cc
quiet_lone w h = cc

-- where nothing is asked inside
closed_sound : (v : Want) (d : Data) → IsSound (asked v d) → ((s : Step) (ss : List Step) (b : Asked) → asked_from (asked v d) (s ∷ ss) ≡ Some b → ⊥)
    → IsSoundInside (asked v d)
closed_sound v d sound none [] b e = let one : asked v d ≡ b = cc in subst IsSound one sound
closed_sound v d sound none (s ∷ ss) b e = absurd (none s ss b e)

-- ---- empty arrays

-- the array is not required, and it is not that of the elections
record IsSpare (k : MemberKind) (required : Bool) : Type 0 where
  optional : required ≡ true → ⊥
  other : k ≡ kind.Elections → ⊥

carried_array : (b : Bool) (k : MemberKind) (required : Bool) → is_array_kind k ≡ true → cond b (Member kind.StrangeIdentity false) Carried
    ≡ Member k required → ⊥
carried_array true k required is_array e = let same : kind.StrangeIdentity ≡ k = cc in let h : false ≡ true = ap is_array_kind same ∙ is_array in cc
carried_array false k required is_array e = cc

spare : (s : Scope) (n : List ℕ) (k : MemberKind) (required : Bool) → is_array_kind k ≡ true → want_of_name s n ≡ Some (Member k required)
    → (list_any (bytes_eq n) (names_wanted s) ≡ true → ⊥) → IsSpare k required
spare (scope.Members r (Some c)) n k required is_array asks none =
    let m = member_of r c n k required asks in
    record {
      optional = λ e. none (named_if_required c n (and_parts (may_need_entry k) (is_required c n) (m.required_is ∙ e)).1);
      other = λ e. none (named_if_required c n (elections_required c n m.no_type (m.kind_is ∙ e)));
    }
spare (scope.Members r None) n k required is_array asks none = at (bytes_eq n (codes "@type")) asks
  where
    at : (b : Bool) → cond b (Some (ClassText r)) None ≡ Some (Member k required) → IsSpare k required
    at true e = cc
    at false e = cc
spare scope.Nothing n k required is_array asks none = cc
spare scope.Carried n k required is_array asks none =
    let h : carried_want n ≡ Member k required = cc in absurd (carried_array _ k required is_array h)

array_kind : (k : MemberKind) → is_array_kind k ≡ true → not (has_kind k (array no_items)) ≡ false
array_kind kind.Identity is_array = cc
array_kind k is_array = cc

array_fault : (k : MemberKind) (required : Bool) → is_array_kind k ≡ true → IsSpare k required → (r : Reason)
    → is_shape_fault (asked (Member k required) (array no_items)) r ≡ false
array_fault k true is_array h r = absurd (h.optional refl)
array_fault k false is_array h reason.WrongKind = array_kind k is_array
array_fault kind.Elections false is_array h r = absurd (h.other refl)
array_fault k false is_array h r = cc

empty_sound : (k : MemberKind) (required : Bool) → is_array_kind k ≡ true → IsSpare k required → IsSoundInside (asked (Member k required) (array no_items))
empty_sound k required is_array h =
    closed_sound (Member k required) (array no_items) (record { no_fault = array_fault k required is_array h; lone = refl })
    (λ s ss b e. nothing_after (Member k required) (array no_items) s ss b (nothing_empty (Member k required) s) e)

-- ---- `@id`s

id_fault : (required : Bool) (id : List ℕ) (r : Reason) → is_shape_fault (asked (Member kind.Identity required) (string id)) r ≡ false
id_fault required id reason.WrongKind = refl
id_fault required id r = refl

id_sound : (required : Bool) (id : List ℕ) → IsSoundInside (asked (Member kind.Identity required) (string id))
id_sound required id =
    closed_sound (Member kind.Identity required) (string id) (record { no_fault = id_fault required id; lone = refl })
    (λ s ss b e. nothing_after (Member kind.Identity required) (string id) s ss b refl e)

-- ---- what may be absent on either side

same_want : (s : Scope) (n : List ℕ) (v w : Want) → want_of_name s n ≡ Some v → want_of_name s n ≡ Some w → w ≡ v
same_want s n v w asks asks_too = let e : Some w ≡ Some v = sym asks_too ∙ asks in cc

module _ (t u : Data) (clean : NoneOf (ShapeFault t)) where
  -- a member of u that is not in t, or may be absent there too, has no fault, if the envelope of u has none
  pub absent_sound : (a : Asked) (ms : Members) (n : List ℕ) → Within t a → a.value ≡ object ms
      → MayLack t (scope_inside a.want (object ms)) n (get_member n ms)
      → (v : Want) (d : Data) → want_of_name (scope_inside a.want (object ms)) n ≡ Some v
      → (is_envelope (scope_inside a.want (object ms)) n ≡ true → IsSoundInside (asked v d))
      → MayBeAbsent u (scope_inside a.want (object ms)) n d → IsSoundInside (asked v d)
  absent_sound a ms n inside value lacks v d asks envelope (an_empty_array k required asks_too is empty) =
      let s = scope_inside a.want (object ms) in
      subst (λ w. IsSoundInside (asked w d)) (same_want s n v (Member k required) asks asks_too)
      (subst (λ x. IsSoundInside (asked (Member k required) x)) (sym empty)
      (empty_sound k required is (spare s n k required is asks_too (λ named. required_stays t clean a ms n inside value named lacks))))
  absent_sound a ms n inside value lacks v d asks envelope (of_the_envelope h) = envelope h
  absent_sound a ms n inside value lacks v d asks envelope (an_unused_id id required asks_too is unused) =
      subst (λ w. IsSoundInside (asked w d)) (same_want (scope_inside a.want (object ms)) n v (Member kind.Identity required) asks asks_too)
      (subst (λ x. IsSoundInside (asked (Member kind.Identity required) x)) (sym is) (id_sound required id))
