-- What stands at the places of a report whose shape has no fault: members, entries, objects and their kinds.
use Rattle.erd_check.proofs.Common.{◌≡◌, ℕ, zero, suc, true, List, [], Some, Option, refl, ap, subst, ap₂, inl, inr, ⊎_elim, option_map_or, Data, string, array}
use Rattle.erd_check.proofs.Common.{object, Items, no_items, item, Members, get_item, is_text, is_array, is_object, IsTree, AreTrees, list_of_items, entries_of}
use Rattle.erd_check.proofs.Common.{◌≤◌, None, Ordering, Less, Equal, Greater, sym, ◌∙◌, arith, tied_itself, nat_list_cmp_total, exact_bytes, match_ordering}
use Rattle.erd_check.proofs.Common.{ordering_reverse, no_members, member, depth, members_depth, get_member, text_cmp, IsBeforeFirst, AreMembers, Bool, false}
use Rattle.erd_check.proofs.Common.{not, ◌&&◌, ◌∷◌, ◌++◌, is_none, IsSomeAnd, IsTrue, codes, option_map, option_and_then, bytes_eq, append_assoc, not-false}
use Rattle.erd_check.proofs.Common.{and_from, false_from_ne_true, list_any, get, text_of_class, role_of_class, class_in_role, Class, Role, role, Reason, reason}
use Rattle.erd_check.proofs.Common.{kind, Step, At, Name, has_wanted_kind, names_wanted, is_reference, is_shape_fault, ShapeFault, NoneOf, class_of_object}
use Rattle.erd_check.proofs.Common.{scope_inside, member_want, want_of_name, entry_want, is_compared_set, Asked, asked, is_repeated, asked_inside, asked_from}
use Rattle.erd_check.proofs.Common.{asked_at, Want, ClassText, Member, Object, cond, unwrap_or, and_parts, list_all, Row, rows_of_class, kind_in_rows}
use Rattle.erd_check.proofs.Common.{is_reference_name, kind_of_identity, kind_of_unlisted, kind_of_member, is_required, class, MemberKind, want_of_kind}
use Rattle.erd_check.proofs.Common.{is_report_class, cases_Bool, Family, is_empty_array}
use Rattle.std.proofs.lemmas.Option.{same_Some}
use Rattle.erd_tables.proofs.Roles.{class_in_role_named}
use Rattle.erd_check.proofs.Exact.{text_exact}
use Rattle.erd_check.proofs.Order.{In}

-- the entries of an array that may be absent
abbrev pub entries_in : Option Data → List Data
entries_in o = option_map_or entries_of o []

pub object_from : (d : Data) → is_object d ≡ true → (ms : Members) × (d ≡ object ms)
object_from (object ms) e = (ms, refl)
object_from _ e = cc

pub string_from_text : (d : Data) → is_text d ≡ true → (s : List ℕ) × (d ≡ string s)
string_from_text (string s) e = (s, refl)
string_from_text _ e = cc

pub array_from : (d : Data) → is_array d ≡ true → (ds : Items) × (d ≡ array ds)
array_from (array ds) e = (ds, refl)
array_from _ e = cc

pub list_of_items_exact : (ds es : Items) → list_of_items ds ≡ list_of_items es → ds ≡ es
list_of_items_exact no_items no_items e = refl
list_of_items_exact (item d ds) (item f es) e = let h : list_of_items ds ≡ list_of_items es = cc in let g : d ≡ f =
    cc in ap₂ item g (list_of_items_exact ds es h)
list_of_items_exact ds es e = cc

pub list_of_items-place : (ds : Items) (d : Data) → In d (list_of_items ds) → (i : ℕ) × (get_item i ds ≡ Some d)
list_of_items-place no_items d h = elim h [ ]
list_of_items-place (item e ds) d h = elim h [ inl s ↦ (zero, ap Some s) | inr k ↦ let r = list_of_items-place ds d k in (suc r.0, r.1) ]

pub list_of_items-tree : (ds : Items) (d : Data) → AreTrees ds → In d (list_of_items ds) → IsTree d
list_of_items-tree no_items d tree h = elim h [ ]
list_of_items-tree (item e ds) d tree h = ⊎_elim (λ s. subst IsTree s tree.0) (λ k. list_of_items-tree ds d tree.1 k) h

pub get_item-tree : (i : ℕ) (v : Data) (ds : Items) → AreTrees ds → get_item i ds ≡ Some v → IsTree v
get_item-tree i v no_items tree e = cc
get_item-tree zero v (item d ds) tree e = let h : d ≡ v = cc in subst IsTree h tree.0
get_item-tree (suc i) v (item d ds) tree e = get_item-tree i v ds tree.1 e

-- ---- the members of an object are determined by what it has under each name

pub same_as_itself : (xs : List ℕ) → text_cmp xs xs ≡ Equal
same_as_itself xs = tied_itself nat_list_cmp_total xs

-- a name before all of the members' names stands at none
pub get_member-before : (k : List ℕ) (ms : Members) → AreMembers ms → IsBeforeFirst k ms → get_member k ms ≡ None
get_member-before k no_members rise below = refl
get_member-before k (member l d no_members) rise below = rw below
get_member-before k (member l d (member m e ms)) rise below =
    rw below (get_member-before k (member m e ms) rise.2 (nat_list_cmp_total.trans k l m below rise.0))

pub get_member-first : (k : List ℕ) (d : Data) (ms : Members) → get_member k (member k d ms) ≡ Some d
get_member-first k d ms = rw same_as_itself

-- and a name after the first one, where it stands among the others
pub get_member-later : (n k : List ℕ) (d e : Data) (ms : Members) → text_cmp k n ≡ Less → get_member n ms ≡ Some e → get_member n (member k d ms) ≡ Some e
get_member-later n k d e ms less h =
    let down : text_cmp n k ≡ Greater = nat_list_cmp_total.antisymm n k ∙ ap ordering_reverse less in
    rw down h

-- what is found among members is the value of the first, or of a later one
found_cases_at : {G : Type 0} (n k : List ℕ) (d e : Data) (ms : Members) (o : Ordering) → text_cmp n k ≡ o → match_ordering o (get_member n ms) (Some e)
    (get_member n ms) ≡ Some d → (n ≡ k → e ≡ d → G) → (get_member n ms ≡ Some d → G) → G
found_cases_at n k d e ms Equal is found first later = first (exact_bytes n k is) (same_Some e d found)
found_cases_at n k d e ms x is found first later = later found

pub found_cases : {G : Type 0} (n k : List ℕ) (d e : Data) (ms : Members) → get_member n (member k e ms) ≡ Some d → (n ≡ k → e ≡ d → G)
    → (get_member n ms ≡ Some d → G) → G
found_cases n k d e ms found first later = found_cases_at n k d e ms (text_cmp n k) refl found first later

-- the rest of two lists of members have the same under each name
get_member-rest_at : (o : Ordering) (q k : List ℕ) (d : Data) (ms ns : Members) → text_cmp q k ≡ o → AreMembers ms → AreMembers ns
    → IsBeforeFirst k ms → IsBeforeFirst k ns
    → match_ordering o (get_member q ms) (Some d) (get_member q ms) ≡ match_ordering o (get_member q ns) (Some d) (get_member q ns)
    → get_member q ms ≡ get_member q ns
get_member-rest_at Equal q k d ms ns is ms_rise ns_rise ms_below ns_below same =
    let e : q ≡ k = exact_bytes q k is in
    rw e (get_member-before k ms ms_rise ms_below ∙ sym (get_member-before k ns ns_rise ns_below))
get_member-rest_at e q k d ms ns is ms_rise ns_rise ms_below ns_below same = same

members_unique_at : (o : Ordering) (k l : List ℕ) (d e : Data) (ms ns : Members) → text_cmp k l ≡ o → AreMembers (member k d ms) → AreMembers (member l e ns)
    → ((q : List ℕ) → get_member q (member k d ms) ≡ get_member q (member l e ns))
    → (AreMembers ms → AreMembers ns → ((q : List ℕ) → get_member q ms ≡ get_member q ns) → ms ≡ ns) → member k d ms ≡ member l e ns
members_unique_at Less k l d e ms ns is ms_rise ns_rise same rest =
    let h = sym (get_member-first k d ms) ∙ same k ∙ get_member-before k (member l e ns) ns_rise is in cc
members_unique_at Equal k l d e ms ns is ms_rise ns_rise same rest =
    let names : k ≡ l = exact_bytes k l is in
    let first : d ≡ e = let h : Some d ≡ Some e = sym (get_member-first k d ms) ∙ same k ∙ ap (λ (x : List ℕ). get_member x (member l e ns)) names
    ∙ get_member-first l e ns in cc in
    let tail = λ (q : List ℕ). get_member-rest_at (text_cmp q k) q k d ms ns refl ms_rise.2 ns_rise.2 ms_rise.0 (rw names ns_rise.0)
    (same q ∙ rw (names, first)) in
    let later : ms ≡ ns = rest ms_rise.2 ns_rise.2 tail in
    cc
members_unique_at Greater k l d e ms ns is ms_rise ns_rise same rest =
    let below : text_cmp l k ≡ Less = nat_list_cmp_total.antisymm l k ∙ ap ordering_reverse is in
    let h = sym (get_member-first l e ns) ∙ sym (same l) ∙ get_member-before l (member k d ms) ms_rise below in cc

pub members_unique : (ms ns : Members) → AreMembers ms → AreMembers ns → ((k : List ℕ) → get_member k ms ≡ get_member k ns) → ms ≡ ns
members_unique no_members no_members ms_rise ns_rise same = refl
members_unique no_members (member l e ns) ms_rise ns_rise same = let h = same l ∙ get_member-first l e ns in cc
members_unique (member k d ms) no_members ms_rise ns_rise same = let h = sym (get_member-first k d ms) ∙ same k in cc
members_unique (member k d ms) (member l e ns) ms_rise ns_rise same = members_unique_at _ k l d e ms ns refl ms_rise ns_rise same (members_unique ms ns)

-- what stands in a tree is a tree
pub get_member-tree : (k : List ℕ) (v : Data) (ms : Members) → AreMembers ms → get_member k ms ≡ Some v → IsTree v
get_member-tree k v no_members tree e = cc
get_member-tree k v (member l d ms) tree e = found_cases k l v d ms e (λ name same. subst IsTree same tree.1) (λ found. get_member-tree k v ms tree.2 found)

pub get_member-depth : (k : List ℕ) (v : Data) (ms : Members) → get_member k ms ≡ Some v → depth v ≤ members_depth ms
get_member-depth k v no_members e = cc
get_member-depth k v (member l d ms) e =
    found_cases {G = depth v ≤ members_depth (member l d ms)} k l v d ms e (λ name same. let low : depth d ≡ depth v = ap depth same in omega arith)
    (λ found. let low : depth v ≤ members_depth ms = get_member-depth k v ms found in omega arith)

-- ---- what stands at the places of a report whose shape has no fault

-- it is asked at some place of the report
pub record Within (t : Data) (a : Asked) : Type 0 where
  pub place : List Step
  pub is : asked_at t place ≡ Some a

asked_from-step : (a : Asked) (p : List Step) (s : Step) → asked_from a (p ++ s ∷ []) ≡ option_and_then (λ b. asked_inside b.want b.value s) (asked_from a p)
asked_from-step a [] s = asked_from-one (asked_inside a.want a.value s)
  where
    asked_from-one : (o : Option Asked) → option_and_then (λ b. asked_from b []) o ≡ o
    asked_from-one o = grind arith
asked_from-step a (r ∷ p) s = onward (asked_inside a.want a.value r) (λ b. asked_from-step b p s)
  where
    onward : (o : Option Asked) → ((b : Asked) → asked_from b (p ++ s ∷ []) ≡ option_and_then (λ c. asked_inside c.want c.value s) (asked_from b p))
        → option_and_then (λ b. asked_from b (p ++ s ∷ [])) o ≡ option_and_then (λ c. asked_inside c.want c.value s) (option_and_then (λ b. asked_from b p) o)
    onward None h = refl
    onward (Some b) h = h b

pub asked_at-step : (t : Data) (p : List Step) (a b : Asked) (s : Step) → asked_at t p ≡ Some a → asked_inside a.want a.value s ≡ Some b
    → asked_at t (p ++ s ∷ []) ≡ Some b
asked_at-step t p a b s is e = asked_from-step (asked (Object role.Report) t) p s ∙ ap (option_and_then (λ x. asked_inside x.want x.value s)) is ∙ e

-- two steps further in
pub asked_at-steps : (t : Data) (p : List Step) (a b c : Asked) (r s : Step) → asked_at t p ≡ Some a → asked_inside a.want a.value r ≡ Some b
    → asked_inside b.want b.value s ≡ Some c → asked_at t (p ++ r ∷ s ∷ []) ≡ Some c
asked_at-steps t p a b c r s is e f = subst (λ q. asked_at t q ≡ Some c) (append_assoc p (r ∷ []) (s ∷ []))
    (asked_at-step t (p ++ r ∷ []) b c s (asked_at-step t p a b r is e) f)

-- one step further in
pub Within-step : (t : Data) (a b : Asked) (s : Step) → Within t a → asked_inside a.want a.value s ≡ Some b → Within t b
Within-step t a b s w e = record { place = w.place ++ s ∷ []; is = asked_at-step t w.place a b s w.is e }

pub Within-root : (t : Data) → Within t (asked (Object role.Report) t)
Within-root t = record { place = []; is = refl }

-- what is a fault stands nowhere
pub not_within : (t : Data) (a : Asked) (P : Asked → Type 0) (w : Within t a) → (IsSomeAnd (asked_at t w.place) P → ⊥) → P a → ⊥
not_within t a P w none h = none (subst (λ o. IsSomeAnd o P) (sym w.is) h)

-- an object's `@type` is the text of the class that is found
pub record Classed (r : Role) (d : Data) : Type 0 where
  pub members : Members
  pub is_object : d ≡ object members
  pub class : Class
  pub among : class_of_object r d ≡ Some class
  pub role : role_of_class class ≡ r
  pub text : get (codes "@type") d ≡ Some (string (text_of_class class))

-- an object that has this role is asked for, or may stand
pub data AsksObject : Want → Role → Type 0 where
  of_role : {r : Role} → AsksObject (Object r) r
  of_label : {required : Bool} → AsksObject (Member kind.Label required) role.Label

must_type : (w : Want) (r : Role) (ms : Members) → AsksObject w r → get (codes "@type") (object ms) ≡ None → list_any (bytes_eq (codes "@type"))
    (names_wanted (scope_inside w (object ms))) ≡ true
must_type w r ms of_role e = rw e
must_type w r ms of_label e = rw e

type_asked : (w : Want) (r : Role) (ms : Members) (v : Data) → AsksObject w r → get (codes "@type") (object ms) ≡ Some v
    → asked_inside w (object ms) (Name (codes "@type")) ≡ Some (asked (ClassText r) v)
type_asked w r ms v of_role e = rw e
type_asked w r ms v of_label e = rw e

pub asked_inside_object : (w : Want) (r : Role) (ms : Members) (c : Class) (name : List ℕ) (v : Data) → AsksObject w r → class_of_object r (object ms) ≡ Some c
    → bytes_eq name (codes "@type") ≡ false → get_member name ms ≡ Some v → asked_inside w (object ms) (Name name) ≡ Some (asked (member_want c name) v)
asked_inside_object w r ms c name v of_role among other e = rw (other, among, e)
asked_inside_object w r ms c name v of_label among other e = rw (other, among, e)

module _ (t : Data) (clean : NoneOf (ShapeFault t)) where
  pub faultless : (a : Asked) (r : Reason) → Within t a → is_shape_fault a r ≡ false
  faultless a r w = false_from_ne_true (is_shape_fault a r) (not_within t a (λ x. IsTrue (is_shape_fault x r)) w (clean w.place r))

  pub wanted_within : (a : Asked) → Within t a → has_wanted_kind a.want a.value ≡ true
  wanted_within a w = not-false (has_wanted_kind a.want a.value) (faultless a reason.WrongKind w)

  -- an object has each member that it must have
  pub lacks_none : (a : Asked) (name : List ℕ) → Within t a → list_any (bytes_eq name) (names_wanted (scope_inside a.want a.value)) ≡ true
      → get name a.value ≡ None → ⊥
  lacks_none a name w needed e = let h : true ≡ false = sym (and_from _ _ needed (ap is_none e)) ∙ faultless a (reason.MissingMember name) w in cc

  -- no entry of a set of JSON values repeats an earlier one
  pub unrepeated : (w : Want) (d : Data) (b : Bool) → is_reference w ≡ false → Within t (record { want = w; value = d; repeated = b }) → Within t (asked w d)
  unrepeated w d true h s = let e : true ≡ false = sym (ap not h) ∙ faultless (record { want = w; value = d; repeated = true }) reason.Repeated s in cc
  unrepeated w d false h s = s

  classed_text : (r : Role) (ms : Members) (v : Data) → get (codes "@type") (object ms) ≡ Some v → Within t (asked (ClassText r) v) → Classed r (object ms)
  classed_text r ms v e w =
      let text = string_from_text v (wanted_within (asked (ClassText r) v) w) in
      let s : List ℕ = text.0 in
      let w' : Within t (asked (ClassText r) (string s)) = subst (λ x. Within t (asked (ClassText r) x)) text.1 w in
      at s (e ∙ ap Some text.1) (class_in_role r s) refl (faultless (asked (ClassText r) (string s)) reason.WrongClassText w')
    where
      at : (s : List ℕ) → get (codes "@type") (object ms) ≡ Some (string s) → (o : Option Class) → class_in_role r s ≡ o → is_none (class_in_role r s) ≡ false
          → Classed r (object ms)
      at s stands None is right = let x : true ≡ false = sym (ap is_none is) ∙ right in cc
      at s stands (Some c) is right =
          let named = class_in_role_named r s c is in
          record {
            members = ms;
            is_object = refl;
            class = c;
            among = rw stands is;
            role = named.role;
            text = stands ∙ ap (λ x. Some (string x)) named.text;
          }

  classed_members : (w : Want) (r : Role) (ms : Members) → AsksObject w r → Within t (asked w (object ms)) → Classed r (object ms)
  classed_members w r ms h inside = at (get (codes "@type") (object ms)) refl
    where
      at : (o : Option Data) → get (codes "@type") (object ms) ≡ o → Classed r (object ms)
      at None e = absurd (lacks_none (asked w (object ms)) (codes "@type") inside (must_type w r ms h e) e)
      at (Some v) e =
          classed_text r ms v e (Within-step t (asked w (object ms)) (asked (ClassText r) v) (Name (codes "@type")) inside (type_asked w r ms v h e))

  pub classed : (w : Want) (r : Role) (d : Data) → AsksObject w r → is_object d ≡ true → Within t (asked w d) → Classed r d
  classed w r d h e inside =
      let m = object_from d e in
      subst (Classed r) (sym m.1) (classed_members w r m.0 h (subst (λ x. Within t (asked w x)) m.1 inside))

  -- a member other than `@type`, in an object of a known class
  pub member_within : (w : Want) (r : Role) (ms : Members) (c : Class) (name : List ℕ) (v : Data) → AsksObject w r → class_of_object r (object ms) ≡ Some c
      → bytes_eq name (codes "@type") ≡ false → Within t (asked w (object ms)) → get_member name ms ≡ Some v → Within t (asked (member_want c name) v)
  member_within w r ms c name v h among other inside e = Within-step t (asked w (object ms)) (asked (member_want c name) v) (Name name) inside
      (asked_inside_object w r ms c name v h among other e)

-- ---- what holds of a value and of what stands in it

-- it holds of each member and each entry of a value that it holds of
pub record IsHandedOn (P : Data → Type 0) : Type 0 where
  pub of_object : (n : List ℕ) (v : Data) (ms : Members) → P (object ms) → get_member n ms ≡ Some v → P v
  pub of_array : (i : ℕ) (v : Data) (ds : Items) → P (array ds) → get_item i ds ≡ Some v → P v

module _ (P : Data → Type 0) (on : IsHandedOn P) where
  asked-holds : (make : Want → Data → Asked) → ((v : Want) (d : Data) → (make v d).value ≡ d) → (w : Option Want) (o : Option Data) (a : Asked)
      → ((d : Data) → o ≡ Some d → P d) → option_and_then (λ v. option_map (make v) o) w ≡ Some a → P a.value
  asked-holds make value None o a holds e = cc
  asked-holds make value (Some w) None a holds e = cc
  asked-holds make value (Some w) (Some d) a holds e = let h : make w d ≡ a = cc in subst P (sym (value w d) ∙ ap (λ (x : Asked). x.value) h) (holds d refl)

  asked_inside-holds : (w : Want) (d : Data) (s : Step) (a : Asked) → P d → asked_inside w d s ≡ Some a → P a.value
  asked_inside-holds w (object ms) (Name n) a holds e = asked-holds asked (λ v d. refl) (want_of_name (scope_inside w (object ms)) n) (get_member n ms) a
      (λ v h. on.of_object n v ms holds h) e
  asked_inside-holds w (array ds) (At i) a holds e =
      asked-holds (λ v d. record { want = v; value = d; repeated = is_compared_set w && is_repeated ds i d }) (λ v d. refl) (entry_want w) (get_item i ds) a
      (λ v h. on.of_array i v ds holds h) e
  asked_inside-holds w _ _ a holds e = cc

  asked_from-holds : (b : Asked) (p : List Step) (a : Asked) → P b.value → asked_from b p ≡ Some a → P a.value
  asked_from-holds b [] a holds e = let h : b ≡ a = cc in subst P (ap (λ (x : Asked). x.value) h) holds
  asked_from-holds b (s ∷ p) a holds e = at (asked_inside b.want b.value s) refl (λ c. asked_from-holds c p a)
    where
      at : (o : Option Asked) → asked_inside b.want b.value s ≡ o → ((c : Asked) → P c.value → asked_from c p ≡ Some a → P a.value) → P a.value
      at None is h = let x : None ≡ Some a = rw is at e in cc
      at (Some c) is h = h c (asked_inside-holds b.want b.value s c holds is) (rw is at e)

  -- of all that is asked of in a report that it holds of
  pub within-holds : (t : Data) (a : Asked) → P t → Within t a → P a.value
  within-holds t a holds w = asked_from-holds (asked (Object role.Report) t) w.place a holds w.is

-- all that stands in a tree is a tree
pub within-tree : (t : Data) (a : Asked) → IsTree t → Within t a → IsTree a.value
within-tree = within-holds IsTree (record { of_object = get_member-tree; of_array = get_item-tree })

-- ---- what kinds the table has for a class

cond_keeps : {A : Type 0} (P : A → Bool) (b : Bool) (x y : A) → P x ≡ true → P y ≡ true → P (cond b x y) ≡ true
cond_keeps P b x y h k = grind arith

-- what holds of the kinds of unlisted names holds of one
pub kind_of_unlisted_has : (P : MemberKind → Bool) (c : Class) (name : List ℕ) → bytes_eq name (codes "@type") ≡ false
    → P (kind_of_identity c) ≡ true → P kind.StrangeReference ≡ true → P kind.Carried ≡ true → P (kind_of_unlisted c name) ≡ true
kind_of_unlisted_has P c name other id reference carried =
    rw other
    (cond_keeps P (bytes_eq name (codes "@id")) (kind_of_identity c) _ id
    (cond_keeps P (is_reference_name name) kind.StrangeReference kind.Carried reference carried))

kind_or : (Q : Row → Bool) (P : MemberKind → Bool) (other : MemberKind) (name : List ℕ) (ms : List Row) → list_all Q ms ≡ true
    → ((m : Row) → Q m ≡ true → bytes_eq name m.name ≡ true → P m.kind ≡ true) → P other ≡ true → P (unwrap_or (kind_in_rows ms name) other) ≡ true
kind_or Q P other name [] h each k = k
kind_or Q P other name (m ∷ ms) h each k =
    let both = and_parts (Q m) _ h in
    elim (cases_Bool (bytes_eq name m.name)) [ inl is ↦ rw is (each m both.0 is) | inr is ↦ rw is (kind_or Q P other name ms both.1 each k) ]

-- what holds of each kind in a class's rows, and of the kinds of unlisted names, holds of a member's kind
pub kind_of_class : (P : MemberKind → Bool) (c : Class) (name : List ℕ) → bytes_eq name (codes "@type") ≡ false
    → list_all (λ m. P m.kind) (rows_of_class c) ≡ true
    → P (kind_of_identity c) ≡ true → P kind.StrangeReference ≡ true → P kind.Carried ≡ true → P (kind_of_member c name) ≡ true
kind_of_class P c name other lines id reference carried =
    kind_or (λ m. P m.kind) P (kind_of_unlisted c name) name (rows_of_class c) lines (λ m h e. h) (kind_of_unlisted_has P c name other id reference carried)

-- what each row of a class that has the name says, and the kinds of unlisted names, for a name other than `@type` and `@id`
pub kind_of_name : (Q : Row → Bool) (P : MemberKind → Bool) (c : Class) (name : List ℕ) → bytes_eq name (codes "@type") ≡ false
    → bytes_eq name (codes "@id") ≡ false
    → list_all Q (rows_of_class c) ≡ true → ((m : Row) → Q m ≡ true → bytes_eq name m.name ≡ true → P m.kind ≡ true)
    → P kind.StrangeReference ≡ true → P kind.Carried ≡ true → P (kind_of_member c name) ≡ true
kind_of_name Q P c name no_type no_id lines each reference carried =
    kind_or Q P (kind_of_unlisted c name) name (rows_of_class c) lines each
    (rw (no_type, no_id) (cond_keeps P (is_reference_name name) kind.StrangeReference kind.Carried reference carried))

-- `@id` is in no class's rows
pub kind_of_id : (c : Class) → kind_of_member c (codes "@id") ≡ kind_of_identity c
kind_of_id class.ElectionReport = refl
kind_of_id c = refl

-- the report's `Status` alone is asked for apart

abbrev pub is_word : MemberKind → Bool
is_word kind.Word = true
is_word k = false

status_word : (c : Class) (name : List ℕ) (k : MemberKind) → kind_of_member c name ≡ k → is_word k ≡ false
    → (is_report_class c && bytes_eq name (codes "Status")) ≡ true → ⊥
status_word class.ElectionReport name k e h is =
    let s : name ≡ codes "Status" = text_exact name (codes "Status") is in
    let w : kind.Word ≡ k = sym (ap (kind_of_member class.ElectionReport) s) ∙ e in
    let x : true ≡ false = ap is_word w ∙ h in
    cc
status_word c name k e h is = cc

pub want_by_kind : (c : Class) (name : List ℕ) (k : MemberKind) → kind_of_member c name ≡ k → is_word k ≡ false → member_want c name
    ≡ want_of_kind k (is_required c name)
want_by_kind c name k e h = elim (cases_Bool (is_report_class c && bytes_eq name (codes "Status")))
    [ inl is ↦ absurd (status_word c name k e h is) | inr is ↦ rw (is, e) ]

pub want_unless_status : (c : Class) (name : List ℕ) → (is_report_class c && bytes_eq name (codes "Status")) ≡ false → member_want c name
    ≡ want_of_kind (kind_of_member c name) (is_required c name)
want_unless_status c name is = rw is

-- ---- the objects of a report without a fault of shape, and their keyed arrays

-- an object of a class, asked for at a place of a report
pub record ObjectAt (t : Data) (w : Want) (r : Role) (c : Class) (ms : Members) : Type 0 where
  pub asks : AsksObject w r
  pub inside : Within t (asked w (object ms))
  pub among : class_of_object r (object ms) ≡ Some c
  pub typed : get_member (codes "@type") ms ≡ Some (string (text_of_class c))

-- an object that is asked to have a role
pub record ObjectIn (t : Data) (r : Role) (d : Data) : Type 0 where
  pub ms : Members
  pub is_object : d ≡ object ms
  pub class : Class
  pub role : role_of_class class ≡ r
  pub at : ObjectAt t (Object r) r class ms

pub object_in : (t : Data) → NoneOf (ShapeFault t) → (r : Role) (d : Data) → Within t (asked (Object r) d) → ObjectIn t r d
object_in t clean r d w =
    let cl : Classed r d = classed t clean (Object r) r d of_role (wanted_within t clean (asked (Object r) d) w) w in
    record {
      ms = cl.members;
      is_object = cl.is_object;
      class = cl.class;
      role = cl.role;
      at = record {
        asks = of_role;
        inside = subst (λ x. Within t (asked (Object r) x)) cl.is_object w;
        among = subst (λ x. class_of_object r x ≡ Some cl.class) cl.is_object cl.among;
        typed = subst (λ x. get (codes "@type") x ≡ Some (string (text_of_class cl.class))) cl.is_object cl.text;
      };
    }

-- an object whose role one class alone has
pub object_at : (t : Data) → NoneOf (ShapeFault t) → (r : Role) (c : Class) → ((e : Class) → role_of_class e ≡ r → e ≡ c) → (d : Data)
    → Within t (asked (Object r) d) → (ms : Members) × (d ≡ object ms) × ObjectAt t (Object r) r c ms
object_at t clean r c only d w =
    let o : ObjectIn t r d = object_in t clean r d w in
    (o.ms, o.is_object, subst (λ e. ObjectAt t (Object r) r e o.ms) (only o.class o.role) o.at)

pub report_class : (c : Class) → role_of_class c ≡ role.Report → c ≡ class.ElectionReport
report_class class.ElectionReport e = refl
report_class c e = cc

pub election_class : (c : Class) → role_of_class c ≡ role.Election → c ≡ class.Election
election_class class.Election e = refl
election_class c e = cc

-- an array that is not empty
pub not_empty : (ds : Items) → is_empty_array (array ds) ≡ false → ¬ (ds ≡ no_items)
not_empty no_items h e = cc
not_empty (item d ds) h e = cc

-- a member that may be absent, and is an array
pub data MayBeArray (P : Items → Type 0) : Option Data → Type 0 where
  is_absent : MayBeArray P None
  is_filled_array : {ds : Items} → P ds → MayBeArray P (Some (array ds))

-- a keyed array of an object
pub keyed_list : (t : Data) → NoneOf (ShapeFault t) → (w : Want) (q : Role) (c : Class) (ms : Members) → ObjectAt t w q c ms → (f : Family) (name : List ℕ)
    → bytes_eq name (codes "@type") ≡ false
    → kind_of_member c name ≡ kind.Keyed f → (o : Option Data) → get_member name ms ≡ o
    → MayBeArray (λ ds. Within t (asked (Member (kind.Keyed f) false) (array ds))) o
keyed_list t clean w q c ms a f name other keyed None e = is_absent
keyed_list t clean w q c ms a f name other keyed (Some v) e =
    let inside : Within t (asked (Member (kind.Keyed f) false) v) =
    subst (λ x. Within t (asked x v)) (want_by_kind c name (kind.Keyed f) keyed refl) (member_within t clean w q ms c name v a.asks a.among other a.inside e) in
    let ds = array_from v (wanted_within t clean (asked (Member (kind.Keyed f) false) v) inside) in
    subst (λ x. MayBeArray (λ ds. Within t (asked (Member (kind.Keyed f) false) (array ds))) (Some x)) (sym ds.1)
    (is_filled_array (subst (λ x. Within t (asked (Member (kind.Keyed f) false) x)) ds.1 inside))
