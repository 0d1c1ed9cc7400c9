-- A report without a fault of the shape: each number in it is whole and fits 64 bits, and the names of all its objects rise.
use Rattle.erd_check.proofs.Common.{◌≡◌, true, false, List, [], ◌∷◌, map, pos, int_lt, String, sym, ◌∙◌, subst, true≢false, arith, Data, number, array, object}
use Rattle.erd_check.proofs.Common.{Items, no_items, item, Members, no_members, member, items_of, members_of, view_step, view, Value, map-Value, IsNumber, ℕ}
use Rattle.erd_check.proofs.Common.{suc, Bool, not, ◌&&◌, ◌||◌, length, ◌==◌, Some, None, codes, Option, bytes_eq, refl, ap, list_all, Num, is_float}
use Rattle.erd_check.proofs.Common.{rows_of_class, is_reference_name, kind_of_identity, kind_of_member, is_required, Class, class, family, Role, role, Reason}
use Rattle.erd_check.proofs.Common.{reason, MemberKind, kind, is_empty_array, wants_whole, is_shape_fault, list_of_items, want_of_kind, is_report_class}
use Rattle.erd_check.proofs.Common.{member_want, carried_want, want_of_name, entry_want, asked_with, IsAskedInRange, scope, Want, Carried, ClassText, Member}
use Rattle.erd_check.proofs.Common.{Object, Reference, Status, inl, inr, cases_Bool, cond_both, IfSome, nat_cmp, Less, or_from, slice_cmp, AllByRecursion}
use Rattle.erd_check.proofs.Common.{IsStrictlySortedBy, get_member, get_item, ListsAll, text_cmp, Report, Fault, At, Name, ShapeFault, NoneOf, IsBeforeFirst}
use Rattle.erd_check.proofs.Common.{IsTree, AreTrees, AreMembers, IsShallow, names, IsInOrder, AreItemsInOrder, AreMembersInOrder, IsKnown, AreItemsKnown}
use Rattle.erd_check.proofs.Common.{AreMembersKnown, class_of_object, scope_inside, is_compared_set, asked, is_repeated, Scope}
use Rattle.std.specs.Prelude.{⊤}
use Rattle.serde_json.specs.Number.{is_valid, num_of}
use Rattle.serde_json.specs.declared.number.N.{N}
use Rattle.serde_json.specs.declared.number.N.TheVariants.{PosInt, NegInt, Float}
use Rattle.std.specs.declared.alloc.Global.{Global}
use Rattle.serde_json.specs.declared.value.Value.TheOpen.{Value-F}
use Rattle.serde_json.specs.declared.value.Value.TheFolds.{fold-roll-Value, ind-Value}
use Rattle.erd_check.specs.Numbers.{IsFittingNumber, HasFittingNumbers, ItemsHaveFittingNumbers, MembersHaveFittingNumbers}
use Rattle.erd_check.proofs.Shapes.{kind_of_class, classed, faultless, of_label, of_role, unrepeated, AsksObject, Within, Within-root, Within-step}
use Rattle.erd_check.proofs.Shapes.{get_member-first, get_member-later}
use Rattle.serde_json.specs.Written.{has_float, items_have_float, members_have_float}
use Rattle.erd_check.specs.Shapes.{IsShaped}
use Rattle.erd_check.proofs.Deciding.{no_fault_from_empty}
use Rattle.erd_check.proofs.Steps.{found_all}

-- each number in a value that is kept as a negative one is below zero
abbrev mutual
  pub HasNumbers : Data → Type 0
  HasNumbers (number n) = IsNumber n
  HasNumbers (array ds) = HaveNumbers ds
  HasNumbers (object ms) = MembersHaveNumbers ms
  HasNumbers d = ⊤

  pub HaveNumbers : Items → Type 0
  HaveNumbers no_items = ⊤
  HaveNumbers (item d ds) = HasNumbers d × HaveNumbers ds

  pub MembersHaveNumbers : Members → Type 0
  MembersHaveNumbers no_members = ⊤
  MembersHaveNumbers (member k d ms) = HasNumbers d × MembersHaveNumbers ms

valid : (m : N) → is_valid m ≡ true → IsNumber (num_of m)
valid (PosInt n) h = tt
valid (NegInt (pos n)) h = let below : int_lt (pos n) (pos 0) ≡ false = grind arith in let x : true ≡ false = sym h ∙ below in absurd (true≢false x)
valid (NegInt z) h = tt
valid (Float x) h = tt

-- a value with what is known of it
abbrev Known : Type 0
Known = (v : Value) × HasNumbers (view v)

items_have : (es : List Known) → HaveNumbers (items_of (map view (map (λ e. e.0) es)))
items_have [] = tt
items_have (e ∷ es) = (e.1, items_have es)

members_have : (es : List (String Global × Known)) → MembersHaveNumbers
    (members_of (map (λ (m : String Global × Value). (m.0, view m.1)) (map (λ (e : String Global × Known). (e.0, e.1.0)) es)))
members_have [] = tt
members_have (e ∷ es) = (e.1.1, members_have es)

layer : (y : Value-F Known) → HasNumbers (view_step (map-Value Value Data view (map-Value Known Value (λ e. e.0) y)))
layer (Value-F.Number n) = valid n.n n.valid
layer (Value-F.Array v) = items_have v.items
layer (Value-F.Object m) = members_have m.entries
layer d = tt

pub has_numbers : (v : Value) → HasNumbers (view v)
has_numbers =
    ind-Value (λ v. HasNumbers (view v)) (λ x y is.
    subst HasNumbers (sym (fold-roll-Value Data view_step x)) (subst (λ z. HasNumbers (view_step (map-Value Value Data view z))) is (layer y)))

-- ---- what is asked of the values of a report, and of a value that gives no reason: its number is whole and in range, and an
-- array of which nothing is asked inside is empty

-- a value that gives no reason
pub record IsRight (w : Want) (repeated : Bool) (d : Data) : Type 0 where
  pub none : (r : Reason) → is_shape_fault (asked_with w repeated d) r ≡ false

-- ---- what is asked at the places of a report

-- not of these kinds, of which something else is asked
abbrev pub is_sought : Want → Bool
is_sought (Member kind.ClassText required) = false
is_sought (Member (kind.One f) required) = false
is_sought (Member kind.Carried required) = false
is_sought w = true

pub record Sought (o : Option Want) : Type 0 where
  pub want : Want
  pub is : o ≡ Some want
  pub sought : is_sought want ≡ true

abbrev is_untyped : MemberKind → Bool
is_untyped kind.ClassText = false
is_untyped k = true

untyped_rows : (c : Class) → list_all (λ m. is_untyped m.kind) (rows_of_class c) ≡ true
untyped_rows class.ElectionReport = refl
untyped_rows c = refl

untyped_identity : (c : Class) → is_untyped (kind_of_identity c) ≡ true
untyped_identity class.ElectionReport = refl
untyped_identity c = refl

sought_kind : (k : MemberKind) (required : Bool) → is_untyped k ≡ true → is_sought (want_of_kind k required) ≡ true
sought_kind kind.ClassText required e = cc
sought_kind k required e = refl

sought_member : (c : Class) (name : List ℕ) → bytes_eq name (codes "@type") ≡ false → is_sought (member_want c name) ≡ true
sought_member c name other =
    cond_both (is_report_class c && bytes_eq name (codes "Status")) Status (want_of_kind (kind_of_member c name) (is_required c name))
    (λ w. is_sought w ≡ true) (λ is. refl)
    (λ is. sought_kind (kind_of_member c name) (is_required c name) (kind_of_class is_untyped c name other (untyped_rows c) (untyped_identity c) refl refl))

pub sought_named : (r : Role) (c : Class) (name : List ℕ) → Sought (want_of_name (scope.Members r (Some c)) name)
sought_named r c name = elim (cases_Bool (bytes_eq name (codes "@type"))) [
  | inl is ↦ record { want = ClassText r; is = rw is; sought = refl }
  | inr is ↦ record { want = member_want c name; is = rw is; sought = sought_member c name is }
]

pub sought_carried : (name : List ℕ) → Sought (want_of_name scope.Carried name)
sought_carried name =
    record {
      want = carried_want name;
      is = refl;
      sought = cond_both (bytes_eq name (codes "@id") || is_reference_name name) (Member kind.StrangeIdentity false)
          Carried (λ w. is_sought w ≡ true) (λ is. refl) (λ is. refl);
    }

pub sought_entry : (w v : Want) → entry_want w ≡ Some v → is_sought v ≡ true
sought_entry (Member (kind.Many f) required) v e = let h : Reference f ≡ v = cc in ap is_sought (sym h)
sought_entry (Member (kind.Keyed f) required) v e = let h : Object (role.OfFamily f) ≡ v = cc in ap is_sought (sym h)
sought_entry (Member kind.Identifiers required) v e = let h : Object role.Identifier ≡ v = cc in ap is_sought (sym h)
sought_entry (Member kind.Languages required) v e = let h : Object role.Language ≡ v = cc in ap is_sought (sym h)
sought_entry (Member kind.Elections required) v e = let h : Object role.Election ≡ v = cc in ap is_sought (sym h)
sought_entry (Member kind.Content required) v e = let h : Object role.Content ≡ v = cc in ap is_sought (sym h)
sought_entry (Member kind.Ordered required) v e = let h : Reference family.Selection ≡ v = cc in ap is_sought (sym h)
sought_entry Carried v e = let h : Carried ≡ v = cc in ap is_sought (sym h)
sought_entry w v e = cc

-- ---- one value

pub number_whole : (w : Want) (repeated : Bool) (n : Num) → is_sought w ≡ true → IsRight w repeated (number n) → is_float n ≡ false
number_whole (Member kind.Whole required) repeated n s h = h.none reason.NotWhole
number_whole Carried repeated n s h = h.none reason.NotWhole
number_whole (Member kind.Outside required) repeated n s h = let x : true ≡ false = h.none reason.OutsideProfile in cc
number_whole (Member kind.StrangeReference required) repeated n s h = let x : true ≡ false = h.none reason.UnknownReference in cc
number_whole (Member kind.StrangeIdentity required) repeated n s h = let x : true ≡ false = h.none reason.CarriedIdentity in cc
number_whole (Member kind.ClassText required) repeated n s h = cc
number_whole (Member (kind.One f) required) repeated n s h = cc
number_whole (Member kind.Carried required) repeated n s h = cc
number_whole w repeated n s h = let x : true ≡ false = h.none reason.WrongKind in cc

-- an array of which nothing is asked inside has no entry
no_entry : (ds : Items) → not (is_empty_array (array ds)) ≡ false → ds ≡ no_items
no_entry no_items e = refl
no_entry (item d ds) e =
    let some : (suc (length (list_of_items ds)) == 0) ≡ false = grind arith in
    let x : true ≡ false = sym (ap not some) ∙ e in
    cc

pub array_empty : (w : Want) (repeated : Bool) (ds : Items) → is_sought w ≡ true → entry_want w ≡ None → IsRight w repeated (array ds) → ds ≡ no_items
array_empty (Member kind.Outside required) repeated ds s e h = no_entry ds (h.none reason.OutsideProfile)
array_empty (Member kind.StrangeReference required) repeated ds s e h = let x : true ≡ false = h.none reason.UnknownReference in cc
array_empty (Member kind.StrangeIdentity required) repeated ds s e h = let x : true ≡ false = h.none reason.CarriedIdentity in cc
array_empty (Member kind.ClassText required) repeated ds s e h = cc
array_empty (Member (kind.One f) required) repeated ds s e h = cc
array_empty (Member kind.Carried required) repeated ds s e h = cc
array_empty (Member kind.Identity required) repeated ds s e h = let x : true ≡ false = h.none reason.WrongKind in cc
array_empty (Member kind.Word required) repeated ds s e h = let x : true ≡ false = h.none reason.WrongKind in cc
array_empty (Member kind.Label required) repeated ds s e h = let x : true ≡ false = h.none reason.WrongKind in cc
array_empty (Member kind.Flag required) repeated ds s e h = let x : true ≡ false = h.none reason.WrongKind in cc
array_empty (Member kind.Whole required) repeated ds s e h = let x : true ≡ false = h.none reason.WrongKind in cc
array_empty (Member k required) repeated ds s e h = cc
array_empty Carried repeated ds s e h = cc
array_empty w repeated ds s e h = let x : true ≡ false = h.none reason.WrongKind in cc

-- of each number that gives no reason it is asked that it is whole
asks_whole : (w : Want) (repeated : Bool) (n : Num) → is_sought w ≡ true → IsRight w repeated (number n) → wants_whole w ≡ true
asks_whole (Member kind.Whole required) repeated n s h = refl
asks_whole Carried repeated n s h = refl
asks_whole (Member kind.Outside required) repeated n s h = let x : true ≡ false = h.none reason.OutsideProfile in cc
asks_whole (Member kind.StrangeReference required) repeated n s h = let x : true ≡ false = h.none reason.UnknownReference in cc
asks_whole (Member kind.StrangeIdentity required) repeated n s h = let x : true ≡ false = h.none reason.CarriedIdentity in cc
asks_whole (Member kind.ClassText required) repeated n s h = cc
asks_whole (Member (kind.One f) required) repeated n s h = cc
asks_whole (Member kind.Carried required) repeated n s h = cc
asks_whole w repeated n s h = let x : true ≡ false = h.none reason.WrongKind in cc

-- so each such number is whole and fits
pub fitting_number : (w : Want) (repeated : Bool) (n : Num) → is_sought w ≡ true → IsRight w repeated (number n)
    → IsAskedInRange w (number n) → IsFittingNumber n
fitting_number w repeated n s h range = range (asks_whole w repeated n s h) (number_whole w repeated n s h)

-- ---- the members of an object

pub record AllSought (s : Scope) : Type 0 where
  pub each : (name : List ℕ) → Sought (want_of_name s name)

before_first : (k : List ℕ) (ms : Members) → IsStrictlySortedBy text_cmp (k ∷ names ms) → IsBeforeFirst k ms
unfolding IsStrictlySortedBy
before_first k no_members h = tt
before_first k (member l d ms) h = h.0.0

names_after : (k : List ℕ) (ms : Members) → IsStrictlySortedBy text_cmp (k ∷ names ms) → IsStrictlySortedBy text_cmp (names ms)
unfolding IsStrictlySortedBy
names_after k ms h = h.1

-- ---- the whole

-- what is known of a value without a fault in it; of its entries; of its members
record Sound (w : Want) (d : Data) : Type 0 where
  whole : has_float d ≡ false
  tree : HasNumbers d → IsTree d
  fits : IsKnown IsAskedInRange w d → HasFittingNumbers d

record ItemsSound (w : Want) (ds : Items) : Type 0 where
  whole : items_have_float ds ≡ false
  trees : HaveNumbers ds → AreTrees ds
  fits : AreItemsKnown IsAskedInRange w ds → ItemsHaveFittingNumbers ds

record MembersSound (s : Scope) (ms : Members) : Type 0 where
  whole : members_have_float ms ≡ false
  trees : MembersHaveNumbers ms → AreMembers ms
  fits : AreMembersKnown IsAskedInRange s ms → MembersHaveFittingNumbers ms

names_above : (k : List ℕ) (ms : Members) → IsStrictlySortedBy text_cmp (k ∷ names ms) → AllByRecursion (λ n. slice_cmp nat_cmp k n ≡ Less) (names ms)
unfolding IsStrictlySortedBy
names_above k ms h = h.0

module _ (t : Data) (clean : NoneOf (ShapeFault t)) where
  right : (w : Want) (repeated : Bool) (d : Data) → Within t (asked_with w repeated d) → IsRight w repeated d
  right w repeated d inside = record { none = λ r. faultless t clean (asked_with w repeated d) r inside }

  scope_sought : (w : Want) (r : Role) (ms : Members) → AsksObject w r → Within t (asked w (object ms))
      → AllSought (scope.Members r (class_of_object r (object ms)))
  scope_sought w r ms h inside =
      let c = classed t clean w r (object ms) h refl inside in
      record { each = λ name. subst (λ o. Sought (want_of_name (scope.Members r o) name)) (sym c.among) (sought_named r c.class name) }

  object_sought : (w : Want) (repeated : Bool) (ms : Members) → is_sought w ≡ true → Within t (asked_with w repeated (object ms))
      → IsRight w repeated (object ms) → AllSought (scope_inside w (object ms))
  object_sought (Object r) repeated ms s inside h = scope_sought (Object r) r ms of_role (unrepeated t clean (Object r) (object ms) repeated refl inside)
  object_sought (Member kind.Label required) repeated ms s inside h =
      scope_sought (Member kind.Label required) role.Label ms of_label (unrepeated t clean (Member kind.Label required) (object ms) repeated refl inside)
  object_sought Carried repeated ms s inside h = record { each = sought_carried }
  object_sought (Member kind.Outside required) repeated ms s inside h = let x : true ≡ false = h.none reason.OutsideProfile in cc
  object_sought (Member kind.StrangeReference required) repeated ms s inside h = let x : true ≡ false = h.none reason.UnknownReference in cc
  object_sought (Member kind.StrangeIdentity required) repeated ms s inside h = let x : true ≡ false = h.none reason.CarriedIdentity in cc
  object_sought (Member kind.ClassText required) repeated ms s inside h = cc
  object_sought (Member (kind.One f) required) repeated ms s inside h = cc
  object_sought (Member kind.Carried required) repeated ms s inside h = cc
  object_sought w repeated ms s inside h = let x : true ≡ false = h.none reason.WrongKind in cc

  -- each entry is asked for, whether or not it repeats an earlier one
  abbrev EachItem : Want → Items → Type 0
  EachItem w ds = (i : ℕ) (d : Data) → get_item i ds ≡ Some d → (b : Bool) × Within t (asked_with w b d)

  abbrev EachMember : Scope → Members → Type 0
  EachMember s ms = (n : List ℕ) (v : Want) (d : Data) → want_of_name s n ≡ Some v → get_member n ms ≡ Some d → Within t (asked v d)

  entry_within : (w v : Want) (repeated : Bool) (ds : Items) → entry_want w ≡ Some v → Within t (asked_with w repeated (array ds)) → EachItem v ds
  entry_within w v repeated ds e inside i d there =
      let b = is_compared_set w && is_repeated ds i d in
      (b, Within-step t (asked_with w repeated (array ds)) (asked_with v b d) (At i) inside (rw (e, there)))

  member_asked : (w : Want) (repeated : Bool) (ms : Members) → Within t (asked_with w repeated (object ms)) → EachMember (scope_inside w (object ms)) ms
  member_asked w repeated ms inside n v d e there = Within-step t (asked_with w repeated (object ms)) (asked v d) (Name n) inside (rw (e, there))

  items_of_want : (w : Want) (repeated : Bool) (ds : Items) (o : Option Want) → entry_want w ≡ o → is_sought w ≡ true → IsRight w repeated (array ds)
      → IfSome o (λ v. AreItemsInOrder v ds)
      → ((v : Want) → entry_want w ≡ Some v → is_sought v ≡ true → AreItemsInOrder v ds → ItemsSound v ds)
      → (items_have_float ds ≡ false) × (HaveNumbers ds → AreTrees ds) × (IfSome o (λ v. AreItemsKnown IsAskedInRange v ds) → ItemsHaveFittingNumbers ds)
  items_of_want w repeated ds None e s h order each =
      let empty = array_empty w repeated ds s e h in
      (ap items_have_float empty, λ k. subst AreTrees (sym empty) tt, λ k. subst ItemsHaveFittingNumbers (sym empty) tt)
  items_of_want w repeated ds (Some v) e s h order each = let r = each v e (sought_entry w v e) order in (r.whole, r.trees, r.fits)

  mutual
    sound_at : (w : Want) (repeated : Bool) (d : Data) → is_sought w ≡ true → IsInOrder w d → Within t (asked_with w repeated d) → Sound w d
    sound_at w repeated (number n) s order inside =
        let h = right w repeated (number n) inside in
        record { whole = number_whole w repeated n s h; tree = λ k. k; fits = λ k. fitting_number w repeated n s h k }
    sound_at w repeated (array ds) s order inside =
        let r = items_of_want w repeated ds (entry_want w) refl s (right w repeated (array ds) inside) order
        (λ v e q o. items_sound v ds q o (entry_within w v repeated ds e inside)) in
        record { whole = r.0; tree = r.1; fits = λ k. r.2 k.1 }
    sound_at w repeated (object ms) s order inside =
        let r = members_sound (scope_inside w (object ms)) ms (object_sought w repeated ms s inside (right w repeated (object ms) inside)) order.0 order.1
        (member_asked w repeated ms inside) in
        record { whole = r.whole; tree = r.trees; fits = λ k. r.fits k.1 }
    sound_at w repeated e s order inside = record { whole = refl; tree = λ k. tt; fits = λ k. tt }

    items_sound : (w : Want) (ds : Items) → is_sought w ≡ true → AreItemsInOrder w ds → EachItem w ds → ItemsSound w ds
    items_sound w no_items s order each = record { whole = refl; trees = λ k. tt; fits = λ k. tt }
    items_sound w (item d ds) s order each =
        let here = each 0 d refl in
        let first = sound_at w here.0 d s order.0 here.1 in
        let rest = items_sound w ds s order.1 (λ i e h. each (suc i) e h) in
        record {
          whole = or_from (has_float d) (items_have_float ds) first.whole rest.whole;
          trees = λ k. (first.tree k.0, rest.trees k.1);
          fits = λ k. (first.fits k.0, rest.fits k.1);
        }

    members_sound : (s : Scope) (ms : Members) → AllSought s → IsStrictlySortedBy text_cmp (names ms) → AreMembersInOrder s ms
        → EachMember s ms → MembersSound s ms
    members_sound s no_members all rising order each = record { whole = refl; trees = λ k. tt; fits = λ k. tt }
    members_sound s (member k d ms) all rising order each =
        let sought = all.each k in
        let first = sound_at sought.want false d sought.sought (subst (λ o. IfSome o (λ v. IsInOrder v d)) sought.is order.0)
        (each k sought.want d sought.is (get_member-first k d ms)) in
        let rest = members_sound s ms all (names_after k ms rising) order.1
        (λ n v e h there. each n v e h
        (get_member-later n k d e ms (found_all (λ n. slice_cmp nat_cmp k n ≡ Less) n e ms there (names_above k ms rising)) there)) in
        record {
          whole = or_from (has_float d) (members_have_float ms) first.whole rest.whole;
          trees = λ h. (before_first k ms rising, first.tree h.0, rest.trees h.1);
          fits = λ h. (first.fits (subst (λ o. IfSome o (λ v. IsKnown IsAskedInRange v d)) sought.is h.0), rest.fits h.1);
        }

  report_sound : IsInOrder (Object Report) t → Sound (Object Report) t
  report_sound order = sound_at (Object Report) false t refl order (Within-root t)

  pub no_fraction : IsInOrder (Object Report) t → has_float t ≡ false
  no_fraction order = (report_sound order).whole

pub shaped_by : (v : Value) (faults : List Fault) → ListsAll (ShapeFault (view v)) faults → IsInOrder (Object Report) (view v)
    → IsKnown IsAskedInRange (Object Report) (view v) → IsShallow (view v) → length faults ≡ 0 → IsShaped v
shaped_by v faults all order range shallow empty =
    let none = no_fault_from_empty (view v) faults all empty in
    let sound = report_sound (view v) none order in
    record { faultless = none; shallow = shallow; is_tree = sound.tree (has_numbers v); whole = sound.whole; fits = sound.fits range }
