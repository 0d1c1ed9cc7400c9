-- What stands under a name in objects that say the same, and members that say the same only where they are equal.
use Rattle.erd_normal.proofs.Common.{◌≡◌, ℕ, List, Some, None, Option, nat_cmp, Ordering, Equal, sym, refl, ap, ◌∙◌, subst, slice_cmp, match_ordering, Data}
use Rattle.erd_normal.proofs.Common.{object, Members, member, get_member, get_member-before, text_from_equal, AreMembers, scope_inside, want_of_name, Scope}
use Rattle.erd_normal.proofs.Common.{Want, Sides, an_object, no_member, in_both, left_only, right_only, MayBeAbsent, Same, SameMembers, true, false, codes}
use Rattle.erd_normal.proofs.Common.{option_and_then, bytes_eq, as_str, class_in_role, Class, class, Role, role, kind, class_of_object, scope_of_object}
use Rattle.erd_normal.proofs.Common.{member_want, scope, Carried, ClassText, Member, Object, is_id_text, is_envelope, an_empty_array, of_the_envelope}
use Rattle.erd_normal.proofs.Common.{an_unused_id, an_id, option_map_or, true≢false, Less, Greater, nat_list_cmp_total, ordering_reverse, no_members, text_cmp}
use Rattle.erd_normal.proofs.Common.{get_member-first, IsBeforeFirst, Bool, not, ap₂, not-true, array, Items, item, MemberKind, want_of_kind, entry_want}
use Rattle.erd_normal.proofs.Common.{is_table_set, Reference, class_role, is_array_kind, a_list, a_set, no_entry, one_entry, SameEntries, false_from_ne_true}
use Rattle.erd_normal.proofs.Common.{is_envelope_name}
use Rattle.erd_normal.proofs.inside.Walks.{closed_names, is_apart_role, is_closed}

-- ---- what stands under a name in objects that say the same: in both, or it may be absent; and members from what stands under
-- names

-- what stands under a name among members is the first value, or what stands under it among the others
pub get_one : (Q : Option Data → Type 0) (n k : List ℕ) (d : Data) (ms : Members) → (n ≡ k → Q (Some d)) → Q (get_member n ms)
    → Q (get_member n (member k d ms))
get_one Q n k d ms first later = at (slice_cmp nat_cmp n k) refl
  where
    at : (o : Ordering) → slice_cmp nat_cmp n k ≡ o → Q (match_ordering o (get_member n ms) (Some d) (get_member n ms))
    at Equal is = first (text_from_equal n k is)
    at o is = later

-- the same of two lists of members
pub get_both : (Q : Option Data → Option Data → Type 0) (n k : List ℕ) (d e : Data) (ms ns : Members) → (n ≡ k → Q (Some d) (Some e))
    → Q (get_member n ms) (get_member n ns) → Q (get_member n (member k d ms)) (get_member n (member k e ns))
get_both Q n k d e ms ns first later = at (slice_cmp nat_cmp n k) refl
  where
    at : (o : Ordering) → slice_cmp nat_cmp n k ≡ o
        → Q (match_ordering o (get_member n ms) (Some d) (get_member n ms)) (match_ordering o (get_member n ns) (Some e) (get_member n ns))
    at Equal is = first (text_from_equal n k is)
    at o is = later

-- what stands there may be absent, if anything does
pub record MayLack (t : Data) (s : Scope) (n : List ℕ) (o : Option Data) : Type 0 where
  pub each : (d : Data) → o ≡ Some d → MayBeAbsent t s n d

pub lacks_none : (t : Data) (s : Scope) (n : List ℕ) → MayLack t s n None
lacks_none t s n = record { each = λ d e. cc }

pub lacks_one : (t : Data) (s : Scope) (n : List ℕ) (d : Data) → MayBeAbsent t s n d → MayLack t s n (Some d)
lacks_one t s n d h = record { each = λ e is. let same : d ≡ e = cc in subst (MayBeAbsent t s n) same h }

-- values that say the same, or what may be absent on either side
pub data Aligned (m : Sides) (s : Scope) (n : List ℕ) : Option Data → Option Data → Type 0 where
  both_there : {d e : Data} → Same m (want_of_name s n) d e → Aligned m s n (Some d) (Some e)
  not_both : {o p : Option Data} → MayLack m.left s n o → MayLack m.right s n p → Aligned m s n o p

module _ (m : Sides) where
  right_lacks : (s : Scope) (n : List ℕ) (o p : Option Data) → Aligned m s n o p → o ≡ None → MayLack m.right s n p
  right_lacks s n (Some d) (Some e) (both_there h) is = cc
  right_lacks s n o p (not_both h k) is = k

  left_lacks : (s : Scope) (n : List ℕ) (o p : Option Data) → Aligned m s n o p → p ≡ None → MayLack m.left s n o
  left_lacks s n (Some d) (Some e) (both_there h) is = cc
  left_lacks s n o p (not_both h k) is = h

  pub lookups : {s : Scope} {ms ns : Members} (n : List ℕ) → SameMembers m s ms ns → AreMembers ms → AreMembers ns
      → Aligned m s n (get_member n ms) (get_member n ns)
  lookups {s} n no_member left right = not_both (lacks_none m.left s n) (lacks_none m.right s n)
  lookups n (in_both {s = s} {k = k} {d = d} {e = e} {ms = ms} {ns = ns} h rest) left right =
      get_both (Aligned m s n) n k d e ms ns (λ named. both_there (subst (λ x. Same m (want_of_name s x) d e) (sym named) h)) (lookups n rest left.2 right.2)
  lookups n (left_only {s = s} {k = k} {d = d} {ms = ms} {ns = ns} h rest) left right =
      let later = lookups n rest left.2 right in
      get_one (λ o. Aligned m s n o (get_member n ns)) n k d ms
      (λ named. not_both (lacks_one m.left s n d (subst (λ x. MayBeAbsent m.left s x d) (sym named) h))
      (right_lacks s n (get_member n ms) (get_member n ns) later (ap (λ x. get_member x ms) named ∙ get_member-before k ms left.2 left.0))) later
  lookups n (right_only {s = s} {k = k} {e = e} {ms = ms} {ns = ns} h rest) left right =
      let later = lookups n rest left right.2 in
      get_one (λ o. Aligned m s n (get_member n ms) o) n k e ns
      (λ named. not_both (left_lacks s n (get_member n ms) (get_member n ns) later (ap (λ x. get_member x ns) named ∙ get_member-before k ns right.2 right.0))
      (lacks_one m.right s n e (subst (λ x. MayBeAbsent m.right s x e) (sym named) h))) later

  -- what says the same as an object is one
  pub record SameObject (w : Want) (ms : Members) (e : Data) : Type 0 where
    pub members : Members
    pub is_object : e ≡ object members
    pub same : SameMembers m (scope_inside w (object ms)) ms members

  pub of_object : (w : Want) (ms : Members) (e : Data) → Same m (Some w) (object ms) e → SameObject w ms e
  of_object w ms e (an_object {ns = ns} h) = record { members = ns; is_object = refl; same = h }

-- ---- `@type` is never left out, so objects that say the same have the same class

asks_class : (s : Scope) (w : Want) → want_of_name s (codes "@type") ≡ Some w → ((r : Role) → ClassText r ≡ w → ⊥) → (Carried ≡ w → ⊥) → ⊥
asks_class scope.Nothing w e h k = cc
asks_class (scope.Members r c) w e h k = let g : ClassText r ≡ w = cc in absurd (h r g)
asks_class scope.Carried w e h k = let g : Carried ≡ w = cc in absurd (k g)

no_envelope_type : (s : Scope) → is_envelope s (codes "@type") ≡ true → ⊥
no_envelope_type (scope.Members r (Some class.ElectionReport)) e = cc
no_envelope_type s e = cc

pub type_stays : (t : Data) (s : Scope) (d : Data) → MayBeAbsent t s (codes "@type") d → ⊥
type_stays t s d (an_empty_array k required asks is empty) = asks_class s (Member k required) asks (λ r e. cc) (λ e. cc)
type_stays t s d (of_the_envelope h) = no_envelope_type s h
type_stays t s d (an_unused_id id required asks is unused) = asks_class s (Member kind.Identity required) asks (λ r e. cc) (λ e. cc)

type_plain : (s : Scope) → option_map_or is_id_text (want_of_name s (codes "@type")) false ≡ false
type_plain scope.Nothing = refl
type_plain s = refl

-- ---- texts

pub text_same : (m : Sides) {o : Option Want} {d e : Data} → Same m o d e → option_map_or is_id_text o false ≡ false → as_str d ≡ as_str e
text_same m (an_id is h) plain = absurd (true≢false (sym is ∙ plain))
text_same m h plain = refl

-- ---- classes

module _ (m : Sides) where
  -- a text under `@type`, when it is found among members
  abbrev type_text : Members → Option (List ℕ)
  type_text ms = option_and_then as_str (get_member (codes "@type") ms)

  pub type_same : {s : Scope} {ms ns : Members} → SameMembers m s ms ns → type_text ms ≡ type_text ns
  type_same no_member = refl
  type_same (in_both {s = s} {k = k} {d = d} {e = e} {ms = ms} {ns = ns} h rest) =
      get_both (λ o p. option_and_then as_str o ≡ option_and_then as_str p) (codes "@type") k d e ms ns
      (λ named. text_same m h (ap (λ n. option_map_or is_id_text (want_of_name s n) false) (sym named) ∙ type_plain s)) (type_same rest)
  type_same (left_only {s = s} {k = k} {d = d} {ms = ms} {ns = ns} h rest) =
      get_one (λ o. option_and_then as_str o ≡ type_text ns) (codes "@type") k d ms
      (λ named. absurd (type_stays m.left s d (subst (λ x. MayBeAbsent m.left s x d) (sym named) h))) (type_same rest)
  type_same (right_only {s = s} {k = k} {e = e} {ms = ms} {ns = ns} h rest) =
      get_one (λ o. type_text ms ≡ option_and_then as_str o) (codes "@type") k e ns
      (λ named. absurd (type_stays m.right s e (subst (λ x. MayBeAbsent m.right s x e) (sym named) h))) (type_same rest)

  pub class_same : {s : Scope} (r : Role) (ms ns : Members) → SameMembers m s ms ns → class_of_object r (object ms) ≡ class_of_object r (object ns)
  class_same r ms ns h = ap (option_and_then (class_in_role r)) (type_same h)

  -- the same is asked of the members of objects that say the same
  pub scope_same : {s : Scope} (w : Want) (ms ns : Members) → SameMembers m s ms ns → scope_of_object w (object ms) ≡ scope_of_object w (object ns)
  scope_same (Object r) ms ns h = ap (scope.Members r) (class_same r ms ns h)
  scope_same (Member kind.Label required) ms ns h = ap (scope.Members role.Label) (class_same role.Label ms ns h)
  scope_same Carried ms ns h = refl
  scope_same w ms ns h = refl

-- what is asked of a name in an object of a known class
pub asked_of_name : (r : Role) (c : Class) (name : List ℕ) → bytes_eq name (codes "@type") ≡ false → want_of_name (scope.Members r (Some c)) name
    ≡ Some (member_want c name)
asked_of_name r c name other = rw other refl

-- ---- from names to members: where what stands under each name is aligned, the members say the same

module _ (m : Sides) (s : Scope) where
  abbrev pub AllAligned : Members → Members → Type 0
  AllAligned ms ns = (n : List ℕ) → Aligned m s n (get_member n ms) (get_member n ns)

  nothing : (n : List ℕ) (o p : Option Data) → o ≡ None → p ≡ None → Aligned m s n o p
  nothing n o p e f =
      subst (λ x. Aligned m s n x p) (sym e) (subst (Aligned m s n None) (sym f) (not_both (lacks_none m.left s n) (lacks_none m.right s n)))

  -- the rest of the left members, of the right ones, and of both
  left_rest_at : (n : List ℕ) (d : Data) (o p : Option Data) (c : Ordering) → Aligned m s n (match_ordering c o (Some d) o) p
      → (c ≡ Equal → Aligned m s n o p) → Aligned m s n o p
  left_rest_at n d o p Equal h equal = equal refl
  left_rest_at n d o p e h equal = h

  right_rest_at : (n : List ℕ) (e : Data) (o p : Option Data) (c : Ordering) → Aligned m s n o (match_ordering c p (Some e) p)
      → (c ≡ Equal → Aligned m s n o p) → Aligned m s n o p
  right_rest_at n e o p Equal h equal = equal refl
  right_rest_at n e o p d h equal = h

  both_rest_at : (n : List ℕ) (d e : Data) (o p : Option Data) (c : Ordering) → Aligned m s n (match_ordering c o (Some d) o) (match_ordering c p (Some e) p)
      → (c ≡ Equal → Aligned m s n o p) → Aligned m s n o p
  both_rest_at n d e o p Equal h equal = equal refl
  both_rest_at n d e o p k h equal = h

  gone : (n k : List ℕ) (ms : Members) → AreMembers ms → IsBeforeFirst k ms → slice_cmp nat_cmp n k ≡ Equal → get_member n ms ≡ None
  gone n k ms tree before is = ap (λ x. get_member x ms) (text_from_equal n k is) ∙ get_member-before k ms tree before

  left_rest : (k : List ℕ) (d : Data) (ms ns : Members) → AreMembers (member k d ms) → get_member k ns ≡ None → AllAligned (member k d ms) ns → AllAligned ms ns
  left_rest k d ms ns tree none h n =
      left_rest_at n d (get_member n ms) (get_member n ns) (slice_cmp nat_cmp n k) (h n)
      (λ is. nothing n (get_member n ms) (get_member n ns) (gone n k ms tree.2 tree.0 is) (ap (λ x. get_member x ns) (text_from_equal n k is) ∙ none))

  right_rest : (k : List ℕ) (e : Data) (ms ns : Members) → AreMembers (member k e ns) → get_member k ms ≡ None
      → AllAligned ms (member k e ns) → AllAligned ms ns
  right_rest k e ms ns tree none h n =
      right_rest_at n e (get_member n ms) (get_member n ns) (slice_cmp nat_cmp n k) (h n)
      (λ is. nothing n (get_member n ms) (get_member n ns) (ap (λ x. get_member x ms) (text_from_equal n k is) ∙ none) (gone n k ns tree.2 tree.0 is))

  both_rest : (k : List ℕ) (d e : Data) (ms ns : Members) → AreMembers (member k d ms) → AreMembers (member k e ns)
      → AllAligned (member k d ms) (member k e ns) → AllAligned ms ns
  both_rest k d e ms ns left right h n =
      both_rest_at n d e (get_member n ms) (get_member n ns) (slice_cmp nat_cmp n k) (h n)
      (λ is. nothing n (get_member n ms) (get_member n ns) (gone n k ms left.2 left.0 is) (gone n k ns right.2 right.0 is))

  -- one member, by what is aligned under its name
  first_both : (k : List ℕ) (d e : Data) (ms ns : Members) (o p : Option Data) → Some d ≡ o → Some e ≡ p → Aligned m s k o p → SameMembers m s ms ns
      → SameMembers m s (member k d ms) (member k e ns)
  first_both k d e ms ns (Some d') (Some e') is its (both_there h) rest =
      let left : d' ≡ d = cc in let right : e' ≡ e = cc in
      in_both (subst (λ x. Same m (want_of_name s k) x e) left (subst (Same m (want_of_name s k) d') right h)) rest
  first_both k d e ms ns o p is its (not_both h g) rest = left_only (h.each d (sym is)) (right_only (g.each e (sym its)) rest)

  first_left : (k : List ℕ) (d : Data) (ms ns : Members) (o p : Option Data) → Some d ≡ o → p ≡ None → Aligned m s k o p → SameMembers m s ms ns
      → SameMembers m s (member k d ms) ns
  first_left k d ms ns (Some d') (Some e') is its (both_there h) rest = cc
  first_left k d ms ns o p is its (not_both h g) rest = left_only (h.each d (sym is)) rest

  first_right : (k : List ℕ) (e : Data) (ms ns : Members) (o p : Option Data) → o ≡ None → Some e ≡ p → Aligned m s k o p → SameMembers m s ms ns
      → SameMembers m s ms (member k e ns)
  first_right k e ms ns (Some d') (Some e') is its (both_there h) rest = cc
  first_right k e ms ns o p is its (not_both h g) rest = right_only (g.each e (sym its)) rest

  -- a name below the first stands at none
  below_first : (k l : List ℕ) (d : Data) (ms : Members) → AreMembers (member l d ms) → text_cmp k l ≡ Less → get_member k (member l d ms) ≡ None
  below_first k l d ms tree less = get_member-before k (member l d ms) tree less

  right_alone : (ns : Members) → AreMembers ns → AllAligned no_members ns → SameMembers m s no_members ns
  right_alone no_members tree h = no_member
  right_alone (member l e ns) tree h =
      first_right l e no_members ns None (get_member l (member l e ns)) refl (sym (get_member-first l e ns)) (h l)
      (right_alone ns tree.2 (right_rest l e no_members ns tree refl h))

  with_first : (k : List ℕ) (d : Data) (ms ns : Members) → AreMembers (member k d ms) → AreMembers ns
      → ((ps : Members) → AreMembers ps → AllAligned ms ps → SameMembers m s ms ps) → AllAligned (member k d ms) ns → SameMembers m s (member k d ms) ns
  with_first k d ms no_members left right rest h =
      first_left k d ms no_members (get_member k (member k d ms)) None (sym (get_member-first k d ms)) refl (h k)
      (rest no_members right (left_rest k d ms no_members left refl h))
  with_first k d ms (member l e ns) left right rest h = at (text_cmp k l) refl (λ g. with_first k d ms ns left right.2 rest g)
    where
      at : (o : Ordering) → text_cmp k l ≡ o → (AllAligned (member k d ms) ns → SameMembers m s (member k d ms) ns)
          → SameMembers m s (member k d ms) (member l e ns)
      at Less is more_of =
          let none = below_first k l e ns right is in
          first_left k d ms (member l e ns) (get_member k (member k d ms)) (get_member k (member l e ns)) (sym (get_member-first k d ms)) none (h k)
          (rest (member l e ns) right (left_rest k d ms (member l e ns) left none h))
      at Equal is more_of =
          let same : l ≡ k = sym (text_from_equal k l is) in
          let right' : AreMembers (member k e ns) = subst (λ x. AreMembers (member x e ns)) same right in
          let h' : AllAligned (member k d ms) (member k e ns) = subst (λ x. AllAligned (member k d ms) (member x e ns)) same h in
          subst (λ x. SameMembers m s (member k d ms) (member x e ns)) (sym same)
          (first_both k d e ms ns (get_member k (member k d ms)) (get_member k (member k e ns)) (sym (get_member-first k d ms))
          (sym (get_member-first k e ns)) (h' k)
          (rest ns right'.2 (both_rest k d e ms ns left right' h')))
      at Greater is more_of =
          let less : text_cmp l k ≡ Less = nat_list_cmp_total.antisymm l k ∙ ap ordering_reverse is in
          let none = below_first l k d ms left less in
          first_right l e (member k d ms) ns (get_member l (member k d ms)) (get_member l (member l e ns)) none (sym (get_member-first l e ns)) (h l)
          (more_of (right_rest l e (member k d ms) ns right none h))

  pub merged : (ms ns : Members) → AreMembers ms → AreMembers ns → AllAligned ms ns → SameMembers m s ms ns
  merged no_members ns left right h = right_alone ns right h
  merged (member k d ms) ns left right h = with_first k d ms ns left right (λ ps tree g. merged ms ps left.2 tree g) h

-- ---- what is plain

-- a kind of member with no identity, reference or set in it
abbrev pub is_plain_kind : MemberKind → Bool
is_plain_kind kind.Identity = false
is_plain_kind kind.Label = false
is_plain_kind (kind.One f) = false
is_plain_kind (kind.Many f) = false
is_plain_kind kind.Identifiers = false
is_plain_kind kind.Languages = false
is_plain_kind (kind.Keyed f) = false
is_plain_kind kind.Elections = false
is_plain_kind kind.Content = false
is_plain_kind kind.Ordered = false
is_plain_kind k = true

abbrev pub is_plain : Want → Bool
is_plain (Object r) = is_apart_role r
is_plain (Reference f) = false
is_plain (Member k required) = is_plain_kind k
is_plain w = true

pub plain_of_kind : (k : MemberKind) (required : Bool) → is_plain_kind k ≡ true → is_plain (want_of_kind k required) ≡ true
plain_of_kind kind.Carried required e = e
plain_of_kind k required e = e

-- what is asked here, if anything is, is plain
abbrev pub AllPlain : Option Want → Type 0
AllPlain o = option_map_or is_plain o true ≡ true

plain_closed : (w : Want) → is_plain w ≡ true → is_closed w ≡ true
plain_closed (Object r) p = p
plain_closed (Member kind.Label required) p = p
plain_closed w p = refl

pub plain_scope : (w : Want) (ms : Members) → is_plain w ≡ true → (name : List ℕ) → AllPlain (want_of_name (scope_inside w (object ms)) name)
plain_scope w ms p = closed_names is_plain is_plain_kind plain_of_kind (λ r. refl) refl refl refl refl refl w ms (plain_closed w p)

pub plain_no_id : (w : Want) → is_plain w ≡ true → is_id_text w ≡ false
plain_no_id (Member kind.Identity required) p = cc
plain_no_id w p = cc

pub plain_list : (w : Want) → is_plain w ≡ true → is_table_set w ≡ false
plain_list (Member kind.Elections required) p = cc
plain_list w p = cc

pub plain_entry : (w : Want) → is_plain w ≡ true → AllPlain (entry_want w)
plain_entry (Member kind.Content required) p = cc
plain_entry w p = cc

-- ---- the report itself is asked for at the root alone, so a member of the envelope stands under the root

pub record OfReport (w : Want) (n : List ℕ) : Type 0 where
  pub report : w ≡ Object role.Report
  pub name : is_envelope_name n ≡ true

of_class : (r : Role) (ns : Members) (n : List ℕ) (o : Option Class) → class_of_object r (object ns) ≡ o → is_envelope (scope.Members r o) n ≡ true
    → (role.Report ≡ r) × (is_envelope_name n ≡ true)
of_class r ns n (Some class.ElectionReport) among h = (class_role r (object ns) class.ElectionReport among, h)
of_class r ns n o among h = cc

pub of_report : (w : Want) (ns : Members) (n : List ℕ) → is_envelope (scope_inside w (object ns)) n ≡ true → OfReport w n
of_report (Object r) ns n h = let x = of_class r ns n (class_of_object r (object ns)) refl h in record { report = ap Object (sym x.0); name = x.1 }
of_report (Member kind.Label required) ns n h = let e : role.Report ≡ role.Label =
    (of_class role.Label ns n (class_of_object role.Label (object ns)) refl h).0 in cc
of_report w ns n h = cc

-- ---- what is steady

-- nothing in this scope may be absent
abbrev Stays : Scope → Type 0
Stays s = (t : Data) (name : List ℕ) (d : Data) → MayBeAbsent t s name d → ⊥

-- a kind that never may be absent
abbrev pub is_steady_kind : MemberKind → Bool
is_steady_kind kind.Identity = false
is_steady_kind k = not (is_array_kind k)

abbrev pub is_steady : Want → Bool
is_steady (Member k required) = is_steady_kind k
is_steady w = true

pub steady_of_kind : (k : MemberKind) (required : Bool) → is_steady_kind k ≡ true → is_steady (want_of_kind k required) ≡ true
steady_of_kind kind.Carried required e = e
steady_of_kind k required e = e

pub steady_no_array : (k : MemberKind) → is_steady_kind k ≡ true → is_array_kind k ≡ true → ⊥
steady_no_array kind.Identity h is = cc
steady_no_array k h is = absurd (true≢false (sym is ∙ not-true (is_array_kind k) h))

-- a member of which something steady is asked, and which is not in the envelope
pub stays_one : (t : Data) (s : Scope) (name : List ℕ) (d : Data) → option_map_or is_steady (want_of_name s name) true ≡ true → is_envelope s name ≡ false
    → MayBeAbsent t s name d → ⊥
stays_one t s name d steady apart (an_empty_array k required asks is empty) =
    steady_no_array k (subst (λ o. option_map_or is_steady o true ≡ true) asks steady) is
stays_one t s name d steady apart (of_the_envelope h) = true≢false (sym h ∙ apart)
stays_one t s name d steady apart (an_unused_id id required asks is unused) = true≢false (sym (subst (λ o. option_map_or is_steady o true ≡ true) asks steady))

plain_stays : (w : Want) (ms : Members) → is_plain w ≡ true → Stays (scope_inside w (object ms))
plain_stays w ms p t name d =
    stays_one t (scope_inside w (object ms)) name d (closed_names is_steady is_steady_kind steady_of_kind (λ r. refl) refl refl refl refl refl w ms
    (plain_closed w p) name)
    (false_from_ne_true (is_envelope (scope_inside w (object ms)) name) (λ e. true≢false (sym p ∙ ap is_plain (of_report w ms name e).report)))

mutual
  pub steady_same : (m : Sides) {o : Option Want} {d e : Data} → Same m o d e → AllPlain o → d ≡ e
  steady_same m (an_id {w = w} is h) plain = absurd (true≢false (sym is ∙ plain_no_id w plain))
  steady_same m (a_list {w = w} is h) plain = ap array (steady_entries m h (plain_entry w plain))
  steady_same m (a_set {w = w} fs is p h) plain = absurd (true≢false (sym is ∙ plain_list w plain))
  steady_same m (an_object {w = w} {ms = ms} h) plain = ap object (steady_names m (plain_scope w ms plain) (plain_stays w ms plain) h)
  steady_same m h plain = refl

  steady_entries : (m : Sides) {o : Option Want} {ds es : Items} → SameEntries m o ds es → AllPlain o → ds ≡ es
  steady_entries m no_entry plain = refl
  steady_entries m (one_entry h rest) plain = ap₂ item (steady_same m h plain) (steady_entries m rest plain)

  steady_names : (m : Sides) {s : Scope} {ms ns : Members} → ((name : List ℕ) → AllPlain (want_of_name s name)) → Stays s → SameMembers m s ms ns → ms ≡ ns
  steady_names m plain stays no_member = refl
  steady_names m plain stays (in_both {k = k} h rest) = ap₂ (member k) (steady_same m h (plain k)) (steady_names m plain stays rest)
  steady_names m plain stays (left_only {k = k} {d = d} h rest) = absurd (stays m.left k d h)
  steady_names m plain stays (right_only {k = k} {e = e} h rest) = absurd (stays m.right k e h)
