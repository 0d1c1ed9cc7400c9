-- What stands under a name in two related objects: values that are related, or nothing that means anything.
use Rattle.erd_normal.proofs.Common.{◌≡◌, ℕ, true, false, List, [], length, Some, None, codes, Option, bytes_eq, sym, refl, ap, ◌∙◌, subst, arith}
use Rattle.erd_normal.proofs.Common.{option_map_or, Data, array, object, Items, no_items, item, Members, get_member, get, role_of_class, kind_of_member, Class}
use Rattle.erd_normal.proofs.Common.{class, Role, role, kind, Name, object_in, ObjectIn, Within-step, AsksObject, of_role, of_label, asked_inside_object}
use Rattle.erd_normal.proofs.Common.{unrepeated, ShapeFault, NoneOf, IsTree, list_of_items, entries_of, class_of_object, scope_inside, member_want, entry_want}
use Rattle.erd_normal.proofs.Common.{asked, scope, Want, Object, IsAccepted, Preference, unless_empty, is_in_envelope, Sides, is_array_kind, is_envelope}
use Rattle.erd_normal.proofs.Common.{an_empty_array, of_the_envelope, an_unused_id, a_list, a_set, MayBeAbsent, Same, SameMembers, true≢false}
use Rattle.erd_normal.proofs.lists.Matched.{Matched, matched_length, matched_none}
use Rattle.erd_normal.proofs.same.Lookups.{Aligned, both_there, not_both, MayLack, lookups, of_object, class_same, asked_of_name, is_steady_kind, steady_same}
use Rattle.erd_normal.proofs.same.Lookups.{is_plain, steady_no_array}
use Rattle.erd_normal.proofs.same.Related.{Stands, entry_stands, stands_tree, Related, entries_matched, matched_within_both}
use Rattle.erd_normal.proofs.same.accepted.RequiredMembers.{member_of}

-- two trees that say the same, the left one an accepted report
pub record TwoReports (m : Sides) (π : Preference) : Type 0 where
  pub left_tree : IsTree m.left
  pub right_tree : IsTree m.right
  pub accepted : IsAccepted π m.left
  pub root : Related m (Object role.Report) m.left m.right

-- ---- what may be absent

-- nothing stands there, or what has no meaning
pub data MeansNothing (c : Class) (name : List ℕ) (o : Option Data) : Type 0 where
  is_absent : o ≡ None → MeansNothing c name o
  is_empty : is_array_kind (kind_of_member c name) ≡ true → o ≡ Some (array no_items) → MeansNothing c name o
  is_identity : kind_of_member c name ≡ kind.Identity → MeansNothing c name o
  is_outside : is_in_envelope c name ≡ true → MeansNothing c name o

pub envelope_is : (r : Role) (c : Class) (name : List ℕ) → is_envelope (scope.Members r (Some c)) name ≡ is_in_envelope c name
envelope_is r class.ElectionReport name = refl
envelope_is r c name = refl

-- what may be absent means nothing
pub absent_nothing : (t : Data) (r : Role) (c : Class) (name : List ℕ) (d : Data) → bytes_eq name (codes "@type") ≡ false
    → MayBeAbsent t (scope.Members r (Some c)) name d → MeansNothing c name (Some d)
absent_nothing t r c name d other (an_empty_array k required asks is empty) =
    is_empty (ap is_array_kind (member_of r c name k required asks).kind_is ∙ is) (ap Some empty)
absent_nothing t r c name d other (of_the_envelope h) = is_outside (sym (envelope_is r c name) ∙ h)
absent_nothing t r c name d other (an_unused_id id required asks is unused) = is_identity (member_of r c name kind.Identity required asks).kind_is

lacking_nothing : (t : Data) (r : Role) (c : Class) (name : List ℕ) (o : Option Data) → bytes_eq name (codes "@type") ≡ false
    → MayLack t (scope.Members r (Some c)) name o → MeansNothing c name o
lacking_nothing t r c name None other h = is_absent refl
lacking_nothing t r c name (Some d) other h = absent_nothing t r c name d other (h.each d refl)

-- outside the envelope, and where it is no `@id`, it is absent or an empty array
pub nothing_cases : (Q : Option Data → Type 0) (c : Class) (name : List ℕ) (o : Option Data) → is_in_envelope c name ≡ false → MeansNothing c name o
    → (kind_of_member c name ≡ kind.Identity → Q o) → Q None → (is_array_kind (kind_of_member c name) ≡ true → Q (Some (array no_items))) → Q o
nothing_cases Q c name o inside (is_absent e) identity absent empty = subst Q (sym e) absent
nothing_cases Q c name o inside (is_empty k e) identity absent empty = subst Q (sym e) (empty k)
nothing_cases Q c name o inside (is_identity e) identity absent empty = identity e
nothing_cases Q c name o inside (is_outside e) identity absent empty = absurd (true≢false (sym e ∙ inside))

-- a steady member means something, if it stands there
pub steady_nothing : (c : Class) (name : List ℕ) (o : Option Data) → is_steady_kind (kind_of_member c name) ≡ true → is_in_envelope c name ≡ false
    → MeansNothing c name o → o ≡ None
steady_nothing c name o steady inside h =
    nothing_cases (λ x. x ≡ None) c name o inside h (λ e. absurd (true≢false (sym steady ∙ ap is_steady_kind e))) refl
    (λ k. absurd (steady_no_array (kind_of_member c name) steady k))

-- what means nothing has no entries
pub nothing_empty : (c : Class) (name : List ℕ) (o : Option Data) → is_array_kind (kind_of_member c name) ≡ true → is_in_envelope c name ≡ false
    → MeansNothing c name o → option_map_or entries_of o [] ≡ []
nothing_empty c name o listed inside h = nothing_cases (λ x. option_map_or entries_of x [] ≡ []) c name o inside h
    (λ e. absurd (true≢false (sym listed ∙ ap is_array_kind e))) refl (λ k. refl)

-- ---- entries of values

empty_by_length : {V : Type 0} (v : V) (ds es : Items) → length (list_of_items ds) ≡ length (list_of_items es) → unless_empty v (array ds)
    ≡ unless_empty v (array es)
empty_by_length v no_items no_items e = refl
empty_by_length v (item d ds) (item f es) e = refl
empty_by_length v ds es e = absurd (omega arith)

module _ (m : Sides) where
  -- the entries of related values are related
  pub related_entries_of : (w u : Want) (d e : Data) → entry_want w ≡ Some u → Related m w d e → Matched (Related m u) (entries_of d) (entries_of e)
  related_entries_of w u d e asks r =
      matched_within_both (Related m u)
      (λ x y i j h. record {
        left = entry_stands m.left w u d asks r.left x i;
        right = entry_stands m.right w u e asks r.right y j;
        same = subst (λ o. Same m o x y) asks h;
      })
      (entries_matched m w r.same)

  empty_alike : {V : Type 0} (v : V) (w : Want) {d e : Data} → Same m (Some w) d e → unless_empty v d ≡ unless_empty v e
  empty_alike v w (a_list {ds = ds} {es = es} is h) = empty_by_length v ds es (matched_length (entries_matched m w (a_list is h)))
  empty_alike v w (a_set {ds = ds} {es = es} fs is p h) = empty_by_length v ds es (matched_length (entries_matched m w (a_set fs is p h)))
  empty_alike v w h = refl

  -- a meaning that both have, or neither
  pub unless_empty_same : {V : Type 0} (w : Want) (v x : V) (d e : Data) → Same m (Some w) d e → v ≡ x → unless_empty v d ≡ unless_empty x e
  unless_empty_same w v x d e h same = ap (λ z. unless_empty z d) same ∙ empty_alike x w h

  -- ---- members

  -- related values, or nothing that means anything on either side
  pub data Told (c : Class) (name : List ℕ) : Option Data → Option Data → Type 0 where
    both_told : {d e : Data} → Related m (member_want c name) d e → Told c name (Some d) (Some e)
    none_told : {o p : Option Data} → MeansNothing c name o → MeansNothing c name p → Told c name o p

  abbrev pub HaveMembers : Class → Data → Data → Type 0
  HaveMembers c d e = (name : List ℕ) → bytes_eq name (codes "@type") ≡ false → Told c name (get name d) (get name e)

  pub member_there : (t : Data) (w : Want) (r : Role) (c : Class) (ms : Members) (name : List ℕ) (d : Data) → AsksObject w r → class_of_object r (object ms)
      ≡ Some c → bytes_eq name (codes "@type") ≡ false → Stands t w (object ms) → get_member name ms ≡ Some d → Stands t (member_want c name) d
  member_there t w r c ms name d h among other st found =
      record {
        repeated = false;
        inside = Within-step t (record { want = w; value = object ms; repeated = st.repeated }) (asked (member_want c name) d) (Name name) st.inside
            (asked_inside_object w r ms c name d h among other found);
      }

  -- two objects of one class
  module _ (w : Want) (r : Role) (c : Class) (ms ns : Members) (h : AsksObject w r) (left_class : class_of_object r (object ms) ≡ Some c)
      (right_class : class_of_object r (object ns) ≡ Some c)
      (left : Stands m.left w (object ms)) (right : Stands m.right w (object ns)) where
    told_at : (name : List ℕ) → bytes_eq name (codes "@type") ≡ false → (o p : Option Data) → get_member name ms ≡ o → get_member name ns ≡ p
        → Aligned m (scope.Members r (Some c)) name o p → Told c name o p
    told_at name other (Some x) (Some y) found there (both_there same) =
        both_told (record {
          left = member_there m.left w r c ms name x h left_class other left found;
          right = member_there m.right w r c ns name y h right_class other right there;
          same = subst (λ o. Same m o x y) (asked_of_name r c name other) same;
        })
    told_at name other o p found there (not_both k l) = none_told (lacking_nothing m.left r c name o other k) (lacking_nothing m.right r c name p other l)

  scope_known : (w : Want) (r : Role) (c : Class) (ms ns : Members) → AsksObject w r → class_of_object r (object ms) ≡ Some c
      → SameMembers m (scope_inside w (object ms)) ms ns → SameMembers m (scope.Members r (Some c)) ms ns
  scope_known w r c ms ns of_role among h = subst (λ o. SameMembers m (scope.Members r o) ms ns) among h
  scope_known w r c ms ns of_label among h = subst (λ o. SameMembers m (scope.Members r o) ms ns) among h

  -- the class of two objects, and their members
  pub record BothObjects (r : Role) (d e : Data) : Type 0 where
    pub class : Class
    pub role : role_of_class class ≡ r
    pub left : class_of_object r d ≡ Some class
    pub right : class_of_object r e ≡ Some class
    pub aligned : (name : List ℕ) → Aligned m (scope.Members r (Some class)) name (get name d) (get name e)
    pub members : HaveMembers class d e

  module _ (left_tree : IsTree m.left) (right_tree : IsTree m.right) where
    pub both_members : (w : Want) (r : Role) (c : Class) (ms ns : Members) → AsksObject w r → class_of_object r (object ms) ≡ Some c
        → SameMembers m (scope_inside w (object ms)) ms ns → Stands m.left w (object ms) → Stands m.right w (object ns) → HaveMembers c (object ms) (object ns)
    both_members w r c ms ns h among same left right name other =
        let k = scope_known w r c ms ns h among same in
        told_at w r c ms ns h among (sym (class_same m r ms ns k) ∙ among) left right name other (get_member name ms) (get_member name ns) refl refl
        (lookups m name k (stands_tree m.left w (object ms) left_tree left) (stands_tree m.right w (object ns) right_tree right))

    pub both_objects : NoneOf (ShapeFault m.left) → (r : Role) (d e : Data) → Related m (Object r) d e → BothObjects r d e
    both_objects clean r d e related =
        let o : ObjectIn m.left r d = object_in m.left clean r d (unrepeated m.left clean (Object r) d related.left.repeated refl related.left.inside) in
        let rel : Related m (Object r) (object o.ms) e = subst (λ x. Related m (Object r) x e) o.is_object related in
        let p = of_object m (Object r) o.ms e rel.same in
        let same : SameMembers m (scope.Members r (Some o.class)) o.ms p.members = scope_known (Object r) r o.class o.ms p.members of_role o.at.among p.same in
        record {
          class = o.class;
          role = o.role;
          left = ap (class_of_object r) o.is_object ∙ o.at.among;
          right = ap (class_of_object r) p.is_object ∙ sym (class_same m r o.ms p.members same) ∙ o.at.among;
          aligned = λ name. subst (λ x. Aligned m (scope.Members r (Some o.class)) name (get name x) (get name e)) (sym o.is_object)
              (subst (λ x. Aligned m (scope.Members r (Some o.class)) name (get_member name o.ms) (get name x)) (sym p.is_object)
              (lookups m name same (stands_tree m.left (Object r) (object o.ms) left_tree rel.left)
              (stands_tree m.right (Object r) (object p.members) right_tree (subst (Stands m.right (Object r)) p.is_object rel.right))));
          members = subst (λ x. HaveMembers o.class x e) (sym o.is_object)
              (subst (HaveMembers o.class (object o.ms)) (sym p.is_object)
              (both_members (Object r) r o.class o.ms p.members of_role o.at.among p.same rel.left (subst (Stands m.right (Object r)) p.is_object rel.right)));
        }

  -- ---- what is known of members by their kinds

  -- a plain member that never may be absent is the same
  pub told_plain : (c : Class) (name : List ℕ) (o p : Option Data) → is_plain (member_want c name) ≡ true → is_steady_kind (kind_of_member c name) ≡ true
      → is_in_envelope c name ≡ false → Told c name o p → o ≡ p
  told_plain c name (Some d) (Some e) plain steady inside (both_told r) =
      ap Some (steady_same m r.same plain)
  told_plain c name o p plain steady inside (none_told k l) = steady_nothing c name o steady inside k ∙ sym (steady_nothing c name p steady inside l)

  -- the entries of an array are related
  pub told_entries : (c : Class) (name : List ℕ) (w u : Want) (o p : Option Data) → member_want c name ≡ w → entry_want w ≡ Some u
      → is_array_kind (kind_of_member c name) ≡ true → is_in_envelope c name ≡ false
      → Told c name o p → Matched (Related m u) (option_map_or entries_of o []) (option_map_or entries_of p [])
  told_entries c name w u (Some d) (Some e) asks entries listed inside (both_told r) = related_entries_of w u d e entries (subst (λ x. Related m x d e) asks r)
  told_entries c name w u o p asks entries listed inside (none_told k l) =
      subst (λ x. Matched (Related m u) x (option_map_or entries_of p [])) (sym (nothing_empty c name o listed inside k))
      (subst (Matched (Related m u) []) (sym (nothing_empty c name p listed inside l)) (matched_none _))
