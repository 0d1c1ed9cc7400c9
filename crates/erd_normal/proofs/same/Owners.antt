-- The objects of two reports that say the same are matched, and so is what an `@id` names in both.
use Rattle.erd_normal.proofs.Common.{◌≡◌, ℕ, Bool, false, true, List, Some, codes, bytes_eq, sym, refl, ap, ◌∙◌, subst, Data, get, role_of_class, is_required}
use Rattle.erd_normal.proofs.Common.{Class, Family, family, Role, role, MemberKind, kind, is_word, report_class, election_class, want_by_kind, ShapeFault}
use Rattle.erd_normal.proofs.Common.{NoneOf, IsTree, entries_at, want_of_kind, entry_want, Want, Object, Preference, key_of, Sides, is_array_kind, None, Option}
use Rattle.erd_normal.proofs.Common.{find, option_and_then, false_from_ne_true, both_ways, option_map_or, as_str, text_exact, text_itself, Within-root}
use Rattle.erd_normal.proofs.Common.{want_of_name, Scope, scope, Member, no_shape_fault, has_id-Some, IsAccepted, id_of, has_id, owner, key_named}
use Rattle.erd_normal.proofs.Common.{ReferencesNameTheSame, IsUsed, NameOneThing, IsUnused, is_envelope, an_empty_array, of_the_envelope, an_unused_id, a_text}
use Rattle.erd_normal.proofs.Common.{an_id, MayBeAbsent, Same}
use Rattle.erd_normal.proofs.same.ReorderedKeys.{key_of_identifiers-reordered}
use Rattle.erd_normal.proofs.inside.Homes.{kind_of_identifiers, kind_of_family_id}
use Rattle.erd_normal.proofs.lists.Matched.{Matched, matched_equal, AtMostOne, Both, apart_distinct, matched_find, one_if_apart, said_same}
use Rattle.erd_normal.proofs.same.IdsOfObjects.{family_values, IsOfKind, outside, chosen_matched, families_matched, owner_found, by_one_id, have_one_id}
use Rattle.erd_normal.proofs.same.IdsOfObjects.{ids_distinct}
use Rattle.erd_normal.proofs.same.Related.{Related}
use Rattle.erd_normal.proofs.same.Lookups.{steady_same, Aligned, both_there, not_both, MayLack, asked_of_name}
use Rattle.erd_normal.proofs.same.means.Members.{BothObjects, both_objects, told_entries, envelope_is}

-- ---- the objects of two reports that say the same: those of each family are matched, and matched ones have one key

module _ (m : Sides) (left_tree : IsTree m.left) (right_tree : IsTree m.right) (clean : NoneOf (ShapeFault m.left)) where
  -- the entries of an array in two related objects
  entries_related : (r : Role) (d e : Data) → Related m (Object r) d e → (name : List ℕ) → bytes_eq name (codes "@type") ≡ false → (k : MemberKind) (u : Want)
      → is_array_kind k ≡ true → is_word k ≡ false
      → ((required : Bool) → entry_want (want_of_kind k required) ≡ Some u) → ((c : Class) → role_of_class c ≡ r → IsOfKind name k c)
      → Matched (Related m u) (entries_at name d) (entries_at name e)
  entries_related r d e related name other k u listed word entries known =
      let o : BothObjects m r d e = both_objects m left_tree right_tree clean r d e related in
      let i = known o.class o.role in
      told_entries m o.class name (want_of_kind k (is_required o.class name)) u (get name d) (get name e) (want_by_kind o.class name k i.0 word)
      (entries (is_required o.class name)) (ap is_array_kind i.0 ∙ listed) i.1
      (o.members name other)

  -- ---- keys

  one_key : (r : Role) (d e : Data) → Related m (Object r) d e → (π : Preference)
      → ((c : Class) → role_of_class c ≡ r → IsOfKind (codes "ExternalIdentifier") kind.Identifiers c) → key_of π d ≡ key_of π e
  one_key r d e related π known =
      key_of_identifiers-reordered π (entries_at (codes "ExternalIdentifier") d) (entries_at (codes "ExternalIdentifier") e)
      (matched_equal (λ x y h. steady_same m h.same refl)
      (entries_related r d e related (codes "ExternalIdentifier") refl kind.Identifiers (Object role.Identifier) refl refl (λ required. refl) known))

  -- related objects of a family have one key
  pub related_key : (π : Preference) (f : Family) (d e : Data) → Related m (Object (role.OfFamily f)) d e → key_of π d ≡ key_of π e
  related_key π f d e related =
      one_key (role.OfFamily f) d e related π (λ c is. (kind_of_identifiers c f is, outside (role.OfFamily f) c (codes "ExternalIdentifier") is (λ x. cc)))

  -- and so have related elections, if they have one
  pub related_election_key : (π : Preference) (d e : Data) → Related m (Object role.Election) d e → key_of π d ≡ key_of π e
  related_election_key π d e related =
      one_key role.Election d e related π (λ c is. subst (IsOfKind (codes "ExternalIdentifier") kind.Identifiers) (sym (election_class c is)) (refl, refl))

  -- ---- the objects of each family

  pub keyed_array : (r : Role) (d e : Data) → Related m (Object r) d e → (f : Family) (name : List ℕ) → bytes_eq name (codes "@type") ≡ false
      → ((c : Class) → role_of_class c ≡ r → IsOfKind name (kind.Keyed f) c) → Matched (Related m (Object (role.OfFamily f)))
      (entries_at name d) (entries_at name e)
  keyed_array r d e related f name other known = entries_related r d e related name other (kind.Keyed f) (Object (role.OfFamily f)) refl refl
      (λ required. refl) known

  pub selections_matched : (x y : Data) → Related m (Object (role.OfFamily family.Contest)) x y
      → Matched (Related m (Object (role.OfFamily family.Selection))) (entries_at (codes "ContestSelection") x) (entries_at (codes "ContestSelection") y)
  selections_matched = chosen_matched m.left m.right (λ r. Related m (Object r)) keyed_array

  pub elections_matched : Related m (Object role.Report) m.left m.right → Matched (Related m (Object role.Election)) (entries_at (codes "Election") m.left)
      (entries_at (codes "Election") m.right)
  elections_matched root =
      entries_related role.Report m.left m.right root (codes "Election") refl kind.Elections (Object role.Election) refl refl (λ required. refl)
      (λ c is. subst (IsOfKind (codes "Election") kind.Elections) (sym (report_class c is)) (refl, refl))

  pub family_matched : Related m (Object role.Report) m.left m.right → (f : Family) → Matched (Related m (Object (role.OfFamily f))) (family_values f m.left)
      (family_values f m.right)
  family_matched root = families_matched m.left m.right (λ r. Related m (Object r)) keyed_array root (elections_matched root)

-- ---- the `@id`s of related objects

-- both have one, or neither has one to which something refers
pub data IdsAlike (m : Sides) (d e : Data) : Type 0 where
  two_ids : (a b : List ℕ) → id_of d ≡ Some a → id_of e ≡ Some b → NameOneThing m a b → IdsAlike m d e
  no_ids : ((a : List ℕ) → id_of d ≡ Some a → IsUnused m.left a) → ((b : List ℕ) → id_of e ≡ Some b → IsUnused m.right b) → IdsAlike m d e

unused_of : (t : Data) (s : Scope) (required : Bool) (o : Option Data) → want_of_name s (codes "@id") ≡ Some (Member kind.Identity required)
    → is_envelope s (codes "@id") ≡ false
    → MayLack t s (codes "@id") o → (a : List ℕ) → option_and_then as_str o ≡ Some a → IsUnused t a
unused_of t s required None asks other h a is = cc
unused_of t s required (Some d) asks other h a is = at (h.each d refl)
  where
    at : MayBeAbsent t s (codes "@id") d → IsUnused t a
    at (an_empty_array k r asked_too array_kind empty) = let e : is_array_kind kind.Identity ≡ true =
        let same : Some (Member kind.Identity required) ≡ Some (Member k r) = sym asks ∙ asked_too in let one : kind.Identity ≡ k =
        cc in ap is_array_kind one ∙ array_kind in cc
    at (of_the_envelope e) = let x : true ≡ false = sym e ∙ other in cc
    at (an_unused_id id r asked_too text unused) = let one : id ≡ a = let x : Some id ≡ Some a = sym (ap as_str text) ∙ is in cc in
        subst (IsUnused t) one unused

-- texts of `@id`s that say the same
texts_same : (m : Sides) (required : Bool) {x y : Data} → Same m (Some (Member kind.Identity required)) x y → (d e : Data) → id_of d ≡ as_str x
    → id_of e ≡ as_str y → IdsAlike m d e
texts_same m required (a_text is) d e left right = cc
texts_same m required (an_id {s = a} {s' = b} is h) d e left right = two_ids a b left right h
texts_same m required h d e left right = no_ids (λ a is. let x : None ≡ Some a = sym left ∙ is in cc) (λ b is. let x : None ≡ Some b = sym right ∙ is in cc)

ids_found : (m : Sides) (s : Scope) (required : Bool) (o p : Option Data) → want_of_name s (codes "@id") ≡ Some (Member kind.Identity required)
    → is_envelope s (codes "@id") ≡ false
    → Aligned m s (codes "@id") o p → (d e : Data) → id_of d ≡ option_and_then as_str o → id_of e ≡ option_and_then as_str p → IdsAlike m d e
ids_found m s required (Some x) (Some y) asks other (both_there h) d e left right = texts_same m required (subst (λ w. Same m w x y) asks h) d e left right
ids_found m s required o p asks other (not_both h k) d e left right =
    no_ids (λ a is. unused_of m.left s required o asks other h a (sym left ∙ is)) (λ b is. unused_of m.right s required p asks other k b (sym right ∙ is))

-- texts that stand for one another pass alike, if both are used
pub has_same : (m : Sides) (s s' : List ℕ) (d e : Data) → NameOneThing m s s' → IsUsed m.left s → IsUsed m.right s' → IdsAlike m d e → has_id s d ≡ has_id s' e
has_same m s s' d e pair left right (two_ids a b is is' ab) =
    ap (λ o. option_map_or (bytes_eq s) o false) is ∙ both_ways (bytes_eq s a) (bytes_eq s' b)
    (λ h. let one : s' ≡ b = pair.0 ∙ ap m.there (text_exact s a h) ∙ sym ab.0 in subst (λ x. bytes_eq s' x ≡ true) one (text_itself s'))
    (λ h. let one : s ≡ a = pair.1 ∙ ap m.back (text_exact s' b h) ∙ sym ab.1 in subst (λ x. bytes_eq s x ≡ true) one (text_itself s))
    ∙ sym (ap (λ o. option_map_or (bytes_eq s') o false) is')
has_same m s s' d e pair left right (no_ids none_left none_right) =
    false_from_ne_true (has_id s d) (λ h. none_left s (has_id-Some s d h) left.place left.asked left.stands left.reference left.text)
    ∙ sym (false_from_ne_true (has_id s' e) (λ h. none_right s' (has_id-Some s' e h) right.place right.asked right.stands right.reference right.text))

module _ (m : Sides) (left_tree : IsTree m.left) (right_tree : IsTree m.right) (π : Preference) (accepted : IsAccepted π m.left)
    (root : Related m (Object role.Report) m.left m.right) where
  pub ids_alike : (f : Family) (d e : Data) → Related m (Object (role.OfFamily f)) d e → IdsAlike m d e
  ids_alike f d e r =
      let o : BothObjects m (role.OfFamily f) d e = both_objects m left_tree right_tree (no_shape_fault π m.left accepted) (role.OfFamily f) d e r in
      ids_found m (scope.Members (role.OfFamily f) (Some o.class)) false (get (codes "@id") d) (get (codes "@id") e)
      (asked_of_name (role.OfFamily f) o.class (codes "@id") refl
      ∙ ap Some (want_by_kind o.class (codes "@id") kind.Identity (kind_of_family_id o.class f o.role) refl))
      (envelope_is (role.OfFamily f) o.class (codes "@id") ∙ outside (role.OfFamily f) o.class (codes "@id") o.role (λ x. cc))
      (o.aligned (codes "@id")) d e refl refl

  one_owner : (f : Family) (s : List ℕ) → AtMostOne (has_id s) (family_values f m.left)
  one_owner f s =
      one_if_apart (has_id s) (family_values f m.left)
      (apart_distinct (has_id s) have_one_id (family_values f m.left) (λ x y h k. by_one_id x y s (has_id-Some s x h) (has_id-Some s y k))
      (ids_distinct π m.left accepted f))

  -- what texts that stand for one another name
  pub owners_related : (f : Family) (s s' : List ℕ) → NameOneThing m s s' → IsUsed m.left s → IsUsed m.right s' → Both (Related m (Object (role.OfFamily f)))
      (owner m.left f s) (owner m.right f s')
  owners_related f s s' pair left right =
      subst (λ o. Both (Related m (Object (role.OfFamily f))) o (owner m.right f s')) (sym (owner_found m.left f s))
      (subst (Both (Related m (Object (role.OfFamily f))) (find (has_id s) (family_values f m.left))) (sym (owner_found m.right f s'))
      (matched_find (has_id s) (has_id s') (λ x y r. has_same m s s' x y pair left right (ids_alike f x y r))
      (family_matched m left_tree right_tree (no_shape_fault π m.left accepted) root f) (one_owner f s)))

  pub keys_named_same : (f : Family) (s s' : List ℕ) → NameOneThing m s s' → IsUsed m.left s → IsUsed m.right s' → key_named π m.left f s
      ≡ key_named π m.right f s'
  keys_named_same f s s' pair left right =
      said_same (key_of π) (key_of π) (λ x y r. related_key m left_tree right_tree (no_shape_fault π m.left accepted) π f x y r) (owner m.left f s)
      (owner m.right f s') (owners_related f s s' pair left right)

pub references_name_the_same : ReferencesNameTheSame
references_name_the_same π t u left_tree right_tree accepted h f s s' left right there back =
    let m : Sides = record { left = t; right = u; there = h.there; back = h.back } in
    let root : Related m (Object role.Report) t u = record {
      left = record { repeated = false; inside = Within-root t };
      right = record { repeated = false; inside = Within-root u };
      same = h.same;
    } in
    keys_named_same m left_tree right_tree π accepted root f s s' (there, back) left right
