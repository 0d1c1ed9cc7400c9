-- A tree that says the same as an accepted report is accepted, where its envelope is sound and its `@id`s are distinct.
use Rattle.erd_normal.proofs.Common.{◌≡◌, ℕ, Bool, true, false, not, ◌&&◌, ◌⊎◌, List, [], is_some, Some, None, codes, Option, option_and_then, bytes_eq}
use Rattle.erd_normal.proofs.Common.{unwrap_or, sym, refl, ap, ◌∙◌, subst, inl, inr, true≢false, option_map_or, Data, string, object, get_member, as_str}
use Rattle.erd_normal.proofs.Common.{kind_of_member, class, Family, family, role, Reason, reason, kind, Step, ObjectIn, Within, is_reference, NoneOf, IsTree}
use Rattle.erd_normal.proofs.Common.{entries_at, text_of, text_at, member_want, Asked, asked, asked_at, Want, Member, Object, Reference, no_shape_fault}
use Rattle.erd_normal.proofs.Common.{IsAccepted, Preference, is_unresolved, is_of_other_family, is_reference_fault, is_selection_in, is_other_selection}
use Rattle.erd_normal.proofs.Common.{ReferenceFault, has_id, owner, class_of_node, HasSoundEnvelope, IsUsed, Sides, NameOneThing, Same, Class, get}
use Rattle.erd_normal.proofs.Common.{is_in_envelope, same_Some, object_in, unrepeated, is_none, families, is_owned, In, In-all, In-from_contains, all_from_In}
use Rattle.erd_normal.proofs.Common.{any_at, accepted_by_phases, SameIsAccepted, is_eq, ap₂, tied_itself, on_total, options_total, IsDistinct, option_cmp}
use Rattle.erd_normal.proofs.Common.{eq_by_cmp, Role, values_distinct, no_identity_fault, distinct_one, has_keys, is_keyed_role, key_cmp, key_of, IdentityFault}
use Rattle.erd_normal.proofs.Common.{LacksIdentifier, RepeatsKey, Placed, objects, objects_with_role, needs_key, key_cmp_total, Key, HasDistinctIds, by_key}
use Rattle.erd_normal.proofs.Common.{contains_from_In}
use Rattle.erd_normal.proofs.canonical.CanonicalIds.{IsChosen, contest_named, entries_chosen, list_name, election_values, none_keyless, one_election}
use Rattle.erd_normal.proofs.same.IdsOfObjects.{Refers, reference_refers, not_before_itself, election_values_are, family_values, object_values, placed_value}
use Rattle.erd_normal.proofs.same.IdsOfObjects.{value_placed}
use Rattle.erd_normal.proofs.same.accepted.RequiredMembers.{IsListSound, IsListed, none_elsewhere, IsSound, is_lone}
use Rattle.erd_normal.proofs.lists.Matched.{Both, both, Matched, matched_any, matched_back, IsEven, distinct_matched, even_order, matched_within}
use Rattle.erd_normal.proofs.same.InTurn.{OtherText, id_text}
use Rattle.erd_normal.proofs.same.Owners.{has_same, ids_alike, owners_related, selections_matched, elections_matched, family_matched, related_election_key}
use Rattle.erd_normal.proofs.same.Owners.{related_key}
use Rattle.erd_normal.proofs.same.Related.{Related}
use Rattle.erd_normal.proofs.same.accepted.AcceptedShape.{AskedAgain, asked_again, none_repeated, none_asked, same_shape}
use Rattle.erd_normal.proofs.same.means.References.{used}
use Rattle.erd_normal.proofs.same.means.Members.{BothObjects, Told, both_told, both_objects, steady_nothing, told_entries, none_told, TwoReports}
use Rattle.erd_normal.proofs.same.Lookups.{is_steady_kind}
use Rattle.erd_normal.proofs.lists.Lists.{is_family}
use Rattle.erd_normal.proofs.same.means.Meanings.{two_reports, no_selection_fault}

-- ---- a report that says the same as an accepted one has no fault of references, where its envelope has no fault of shape

-- it has no fault of references by itself
pub record IsSoundIn (u : Data) (a : Asked) : Type 0 where
  pub sound : (r : Reason) → is_reference_fault u a r ≡ false

-- the second of two tests fails
pub and_no : (b : Bool) → b && false ≡ false
and_no true = refl
and_no false = refl

-- a reference that names an object of the family, and repeats none
pub names_sound : (u : Data) (f : Family) (s : List ℕ) (o : Data) (b : Bool) → b ≡ false → owner u f s ≡ Some o
    → IsSoundIn u (record { want = Reference f; value = string s; repeated = b })
names_sound u f s o b first owned = record { sound = at }
  where
    known : is_owned u s ≡ true
    known = any_at (λ g. is_some (owner u g s)) f families (In-from_contains f families (is_family f)) (ap is_some owned)

    at : (r : Reason) → is_reference_fault u (record { want = Reference f; value = string s; repeated = b }) r ≡ false
    at reason.Repeated = ap (λ x. x && true) first
    at reason.Unresolved = ap not known
    at reason.WrongFamily = ap (λ x. is_none x && is_owned u s) owned
    at r = refl

-- ---- references of a report that says the same as an accepted one

-- what is no reference has no fault of this kind
no_reference : (u : Data) (a : Asked) (w : Want) → a.want ≡ w → is_reference w ≡ false → (r : Reason) → is_reference_fault u a r ≡ false
no_reference u a w e other reason.Repeated = ap (λ x. a.repeated && is_reference x) e ∙ ap (λ b. a.repeated && b) other ∙ and_no a.repeated
no_reference u a (Reference f) e other reason.Unresolved = cc
no_reference u a (Reference f) e other reason.WrongFamily = cc
no_reference u a w e other reason.Unresolved = ap (λ x. is_unresolved u x a.value) e
no_reference u a w e other reason.WrongFamily = ap (λ x. is_of_other_family u x a.value) e
no_reference u a w e other r = refl

which_reference : (w : Want) → is_reference w ≡ true → (f : Family) × (w ≡ Reference f)
which_reference (Reference f) e = (f, refl)
which_reference w e = cc

module _ (m : Sides) (left_tree : IsTree m.left) (right_tree : IsTree m.right) (π : Preference) (accepted : IsAccepted π m.left)
    (sound : HasSoundEnvelope m.right)
    (root : Related m (Object role.Report) m.left m.right) where
  -- ---- each reference

  record Owned (f : Family) (other : List ℕ) (o : Data) : Type 0 where
    object : Data
    named : owner m.right f other ≡ Some object
    related : Related m (Object (role.OfFamily f)) o object

  -- a reference of the left report, and the one that stands for it in the right one
  record RefersToo (f : Family) (d e : Data) : Type 0 where
    id : List ℕ
    text : d ≡ string id
    other : OtherText m id e
    left_used : IsUsed m.left id
    right_used : IsUsed m.right other.other
    target : Data
    kin : Owned f other.other target

  owned_too : (f : Family) (id other : List ℕ) (o : Data) → NameOneThing m id other → IsUsed m.left id → IsUsed m.right other → owner m.left f id
      ≡ Some o → Owned f other o
  owned_too f id other o pair left right e = at (owner m.left f id) (owner m.right f other) e refl
      (owners_related m left_tree right_tree π accepted root f id other pair left right)
    where
      at : (p q : Option Data) → p ≡ Some o → owner m.right f other ≡ q → Both (Related m (Object (role.OfFamily f))) p q → Owned f other o
      at None q same is k = cc
      at (Some x) None same is k = elim k [ ]
      at (Some x) (Some y) same is (both k) = let one : x ≡ o = cc in
          record { object = y; named = is; related = subst (λ z. Related m (Object (role.OfFamily f)) z y) one k }

  first_asked : (f : Family) (d : Data) (b : Bool) → Within m.left (record { want = Reference f; value = d; repeated = b })
      → Within m.left (asked (Reference f) d)
  first_asked f d b inside =
      subst (λ r. Within m.left (record { want = Reference f; value = d; repeated = r }))
      (none_repeated π m.left accepted (record { want = Reference f; value = d; repeated = b }) inside) inside

  refers_too : (f : Family) (d e : Data) → Related m (Reference f) d e → RefersToo f d e
  refers_too f d e r =
      let x : Refers m.left f d = reference_refers π m.left accepted f d (first_asked f d r.left.repeated r.left.inside) in
      let o = id_text m x.0 r.same refl x.1 in
      let left = used m.left f d x.0 r.left x.1 in
      let right = used m.right f e o.other r.right o.is in
      record {
        id = x.0;
        text = x.1;
        other = o;
        left_used = left;
        right_used = right;
        target = x.2.0;
        kin = owned_too f x.0 o.other x.2.0 o.pair left right x.2.1;
      }

  -- what is asked again, as two values that are related
  related_again : (b : Asked) (w : Want) → b.want ≡ w → Within m.right b → (from : AskedAgain m b) → Related m w from.of.value b.value
  related_again b w is inside from = record {
    left = record {
      repeated = from.of.repeated;
      inside = subst (λ x. Within m.left (record { want = x; value = from.of.value; repeated = from.of.repeated }))
          (from.want ∙ is) from.inside;
    };
    right = record { repeated = b.repeated; inside = subst (λ x. Within m.right (record { want = x; value = b.value; repeated = b.repeated })) is inside };
    same = subst (λ x. Same m (Some x) from.of.value b.value) is from.same;
  }

  reference_sound : (b : Asked) (f : Family) → b.want ≡ Reference f → Within m.right b → AskedAgain m b → (r : Reason) → is_reference_fault m.right b r ≡ false
  reference_sound b f is inside from r =
      let s = refers_too f from.of.value b.value (related_again b (Reference f) is inside from) in
      let here = (names_sound m.right f s.other.other s.kin.object b.repeated from.first s.kin.named).sound r in
      subst (λ w. is_reference_fault m.right (record { want = w; value = b.value; repeated = b.repeated }) r ≡ false) (sym is)
      (subst (λ v. is_reference_fault m.right (record { want = Reference f; value = v; repeated = b.repeated }) r ≡ false) (sym s.other.is) here)

  -- what is asked for in a reference or in a ballot is asked again
  again : (b : Asked) → is_lone b.want ≡ false → AskedAgain m b ⊎ IsSound b → AskedAgain m b
  again b bound (inl from) = from
  again b bound (inr alone) = absurd (true≢false (sym alone.lone ∙ bound))

  asked_too : (p : List Step) (b : Asked) → asked_at m.right p ≡ Some b → is_lone b.want ≡ false → AskedAgain m b
  asked_too p b e bound = again b bound (asked_again m left_tree right_tree π accepted sound root.same p b e)

  sound_asked : (p : List Step) (b : Asked) → asked_at m.right p ≡ Some b → (r : Reason) → is_reference_fault m.right b r ≡ false
  sound_asked p b e r = at (is_reference b.want) refl
    where
      at : (c : Bool) → is_reference b.want ≡ c → is_reference_fault m.right b r ≡ false
      at true is = let f = which_reference b.want is in reference_sound b f.0 f.1 (record { place = p; is = e }) (asked_too p b e (ap is_lone f.1)) r
      at false is = no_reference m.right b b.want refl is r

  -- ---- the lists of ballots

  -- a selection of a contest is one of the related contest
  chosen_too : (id other : List ℕ) (d e : Data) → NameOneThing m id other → IsUsed m.left id → IsUsed m.right other
      → Related m (Object (role.OfFamily family.Contest)) d e → is_selection_in d id ≡ is_selection_in e other
  chosen_too id other d e pair left right r =
      matched_any (has_id id) (has_id other)
      (λ x y k. has_same m id other x y pair left right (ids_alike m left_tree right_tree π accepted root family.Selection x y k))
      (selections_matched m left_tree right_tree (no_shape_fault π m.left accepted) d e r)

  -- what stands under a name in the left object, of a kind that never may be absent, has one that says the same in the right
  -- object
  standing : (c : Class) (n : List ℕ) (w : Want) (v : Data) (o p : Option Data) → member_want c n ≡ w → is_steady_kind (kind_of_member c n) ≡ true
      → is_in_envelope c n ≡ false → o ≡ Some v → Told m c n o p
      → (y : Data) × (p ≡ Some y) × Related m w v y
  standing c n w v (Some d) (Some e) asks steady inside is (both_told r) = let one : d ≡ v =
      cc in (e, refl, subst (λ z. Related m w z e) one (subst (λ x. Related m x d e) asks r))
  standing c n w v o p asks steady inside is (none_told k l) = let x : None ≡ Some v = sym (steady_nothing c n o steady inside k) ∙ is in cc

  module _ (d e : Data) (r : Related m (Object role.Content) d e) (among : class_of_node e ≡ Some class.OrderedContest) where
    two : BothObjects m role.Content d e
    two = both_objects m left_tree right_tree (no_shape_fault π m.left accepted) role.Content d e r

    class_is : two.class ≡ class.OrderedContest
    class_is = same_Some two.class class.OrderedContest (sym two.right ∙ among)

    told : (name : List ℕ) → bytes_eq name (codes "@type") ≡ false → Told m class.OrderedContest name (get name d) (get name e)
    told name other = subst (λ c. Told m c name (get name d) (get name e)) class_is (two.members name other)

    o : ObjectIn m.left role.Content d
    o = object_in m.left (no_shape_fault π m.left accepted) role.Content d
        (unrepeated m.left (no_shape_fault π m.left accepted) (Object role.Content) d r.left.repeated refl r.left.inside)

    here : class_of_node (object o.ms) ≡ Some class.OrderedContest
    here = ap class_of_node (sym o.is_object) ∙ two.left ∙ ap Some class_is

    -- the reference to the contest
    contest : (v : Data) × (get_member (codes "ContestId") o.ms ≡ Some v) × Refers m.left family.Contest v
    contest = contest_named π m.left accepted o.ms o.at.inside here

    contest_too : (y : Data) × (get (codes "ContestId") e ≡ Some y) × Related m (Reference family.Contest) contest.0 y
    contest_too =
        standing class.OrderedContest (codes "ContestId") (Reference family.Contest) contest.0 (get (codes "ContestId") d) (get (codes "ContestId") e) refl refl
        refl (ap (get (codes "ContestId")) o.is_object ∙ contest.1)
        (told (codes "ContestId") refl)

    contest_text : OtherText m contest.2.0 contest_too.0
    contest_text = id_text m contest.2.0 contest_too.2.same refl contest.2.1

    kin : Owned family.Contest contest_text.other contest.2.2.0
    kin =
        owned_too family.Contest contest.2.0 contest_text.other contest.2.2.0 contest_text.pair
        (used m.left family.Contest contest.0 contest.2.0 contest_too.2.left contest.2.1)
        (used m.right family.Contest contest_too.0 contest_text.other contest_too.2.right contest_text.is) contest.2.2.1

    named : owner m.right family.Contest (text_at (codes "ContestId") e) ≡ Some kin.object
    named = ap (λ x. owner m.right family.Contest (unwrap_or (option_and_then as_str x) [])) (contest_too.1 ∙ ap Some contest_text.is) ∙ kin.named

    -- the lists
    lists : Matched (Related m (Reference family.Selection)) (entries_at list_name d) (entries_at list_name e)
    lists = told_entries m class.OrderedContest list_name (Member kind.Ordered false) (Reference family.Selection) (get list_name d) (get list_name e) refl refl
        refl refl (told list_name refl)

    entry_of_contest : (y : Data) → In y (entries_at list_name e) → is_other_selection m.right e (Reference family.Selection) y ≡ false
    unfolding contest
    entry_of_contest y h =
        let x = matched_back y lists h in
        let s : RefersToo family.Selection x.0 y = refers_too family.Selection x.0 y x.2 in
        let chosen : IsChosen π m.left accepted o.ms o.at.inside here x.0 =
        In-all (IsChosen π m.left accepted o.ms o.at.inside here) x.0 (entries_at list_name (object o.ms))
        (entries_chosen π m.left accepted o.ms o.at.inside here) (subst (λ z. In x.0 (entries_at list_name z)) o.is_object x.1) in
        let inside : is_selection_in kin.object s.other.other ≡ true =
        sym (chosen_too s.id s.other.other contest.2.2.0 kin.object s.other.pair s.left_used s.right_used kin.related)
        ∙ sym (ap (λ z. is_selection_in contest.2.2.0 (text_of z)) s.text) ∙ chosen.1 in
        ap (is_other_selection m.right e (Reference family.Selection)) s.other.is
        ∙ ap (λ z. is_some (owner m.right family.Selection s.other.other) && option_map_or (λ c. not (is_selection_in c s.other.other)) z false) named
        ∙ ap (λ b. is_some (owner m.right family.Selection s.other.other) && not b) inside ∙ and_no (is_some (owner m.right family.Selection s.other.other))

    list_sound : IsListSound m.right e
    list_sound = all_from_In (λ y. is_other_selection m.right e (Reference family.Selection) y ≡ false) (entries_at list_name e) entry_of_contest

  listed : (p : List Step) (b : Asked) → asked_at m.right p ≡ Some b → IsListed m.right b
  listed p b e = record {
    sound = λ is among. list_sound _ b.value (related_again b (Object role.Content) is (record { place = p; is = e }) (asked_too p b e (ap is_lone is))) among;
  }

  -- ---- the report

  pub same_references : NoneOf (ReferenceFault m.right)
  same_references p reason.SelectionOfOtherContest h = none_elsewhere m.right listed p h
  same_references p r h = none_asked m.right (λ b. is_reference_fault m.right b r) p (λ b is. sound_asked p b is r) h

-- ---- a tree that says the same as an accepted report is accepted, where its envelope has no fault of shape and no two of its
-- objects have one `@id`

same_key_even : (π : Preference) → IsEven (eq_by_cmp (by_key π))
same_key_even π = even_order (by_key π) (on_total (key_of π) (options_total key_cmp_total))

module _ (m : Sides) (left_tree : IsTree m.left) (right_tree : IsTree m.right) (π : Preference) (accepted : IsAccepted π m.left)
    (root : Related m (Object role.Report) m.left m.right) where
  abbrev Kin : Family → Data → Data → Type 0
  Kin f = Related m (Object (role.OfFamily f))

  matched : (f : Family) → Matched (Kin f) (family_values f m.left) (family_values f m.right)
  matched = family_matched m left_tree right_tree (no_shape_fault π m.left accepted) root

  kin_key : (f : Family) (d e : Data) → Kin f d e → key_of π d ≡ key_of π e
  kin_key f d e r = related_key m left_tree right_tree (no_shape_fault π m.left accepted) π f d e r

  -- the object of the left report to which one of the right report is related
  record KinOf (f : Family) (o : Placed) : Type 0 where
    of : Placed
    stands : In of (objects f m.left)
    kin : Kin f of.value o.value

  kin_of : (f : Family) (o : Placed) → In o (objects f m.right) → KinOf f o
  kin_of f o h =
      let b = matched_back o.value (matched f) (placed_value f m.right o h) in
      let p = value_placed f m.left b.0 b.1 in
      record { of = p.0; stands = p.1; kin = subst (λ d. Kin f d o.value) (sym p.2) b.2 }

  keys_distinct : (f : Family) → has_keys f ≡ true → IsDistinct (eq_by_cmp (by_key π)) (family_values f m.right)
  keys_distinct f keyed =
      distinct_matched (eq_by_cmp (by_key π)) (eq_by_cmp (by_key π)) (same_key_even π)
      (λ x x' y y' i j r r' h. ap₂ (λ k l. is_eq (option_cmp key_cmp k l)) (kin_key f x y r) (kin_key f x' y' r') ∙ h)
      (matched f) (subst (IsDistinct (eq_by_cmp (by_key π))) (object_values f m.left) (values_distinct π m.left (no_identity_fault π m.left accepted) f keyed))

  -- elections that say the same have one key
  elections_alike : Matched (λ d e. key_of π d ≡ key_of π e) (election_values m.left) (election_values m.right)
  elections_alike =
      subst (λ (ds : List Data). Matched (λ d e. key_of π d ≡ key_of π e) ds (election_values m.right)) (sym (election_values_are m.left))
      (subst (Matched (λ d e. key_of π d ≡ key_of π e) (entries_at (codes "Election") m.left)) (sym (election_values_are m.right))
      (matched_within (λ d e. key_of π d ≡ key_of π e) (λ d e h r. related_election_key m left_tree right_tree (no_shape_fault π m.left accepted) π d e r)
      (elections_matched m left_tree right_tree (no_shape_fault π m.left accepted) root)))

  lacks_none : (r : Role) (p : Placed) → needs_key m.right r ≡ true → In p (objects_with_role r m.right) → key_of π p.value ≡ None → ⊥
  lacks_none (role.OfFamily f) p needed h none =
      let o = kin_of f p h in
      no_identity_fault π m.left accepted o.of.place reason.NoIdentifier (record {
        role = role.OfFamily f;
        needed = needed;
        placed = o.of;
        stands = contains_from_In o.of (objects f m.left) o.stands;
        place = refl;
        keyless = kin_key f o.of.value p.value o.kin ∙ none;
      })
  lacks_none role.Election p needed h none = none_keyless π m.left m.right accepted elections_alike p needed h none
  lacks_none r p needed h none = elim h [ ]

  none_lacks : (p : List Step) → LacksIdentifier π m.right p → ⊥
  none_lacks p l = lacks_none l.role l.placed l.needed (In-from_contains l.placed (objects_with_role l.role m.right) l.stands) l.keyless

  same_key : (k : Key) (d e : Data) → key_of π d ≡ Some k → key_of π e ≡ Some k → eq_by_cmp (by_key π) d e ≡ true
  same_key k d e a b = ap₂ (λ k l. is_eq (option_cmp key_cmp k l)) a b ∙ ap is_eq (tied_itself key_cmp_total k)

  one_with_key : (r : Role) (o p : Placed) (k : Key) → is_keyed_role r ≡ true → In o (objects_with_role r m.right) → In p (objects_with_role r m.right)
      → key_of π o.value ≡ Some k → key_of π p.value ≡ Some k → o ≡ p
  one_with_key (role.OfFamily f) o p k keyed h i a b =
      distinct_one (λ o. o.value) (eq_by_cmp (by_key π)) (objects f m.right)
      (subst (IsDistinct (eq_by_cmp (by_key π))) (sym (object_values f m.right)) (keys_distinct f keyed)) o p h i
      (same_key k o.value p.value a b) (same_key k p.value o.value b a)
  one_with_key role.Election o p k keyed h i a b = one_election π m.left m.right accepted elections_alike o p k h i a b
  one_with_key r o p k keyed h i a b = elim h [ ]

  no_twin_key : (p : List Step) → RepeatsKey π m.right p → ⊥
  no_twin_key p r =
      let os = objects_with_role r.role m.right in
      not_before_itself r.earlier r.later
      (one_with_key r.role r.earlier r.later r.key r.keyed (In-from_contains r.earlier os r.earlier_stands) (In-from_contains r.later os r.later_stands)
      r.earlier_key r.later_key) r.before

  pub same_identity : HasDistinctIds m.right → NoneOf (IdentityFault π m.right)
  same_identity distinct p reason.NoIdentifier h = none_lacks p h
  same_identity distinct p reason.TwinIdentifier h = no_twin_key p h
  same_identity distinct p reason.DuplicateId h = distinct p h
  same_identity distinct p r h = h

-- ---- a tree that says the same as an accepted report is accepted

pub same_is_accepted : SameIsAccepted
same_is_accepted π t u left_tree right_tree accepted h sound distinct =
    let m : Sides = record { left = t; right = u; there = h.there; back = h.back } in
    let g : TwoReports m π = two_reports π t u h left_tree right_tree accepted in
    accepted_by_phases π u (same_shape m left_tree right_tree π accepted sound h.same) (same_identity m left_tree right_tree π accepted g.root distinct)
    (same_references m left_tree right_tree π accepted sound g.root) (no_selection_fault m π g)
