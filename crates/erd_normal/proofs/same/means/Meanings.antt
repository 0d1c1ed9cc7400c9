-- A report that says the same as an accepted one means the same.
use Rattle.erd_normal.proofs.Common.{◌≡◌, ℕ, Bool, true, false, List, Some, None, codes, Option, find, option_and_then, is_eq, sym, refl, ap, ◌∙◌, subst}
use Rattle.erd_normal.proofs.Common.{option_cmp, eq_by_cmp, Data, get, kind_of_member, Class, Family, family, Role, role, kind, entries_in, Within-root}
use Rattle.erd_normal.proofs.Common.{ShapeFault, NoneOf, IsTree, entries_of, entries_at, Object, no_shape_fault, is_selections, selections_kind}
use Rattle.erd_normal.proofs.Common.{selections_name, selections_family, IsAccepted, has_keys, Preference, a_selection_map, NameParts, objects, meaning}
use Rattle.erd_normal.proofs.Common.{unless_empty, is_in_envelope, plain_member, selection_record, selection_map, member_value, member_of_class, object_record}
use Rattle.erd_normal.proofs.Common.{name_cmp, Sides, SaysTheSame, by_name, fun_ext, ap₂, tied_itself, on_total, options_total, IsDistinct, reason, Step}
use Rattle.erd_normal.proofs.Common.{values-placed_entries, distinct_one, SelectionFault, RepeatsName, contests, selections_of_contest, name_of, name_cmp_total}
use Rattle.erd_normal.proofs.Common.{In, In-from_contains, In-map_from}
use Rattle.erd_meaning.proofs.meanings.HeldValues.{Held, held_of, held_values}
use Rattle.erd_normal.specs.MeansTheSame.{SayingTheSameMeansTheSame}
use Rattle.erd_normal.proofs.lists.Matched.{AtMostOne, Matched, apart_distinct, matched_find, matched_within, one_if_apart, said_same, distinct_matched}
use Rattle.erd_normal.proofs.lists.Matched.{even_order, matched_back}
use Rattle.erd_normal.proofs.meaning.MatchedMeanings.{HeldAlike, MeanOne, held_matched, matched_meaning, is_named, named_tied, plain_members, record_alike}
use Rattle.erd_normal.proofs.meaning.MatchedMeanings.{flat_no_selections, is_flat_role, kind_is_flat}
use Rattle.erd_normal.proofs.same.IdsOfObjects.{family_values, placed_value, outside, in_report, in_election, not_before_itself, value_placed}
use Rattle.erd_normal.proofs.same.Related.{Related}
use Rattle.erd_normal.proofs.same.Owners.{elections_matched, related_election_key, related_key, keyed_array, family_matched, selections_matched}
use Rattle.erd_normal.proofs.same.means.Members.{BothObjects, MeansNothing, TwoReports, Told, both_told, both_objects, unless_empty_same, nothing_cases}
use Rattle.erd_normal.proofs.same.means.Members.{none_told}
use Rattle.erd_normal.proofs.same.means.References.{name_alike}
use Rattle.erd_normal.proofs.same.means.Records.{plain_alike, selection_alike}
use Rattle.erd_normal.proofs.canonical.NormalKeys.{selection_values_distinct}

module _ (m : Sides) (π : Preference) (g : TwoReports m π) where
  -- an object of the family, and one that is related to it
  pub record Kin (f : Family) (d e : Data) : Type 0 where
    pub stands : In d (family_values f m.left)
    pub related : Related m (Object (role.OfFamily f)) d e

  kin_matched : (f : Family) → Matched (Kin f) (family_values f m.left) (family_values f m.right)
  kin_matched f = matched_within (Kin f) (λ x y h r. record { stands = h; related = r })
      (family_matched m g.left_tree g.right_tree (no_shape_fault π m.left g.accepted) g.root f)

  abbrev pub chosen : Data → List Data
  chosen d = entries_at (codes "ContestSelection") d

  pub chosen_matched : (d e : Data) → Kin family.Contest d e → Matched (Related m (Object (role.OfFamily family.Selection))) (chosen d) (chosen e)
  chosen_matched d e k = selections_matched m g.left_tree g.right_tree (no_shape_fault π m.left g.accepted) d e k.related

  -- the names of the selections of a contest are all different
  pub left_distinct : (d e : Data) → Kin family.Contest d e → IsDistinct (eq_by_cmp (by_name π m.left)) (chosen d)
  left_distinct d e k =
      let o = value_placed family.Contest m.left d k.stands in
      subst (λ z. IsDistinct (eq_by_cmp (by_name π m.left)) (chosen z)) o.2 (selection_values_distinct π m.left g.accepted o.0 o.1)

  names_distinct : (d e : Data) → Kin family.Contest d e → IsDistinct (eq_by_cmp (by_name π m.right)) (chosen e)
  names_distinct d e k =
      distinct_matched (eq_by_cmp (by_name π m.left)) (eq_by_cmp (by_name π m.right))
      (even_order (by_name π m.right) (on_total (name_of π m.right) (options_total name_cmp_total)))
      (λ x x' y y' i j r r' h. ap₂ (λ a b. is_eq (option_cmp name_cmp a b)) (name_alike m π g x y r) (name_alike m π g x' y' r') ∙ h)
      (chosen_matched d e k) (left_distinct d e k)

  same_name : (n : NameParts) (d e : Data) → name_of π m.right d ≡ Some n → name_of π m.right e ≡ Some n → eq_by_cmp (by_name π m.right) d e ≡ true
  same_name n d e a b = ap₂ (λ k l. is_eq (option_cmp name_cmp k l)) a b ∙ ap is_eq (tied_itself name_cmp_total n)

  no_twin_name : (p : List Step) → RepeatsName π m.right p → ⊥
  no_twin_name p r =
      let b = matched_back r.contest.value (kin_matched family.Contest)
      (placed_value family.Contest m.right r.contest (In-from_contains r.contest (contests m.right) r.contest_stands)) in
      let os = selections_of_contest r.contest in
      let one : r.earlier ≡ r.later =
      distinct_one (λ o. o.value) (eq_by_cmp (by_name π m.right)) os
      (subst (IsDistinct (eq_by_cmp (by_name π m.right))) (sym (values-placed_entries (codes "ContestSelection") r.contest))
      (names_distinct b.0 r.contest.value b.2)) r.earlier r.later
      (In-from_contains r.earlier os r.earlier_stands) (In-from_contains r.later os r.later_stands)
      (same_name r.name r.earlier.value r.later.value r.earlier_name r.later_name)
      (same_name r.name r.later.value r.earlier.value r.later_name r.earlier_name) in
      not_before_itself r.earlier r.later one r.before

  pub no_selection_fault : NoneOf (SelectionFault π m.right)
  no_selection_fault p reason.TwinSelection h = no_twin_name p h
  no_selection_fault p r h = h

-- ---- a report that says the same as an accepted one means the same

module _ (m : Sides) (π : Preference) (g : TwoReports m π) where
  clean : NoneOf (ShapeFault m.left)
  clean = no_shape_fault π m.left g.accepted

  -- ---- the selections of a contest

  module _ (d e : Data) (k : Kin m π g family.Contest d e) where
    one_named : (name : NameParts) → AtMostOne (is_named π m.left name) (chosen m π g d)
    one_named name =
        one_if_apart (is_named π m.left name) (chosen m π g d)
        (apart_distinct (is_named π m.left name) (eq_by_cmp (by_name π m.left)) (chosen m π g d) (λ x y h i. ap is_eq (named_tied π m.left name x y h i))
        (left_distinct m π g d e k))

    maps_same : selection_map π m.left (chosen m π g d) ≡ selection_map π m.right (chosen m π g e)
    maps_same = fun_ext (λ name.
        said_same (selection_record π m.left) (selection_record π m.right) (selection_alike m π g)
        (find (is_named π m.left name) (chosen m π g d)) (find (is_named π m.right name) (chosen m π g e))
        (matched_find (is_named π m.left name) (is_named π m.right name) (λ x y r. ap (λ n. is_eq (option_cmp name_cmp n (Some name))) (name_alike m π g x y r))
        (chosen_matched m π g d e k) (one_named name)))

    nothing_chosen : (t : Data) (c : Class) (name : List ℕ) (o : Option Data) → kind_of_member c name ≡ kind.Keyed family.Selection → is_in_envelope c name
        ≡ false → MeansNothing c name o → option_and_then (λ v. unless_empty (a_selection_map (selection_map π t (entries_of v))) v) o ≡ None
    nothing_chosen t c name o is inside h =
        nothing_cases (λ x. option_and_then (λ v. unless_empty (a_selection_map (selection_map π t (entries_of v))) v) x ≡ None) c name o inside h
        (λ e. let no : kind.Keyed family.Selection ≡ kind.Identity = sym is ∙ e in cc) refl
        (λ k. refl)

    selections_same : (c : Class) (o p : Option Data) → kind_of_member c (codes "ContestSelection") ≡ kind.Keyed family.Selection
        → is_in_envelope c (codes "ContestSelection") ≡ false
        → get (codes "ContestSelection") d ≡ o → get (codes "ContestSelection") e ≡ p → Told m c (codes "ContestSelection") o p
        → option_and_then (λ v. unless_empty (a_selection_map (selection_map π m.left (entries_of v))) v) o
        ≡ option_and_then (λ v. unless_empty (a_selection_map (selection_map π m.right (entries_of v))) v) p
    selections_same c (Some v) (Some w) listed inside is its (both_told r) =
        unless_empty_same m _ _ _ v w r.same
        (ap a_selection_map (sym (ap (λ o. selection_map π m.left (entries_in o)) is) ∙ maps_same ∙ ap (λ o. selection_map π m.right (entries_in o)) its))
    selections_same c o p listed inside is its (none_told k l) =
        nothing_chosen m.left c (codes "ContestSelection") o listed inside k ∙ sym (nothing_chosen m.right c (codes "ContestSelection") p listed inside l)

  -- ---- objects

  plain_at : (r : Role) (d e : Data) (o : BothObjects m r d e) (name : List ℕ) → is_selections (kind_of_member o.class name) ≡ false
      → member_of_class π m.left d o.class name ≡ member_of_class π m.right e o.class name
  plain_at r d e o name other =
      plain_members π m.right m.left (kind_of_member o.class name) (get name e) (get name d) (plain_member π m.right e o.class name)
      (plain_member π m.left d o.class name) other
      (plain_alike m π g o.class name d e o.members)

  member_alike : (f : Family) (d e : Data) → Kin m π g f d e → (o : BothObjects m (role.OfFamily f) d e) (name : List ℕ)
      → member_of_class π m.left d o.class name ≡ member_of_class π m.right e o.class name
  member_alike f d e k o name = at (is_selections (kind_of_member o.class name)) refl
    where
      at : (b : Bool) → is_selections (kind_of_member o.class name) ≡ b → member_of_class π m.left d o.class name ≡ member_of_class π m.right e o.class name
      at false other = plain_at (role.OfFamily f) d e o name other
      at true is =
          let its_name = codes "ContestSelection" in
          let same : name ≡ its_name = selections_name o.class name is in
          let listed : is_selections (kind_of_member o.class its_name) ≡ true = subst (λ n. is_selections (kind_of_member o.class n) ≡ true) same is in
          let contest : f ≡ family.Contest = selections_family o.class f o.role listed in
          let its : kind_of_member o.class its_name ≡ kind.Keyed family.Selection = selections_kind (kind_of_member o.class its_name) listed in
          subst (λ n. member_of_class π m.left d o.class n ≡ member_of_class π m.right e o.class n) (sym same)
          (ap (λ x. member_value π m.left x (get its_name d) (plain_member π m.left d o.class its_name)) its
          ∙ selections_same d e (subst (λ h. Kin m π g h d e) contest k) o.class (get its_name d) (get its_name e) its
          (outside (role.OfFamily f) o.class its_name o.role (λ h. cc)) refl refl (o.members its_name refl)
          ∙ sym (ap (λ x. member_value π m.right x (get its_name e) (plain_member π m.right e o.class its_name)) its))

  object_alike : (f : Family) (d e : Data) → Kin m π g f d e → object_record π m.left (role.OfFamily f) d ≡ object_record π m.right (role.OfFamily f) e
  object_alike f d e k =
      let o : BothObjects m (role.OfFamily f) d e = both_objects m g.left_tree g.right_tree clean (role.OfFamily f) d e k.related in
      record_alike (member_of_class π m.left d) (member_of_class π m.right e) (role.OfFamily f) d e o.class o.left o.right (member_alike f d e k o)

  -- the report and the elections have no selections of their own
  flat_alike : (r : Role) → is_flat_role r ≡ true → (d e : Data) → Related m (Object r) d e → object_record π m.left r d ≡ object_record π m.right r e
  flat_alike r flat d e k =
      let o : BothObjects m r d e = both_objects m g.left_tree g.right_tree clean r d e k in
      record_alike (member_of_class π m.left d) (member_of_class π m.right e) r d e o.class o.left o.right
      (λ name. plain_at r d e o name (flat_no_selections (kind_of_member o.class name) (kind_is_flat o.class name (ap is_flat_role o.role ∙ flat))))

  -- ---- families

  abbrev Means : Family → Held → Held → Type 0
  Means f = HeldAlike (MeanOne π m.left m.right (role.OfFamily f))

  held_alike : (f : Family) (a b : Held) → In a (held_values π f m.left) → HeldAlike (Related m (Object (role.OfFamily f))) a b → Means f a b
  held_alike f a b h same =
      let o = In-map_from (held_of π m.left) (objects f m.left) a h in
      let k : Kin m π g f a.1 b.1 =
      record { stands = subst (λ z. In z (family_values f m.left)) (ap (λ (x : Held). x.1) o.2) (placed_value f m.left o.0 o.1); related = same.1 } in
      (same.0, record { keys = related_key m g.left_tree g.right_tree clean π f a.1 b.1 same.1; records = object_alike f a.1 b.1 k })

  -- related objects stand in related elections
  families_alike : (f : Family) → has_keys f ≡ true → Matched (Means f) (held_values π f m.left) (held_values π f m.right)
  families_alike f keyed =
      matched_within (Means f) (held_alike f)
      (held_matched π m.left m.right (Related m (Object role.Election)) (λ h. Related m (Object (role.OfFamily h)))
      (elections_matched m g.left_tree g.right_tree clean g.root)
      (λ d e h r. related_election_key m g.left_tree g.right_tree clean π d e r)
      (in_report m.left m.right (λ r. Related m (Object r)) (keyed_array m g.left_tree g.right_tree clean) g.root)
      (λ h name other listed d e i r. in_election m.left m.right (λ r. Related m (Object r)) (keyed_array m g.left_tree g.right_tree clean) d
      e r h name other listed)
      f keyed)

  -- ---- the whole

  elections_alike : Matched (MeanOne π m.left m.right role.Election) (entries_at (codes "Election") m.left) (entries_at (codes "Election") m.right)
  elections_alike =
      matched_within (MeanOne π m.left m.right role.Election)
      (λ d e h r. record { keys = related_election_key m g.left_tree g.right_tree clean π d e r; records = flat_alike role.Election refl d e r })
      (elections_matched m g.left_tree g.right_tree clean g.root)

  pub meaning_alike : meaning π m.left ≡ meaning π m.right
  meaning_alike = matched_meaning π m.left m.right g.accepted (flat_alike role.Report refl m.left m.right g.root) elections_alike families_alike

-- the two reports of functions of texts by which they say the same
pub two_reports : (π : Preference) (t u : Data) (h : SaysTheSame t u) → IsTree t → IsTree u → IsAccepted π t
    → TwoReports (record { left = t; right = u; there = h.there; back = h.back }) π
two_reports π t u h left right accepted = record {
  left_tree = left;
  right_tree = right;
  accepted = accepted;
  root = record {
    left = record { repeated = false; inside = Within-root t };
    right = record { repeated = false; inside = Within-root u };
    same = h.same;
  };
}

pub saying_the_same_means_the_same : SayingTheSameMeansTheSame
saying_the_same_means_the_same π t u left right accepted h =
    sym (meaning_alike (record { left = t; right = u; there = h.there; back = h.back }) π (two_reports π t u h left right accepted))
