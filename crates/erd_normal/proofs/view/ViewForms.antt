-- The report that is written in the canonical style is its canonical form: its envelope, no empty array, distinct ids, sets in
-- order.
use Rattle.erd_normal.proofs.Common.{◌≡◌, ℕ, Bool, true, false, ◌||◌, ◌&&◌, ◌==◌, ◌⊎◌, inl, inr, List, [], ◌∷◌, map, length, if◌then◌else◌, Some, None, codes}
use Rattle.erd_normal.proofs.Common.{Option, option_and_then, option_map_or, bytes_eq, list_all, sym, refl, ap, ◌∙◌, subst, option_cmp, key_cmp, name_cmp}
use Rattle.erd_normal.proofs.Common.{IsStrictlySortedBy, length-map, length-rising, rising_list, Data, null, boolean, string, number, array, object, Items}
use Rattle.erd_normal.proofs.Common.{Members, get_member, get, as_str, rows_of_class, kind_of_identity, kind_of_member, is_required, is_report_class, Class}
use Rattle.erd_normal.proofs.Common.{class, Family, family, Role, role, MemberKind, kind, Step, IsTree, In, In-all, In-map, In-from_contains, position_of}
use Rattle.erd_normal.proofs.Common.{array_from, list_of_items-place, wanted_within, kind_of_class, want_unless_status, ShapeFault, NoneOf, entries_of}
use Rattle.erd_normal.proofs.Common.{list_of_items, is_array, is_empty_array, class_of_object, scope_inside, want_of_kind, member_want, want_of_name}
use Rattle.erd_normal.proofs.Common.{entry_want, is_compared_set, unrepeated, Asked, asked, asked_at, Within, scope, Scope, Want, Carried, ClassText, Member}
use Rattle.erd_normal.proofs.Common.{Object, Reference, IsAccepted, no_shape_fault, skeleton_of_shape, Skeleton, has_keys, Preference, key_of, key_named}
use Rattle.erd_normal.proofs.Common.{Placed, objects, contests, selections_of_contest, id_of, IsBefore, IsBounded, Sides, is_envelope, is_envelope_name}
use Rattle.erd_normal.proofs.Common.{envelope_values, HasCanonicalEnvelope, HasNoEmptyArray, AreSetsInOrder, RisesAs, kind_wanted, keys_of, HasDistinctIds}
use Rattle.erd_normal.proofs.Common.{IsCanonicalFormOf, rank_of, by_key, by_name, compact_cmp, text_of, name_of, selection_role, HasFittingNumbers, ◌^◌, ◌<◌}
use Rattle.erd_normal.proofs.Common.{arith, AllByRecursion, SaysTheSame, depth, IsNoDeeper, no_unknown, no_strange, position_of, In-flat_map_from}
use Rattle.erd_normal.proofs.Common.{contains_from_In, within-tree, has_float, tree_in_order, In-rising, is_simple_class, role_of_class}
use Rattle.erd_check.specs.Wants.{entry_want_of_kind}
use Rattle.erd_check.proofs.ShapedReports.{no_fraction}
use Rattle.erd_text.proofs.StableRising.{map_after}
use Rattle.erd_text.proofs.RisingOrders.{rising-In}
use Rattle.erd_normal.proofs.inside.Members.{put_value}
use Rattle.erd_normal.proofs.canonical.CanonicalIds.{canonical_id_exact, selection_id_apart, sound_envelope}
use Rattle.erd_normal.proofs.canonical.NormalKeys.{elections_rise, objects_rise, references_rise, selections_rise, values_rise}
use Rattle.erd_normal.proofs.lists.Lists.{maps_agree, as_empty}
use Rattle.erd_normal.proofs.same.Lookups.{steady_same}
use Rattle.erd_normal.proofs.same.Owners.{related_election_key}
use Rattle.erd_normal.proofs.same.Related.{Stands, Related, entry_stands}
use Rattle.erd_normal.proofs.same.IdsOfObjects.{Refers, reference_refers, not_before_itself}
use Rattle.erd_normal.proofs.same.accepted.Accepted.{same_is_accepted}
use Rattle.erd_normal.proofs.same.complete.Values.{identifier_simple, language_simple}
use Rattle.erd_normal.proofs.same.means.Meanings.{saying_the_same_means_the_same}
use Rattle.erd_normal.proofs.same.means.References.{name_alike, key_alike}
use Rattle.erd_normal.proofs.texts.CompactTexts.{within-fitting, IsFitting, fitting_partwise}
use Rattle.erd_normal.proofs.inside.Walks.{all_pass}
use Rattle.erd_normal.proofs.unique.Unique.{member_wanted, unique}
use Rattle.erd_normal.proofs.view.ViewDepths.{no_deeper}
use Rattle.erd_normal.specs.SameForms.{CanonicalSaysTheSame}
use Rattle.erd_normal.proofs.view.Views.{view-holds, get_view, viewed, written_entries, entries_viewed, entries_in_order, entry_kept}
use Rattle.erd_normal.proofs.view.AskedInViews.{IsViewOf, of_value, of_put, is_flat, class_kept}
use Rattle.erd_normal.proofs.view.CanonicalStyles.{IsHeld, part_of, goes_inward, asked_in_form, viewed_tree, puts_flat, puts_no_type}
use Rattle.erd_normal.proofs.view.SaidViews.{view_says, put_wants, is_of_member}
use Rattle.erd_normal.proofs.view.ViewIds.{both, one_key, view_related, one_ranked, rank_counted, ids_by_rank, has_canonical_ids, one_selection}
use Rattle.erd_normal.specs.code.View.{Style, is_dropped, view, view_entries, set_in_order, whole, style_of, puts_of, id_given, as_member}

-- ---- what the table never asks of a member: a single reference, a carried value or a class are asked for apart

abbrev is_fair_kind : MemberKind → Bool
is_fair_kind kind.ClassText = false
is_fair_kind k = true

abbrev is_fair : Want → Bool
is_fair (Member (kind.One f) required) = false
is_fair (Member kind.Carried required) = false
is_fair (Member kind.ClassText required) = false
is_fair w = true

fair_of_kind : (k : MemberKind) (required : Bool) → is_fair_kind k ≡ true → is_fair (want_of_kind k required) ≡ true
fair_of_kind kind.ClassText required h = cc
fair_of_kind k required h = refl

fair_rows : (c : Class) → (list_all (λ m. is_fair_kind m.kind) (rows_of_class c) ≡ true) × (is_fair_kind (kind_of_identity c) ≡ true)
fair_rows class.ElectionReport = (refl, refl)
fair_rows c = (refl, refl)

fair_entry_kind : (k : MemberKind) → option_map_or is_fair (entry_want_of_kind k) true ≡ true
fair_entry_kind (kind.Many f) = refl
fair_entry_kind k = refl

fair_entry : (w : Want) → option_map_or is_fair (entry_want w) true ≡ true
fair_entry (Member k required) = fair_entry_kind k
fair_entry w = refl

fair_at : (u : Data) (p : List Step) (a : Asked) → asked_at u p ≡ Some a → is_fair a.want ≡ true
fair_at u p a e = all_pass is_fair is_fair_kind fair_of_kind fair_rows refl refl refl (λ r. refl) refl refl (λ w h. fair_entry w)
    (asked (Object role.Report) u) p a refl e

-- ---- arrays

same_length : (n : Style) (w : Want) (ds : List Data) → length (entries_in_order n w ds) ≡ length ds
same_length n w ds = at (Rattle.erd_check.specs.Wants.is_table_set w)
  where
    at : (b : Bool) → length (if b then rising_list (n.cmp w) ds else ds) ≡ length ds
    at true = length-rising (n.cmp w) ds
    at false = refl

-- a value that is written is an empty array if the value is one
empty_viewed : (n : Style) (o : Data) (w : Want) (d : Data) → is_empty_array (view n o (Some w) d) ≡ is_empty_array d
empty_viewed n o w null = refl
empty_viewed n o w (boolean b) = refl
empty_viewed n o w (number k) = refl
empty_viewed n o w (string s) = refl
empty_viewed n o w (object ms) = refl
empty_viewed n o w (array ds) =
    as_empty (array ds) (map (λ (p : Data × Data). p.1) (set_in_order n w (view_entries n o (entry_want w) ds))) refl
    (ap length (written_entries n o w ds) ∙ length-map (entries_in_order n w (list_of_items ds)) (view n o (entry_want w)) ∙ same_length n w (list_of_items ds))

flat_full : (d : Data) → is_flat d ≡ true → is_empty_array d ≡ false
flat_full (array ds) h = cc
flat_full d h = refl

put_flat : (ps : List (List ℕ × Data)) (k : List ℕ) (x : Data) → Rattle.erd_normal.proofs.Common.AllByRecursion (λ p. is_flat p.1 ≡ true) ps
    → In (k, x) ps → is_flat x ≡ true
put_flat ps k x flat h = In-all (λ (p : List ℕ × Data). is_flat p.1 ≡ true) (k, x) ps flat h

module _ (t : Data) (clean : NoneOf (ShapeFault t)) where
  -- no value of another kind is an empty array
  other_full : (k : MemberKind) (r : Bool) (d : Data) → is_fair (Member k r) ≡ true → is_dropped (Some (Member k r)) d ≡ false → Within t (asked (Member k r) d)
      → is_empty_array d ≡ false
  other_full kind.Identity r d fair read w = cc
  other_full kind.StrangeReference r d fair read w = absurd (no_unknown t clean d r w)
  other_full kind.StrangeIdentity r d fair read w = absurd (no_strange t clean d r w)
  other_full kind.Word r (array ds) fair read w = let x : false ≡ true = wanted_within t clean (asked (Member kind.Word r) (array ds)) w in cc
  other_full kind.Flag r (array ds) fair read w = let x : false ≡ true = wanted_within t clean (asked (Member kind.Flag r) (array ds)) w in cc
  other_full kind.Whole r (array ds) fair read w = let x : false ≡ true = wanted_within t clean (asked (Member kind.Whole r) (array ds)) w in cc
  other_full kind.Label r (array ds) fair read w = let x : false ≡ true = wanted_within t clean (asked (Member kind.Label r) (array ds)) w in cc
  other_full (kind.One f) r (array ds) fair read w = cc
  other_full kind.Carried r (array ds) fair read w = cc
  other_full kind.ClassText r (array ds) fair read w = cc
  other_full k r (array ds) fair read w = read
  other_full k r d fair read w = refl

-- the objects of one family or the other
keyed_or_selection : (f : Family) → (has_keys f ≡ true) ⊎ (f ≡ family.Selection)
keyed_or_selection family.Selection = inr refl
keyed_or_selection d = inl refl

module _ (π : Preference) (t : Data) (accepted : IsAccepted π t) (tree : IsTree t) where
  abbrev u : Data
  u = whole (style_of π t) t

  abbrev clean : NoneOf (ShapeFault t)
  clean = no_shape_fault π t accepted

  abbrev s : Skeleton t
  s = skeleton_of_shape t clean

  -- ---- the envelope

  report_tree : IsTree (object s.ms)
  report_tree = subst IsTree s.is_object tree

  pub known : class_of_object role.Report u ≡ Some class.ElectionReport
  known =
      ap (λ x. class_of_object role.Report (view (style_of π t) null (Some (Object role.Report)) x)) s.is_object
      ∙ class_kept (style_of π t) (IsHeld t) (goes_inward t clean tree) (puts_no_type π t) (puts_flat π t) role.Report null (Object role.Report) s.ms refl
      report_tree ∙ s.report.among

  under : (name : List ℕ) → get name u ≡ put_value envelope_values name
      (option_and_then (viewed (style_of π t) (object s.ms) (scope_inside (Object role.Report) (object s.ms)) name) (get_member name s.ms))
  under name =
      ap (λ x. get name (view (style_of π t) null (Some (Object role.Report)) x)) s.is_object
      ∙ get_view (style_of π t) (object s.ms) (scope_inside (Object role.Report) (object s.ms)) envelope_values name s.ms report_tree

  left_out : (name : List ℕ) → is_envelope_name name ≡ true → (found : Option Data)
      → option_and_then (viewed (style_of π t) (object s.ms) (scope_inside (Object role.Report) (object s.ms)) name) found ≡ None
  left_out name is None = refl
  left_out name is (Some d) =
      let r : Scope = scope_inside (Object role.Report) (object s.ms) in
      let here : is_envelope r name ≡ true = ap (λ c. is_envelope (scope.Members role.Report c) name) s.report.among ∙ is in
      ap (λ b. if b || is_dropped (want_of_name r name) d then None else Some (view (style_of π t) (object s.ms) (want_of_name r name) d)) here

  pub has_envelope : HasCanonicalEnvelope (whole (style_of π t) t)
  has_envelope = record {
    format = under (codes "Format");
    date = under (codes "GeneratedDate");
    issuer = under (codes "Issuer");
    abbreviation = under (codes "IssuerAbbreviation");
    application = under (codes "VendorApplicationId");
    start = under (codes "SequenceStart");
    end = under (codes "SequenceEnd");
    notes = under (codes "Notes") ∙ left_out (codes "Notes") refl (get_member (codes "Notes") s.ms);
    identifiers = under (codes "ExternalIdentifier") ∙ left_out (codes "ExternalIdentifier") refl (get_member (codes "ExternalIdentifier") s.ms);
  }

  -- ---- no empty array

  full_at : (w : Want) (x : Data) (k : MemberKind) → is_fair w ≡ true → IsViewOf (style_of π t) (IsHeld t) w x → kind_wanted w ≡ Some k
      → is_empty_array x ≡ false
  full_at w x k fair (of_put o v ms l h put asks) e = flat_full x (put_flat (puts_of π t o v (object ms)) l x (puts_flat π t o v (object ms)) put)
  full_at w x k fair (of_value o d h read is) e =
      let m = member_wanted w k e in
      let h' : IsHeld t o (Member k m.0) d = subst (λ v. IsHeld t o v d) m.1 h in
      ap is_empty_array is ∙ empty_viewed (style_of π t) o w d
      ∙ other_full t clean k m.0 d (subst (λ v. is_fair v ≡ true) m.1 fair) (subst (λ v. is_dropped (Some v) d ≡ false) m.1 read)
      (unrepeated t clean (Member k m.0) d h'.stands.repeated refl h'.stands.inside)

  pub no_empty_array : HasNoEmptyArray (whole (style_of π t) t)
  no_empty_array p a k e want = full_at a.want a.value k (fair_at u p a e) (asked_in_form π t clean tree p a e) want

  module _ (bounded : IsBounded t) where
    -- ---- distinct `@id`s

    both_keyed : (f g : Family) (o p : Placed) (id : List ℕ) → has_keys f ≡ true → has_keys g ≡ true → In o (objects f u) → In p (objects g u) → id_of o.value
        ≡ Some id → id_of p.value ≡ Some id → o ≡ p
    both_keyed f g o p id keyed keyed' in_o in_p e h =
        let n = canonical_id_exact f g _ _ id (rank_counted π t accepted tree bounded f keyed o in_o) (rank_counted π t accepted tree bounded g keyed' p in_p)
        (sym (ids_by_rank π t accepted tree bounded f keyed o in_o) ∙ e) (sym (ids_by_rank π t accepted tree bounded g keyed' p in_p) ∙ h) in
        one_ranked π t accepted tree bounded f keyed o p in_o (subst (λ x. In p (objects x u)) (sym n.0) in_p)
        (n.1 ∙ ap (λ x. rank_of π u x (key_of π p.value)) (sym n.0))

    one_a_selection : (f : Family) (o p : Placed) (id : List ℕ) → has_keys f ≡ true → In o (objects f u) → In p (objects family.Selection u) → id_of o.value
        ≡ Some id → id_of p.value ≡ Some id → ⊥
    one_a_selection f o p id keyed in_o in_p e h =
        let c = In-flat_map_from selections_of_contest (contests u) p in_p in
        let j = position_of (selections_of_contest c.0) p c.2 in
        let its = (has_canonical_ids π t accepted tree bounded).selections j.0 c.0 p (contains_from_In c.0 (objects family.Contest u) c.1) j.1 in
        selection_id_apart f _ j.0 _ (sym (ids_by_rank π t accepted tree bounded f keyed o in_o) ∙ e ∙ sym h ∙ its)

    both_selections : (o p : Placed) (id : List ℕ) → In o (objects family.Selection u) → In p (objects family.Selection u) → id_of o.value ≡ Some id
        → id_of p.value ≡ Some id → o ≡ p
    both_selections o p id in_o in_p e h =
        let c = In-flat_map_from selections_of_contest (contests u) o in_o in
        let d = In-flat_map_from selections_of_contest (contests u) p in_p in
        one_selection π t accepted tree bounded c.0 d.0 o p c.1 d.1 c.2 d.2 (e ∙ sym h)

    one_object : (f g : Family) (o p : Placed) (id : List ℕ) → In o (objects f u) → In p (objects g u) → id_of o.value ≡ Some id
        → id_of p.value ≡ Some id → o ≡ p
    one_object f g o p id in_o in_p e h = at (keyed_or_selection f) (keyed_or_selection g)
      where
        at : (has_keys f ≡ true) ⊎ (f ≡ family.Selection) → (has_keys g ≡ true) ⊎ (g ≡ family.Selection) → o ≡ p
        at (inl k) (inl l) = both_keyed f g o p id k l in_o in_p e h
        at (inl k) (inr is) = absurd (one_a_selection f o p id k in_o (subst (λ x. In p (objects x u)) is in_p) e h)
        at (inr is) (inl l) = absurd (one_a_selection g p o id l in_p (subst (λ x. In o (objects x u)) is in_o) h e)
        at (inr is) (inr its) = both_selections o p id (subst (λ x. In o (objects x u)) is in_o) (subst (λ x. In p (objects x u)) its in_p) e h

    pub distinct_ids : HasDistinctIds (whole (style_of π t) t)
    distinct_ids p r =
        let one : r.earlier ≡ r.later =
        one_object r.earlier_family r.family r.earlier r.later r.id (In-from_contains r.earlier (objects r.earlier_family u) r.earlier_stands)
        (In-from_contains r.later (objects r.family u) r.later_stands) r.earlier_id r.later_id in
        not_before_itself r.earlier r.later one r.before

    -- ---- sets in order

    abbrev m : Sides
    m = Rattle.erd_normal.proofs.view.ViewIds.m π t accepted tree bounded

    module _ (o : Data) (w : Want) (set : Rattle.erd_check.specs.Wants.is_table_set w ≡ true) (ds : Items) (h : IsHeld t o w (array ds))
        (there : Stands u w (view (style_of π t) o (Some w) (array ds))) where
      viewed_entries : entries_of (view (style_of π t) o (Some w) (array ds)) ≡ map (view (style_of π t) o (entry_want w))
          (rising_list ((style_of π t).cmp w) (list_of_items ds))
      viewed_entries = entries_viewed (style_of π t) o w ds ∙ ap
          (λ b. map (view (style_of π t) o (entry_want w)) (if b then rising_list ((style_of π t).cmp w) (list_of_items ds) else list_of_items ds)) set

      -- an entry and what is written of it
      entry_related : (v : Want) (e : Data) → entry_want w ≡ Some v → In e (list_of_items ds) → Related m v e (view (style_of π t) o (Some v) e)
      entry_related v e asks inside =
          let p = list_of_items-place ds e inside in
          view_related π t accepted tree bounded o v e ((goes_inward t clean tree).entries o w v ds p.0 e h asks p.1)
          (subst (λ a. is_dropped a e ≡ false) asks (entry_kept w e))
          (entry_stands u w v (view (style_of π t) o (Some w) (array ds)) asks there (view (style_of π t) o (Some v) e)
          (subst (λ xs. In (view (style_of π t) o (Some v) e) xs) (sym viewed_entries)
          (subst (λ a. In (view (style_of π t) o (Some v) e) (map (view (style_of π t) o a) (rising_list ((style_of π t).cmp w) (list_of_items ds)))) (sym asks)
          (In-map (view (style_of π t) o (Some v)) e (rising_list ((style_of π t).cmp w) (list_of_items ds))
          (rising-In ((style_of π t).cmp w) e (list_of_items ds) inside)))))

      -- what is told of the entries that are written is what is told of the entries in order
      told : {K : Type 0} (g g' : Data → K) (v : Want) → entry_want w ≡ Some v
          → ((e : Data) → In e (list_of_items ds) → Related m v e (view (style_of π t) o (Some v) e) → g' (view (style_of π t) o (Some v) e) ≡ g e)
          → map g' (entries_of (view (style_of π t) o (Some w) (array ds))) ≡ map g (rising_list ((style_of π t).cmp w) (list_of_items ds))
      told g g' v asks each =
          ap (map g') (viewed_entries ∙ ap (λ a. map (view (style_of π t) o a) (rising_list ((style_of π t).cmp w) (list_of_items ds))) asks)
          ∙ sym (map_after (view (style_of π t) o (Some v)) g' (rising_list ((style_of π t).cmp w) (list_of_items ds)))
          ∙ maps_agree (λ e. g' (view (style_of π t) o (Some v) e)) g (rising_list ((style_of π t).cmp w) (list_of_items ds))
          (λ e i. let inside = In-rising ((style_of π t).cmp w) e (list_of_items ds) i in each e inside (entry_related v e asks inside))

    inside : (w : Want) (d : Data) → Rattle.erd_check.specs.Faults.is_reference w ≡ false → Stands t w d → Within t (asked w d)
    inside w d is st = unrepeated t clean w d st.repeated is st.inside

    values_rising : HasFittingNumbers t → (k : MemberKind) (r : Bool) (q : Role) → entry_want (Member k r) ≡ Some (Object q) → is_compared_set (Member k r)
        ≡ true → ((c : Class) → role_of_class c ≡ q → is_simple_class c ≡ true)
        → (ds : Items) → Within t (asked (Member k r) (array ds)) → IsStrictlySortedBy compact_cmp (rising_list compact_cmp (list_of_items ds))
    values_rising fits k r q entries compared simple ds w =
        values_rise π t accepted k r q entries compared simple ds w (within-tree t (asked (Member k r) (array ds)) tree w)
        (within-fitting t (asked (Member k r) (array ds)) fits w)

    reference_key : (f : Family) (d e : Data) → Stands t (Reference f) d → Related m (Reference f) d e → option_and_then (key_named π u f) (as_str e)
        ≡ key_named π t f (text_of d)
    reference_key f d e st r =
        let x : Refers t f d =
        reference_refers π t accepted f d (Rattle.erd_normal.proofs.Common.unrepeated_reference π t accepted f d st.repeated st.inside) in
        sym (key_alike m π (both π t accepted tree bounded) f d e r) ∙ ap (λ y. option_and_then (key_named π t f) (as_str y)) x.1
        ∙ ap (λ y. key_named π t f (text_of y)) (sym x.1)

    keyed_rises : (f : Family) (xs : List Data) → has_keys f ≡ true → IsStrictlySortedBy (option_cmp key_cmp) (keys_of π xs) → RisesAs π u (kind.Keyed f) xs
    keyed_rises family.Selection xs keyed h = cc
    keyed_rises f xs keyed h = h

    rises : HasFittingNumbers t → (o : Data) (k : MemberKind) (r : Bool) (ds : Items) → IsHeld t o (Member k r) (array ds)
        → Stands u (Member k r) (view (style_of π t) o (Some (Member k r)) (array ds))
        → RisesAs π u k (entries_of (view (style_of π t) o (Some (Member k r)) (array ds)))
    rises fits o (kind.Keyed family.Selection) r ds h there =
        let c = h.contest in
        subst (IsStrictlySortedBy (option_cmp name_cmp))
        (sym (told o (Member (kind.Keyed family.Selection) r) refl ds h there (name_of π t) (name_of π u) (Object selection_role) refl
        (λ e i q. sym (name_alike m π (both π t accepted tree bounded) e _ q))))
        (subst (λ xs. IsStrictlySortedBy (option_cmp name_cmp) (map (name_of π t) (rising_list (by_name π t) xs))) (ap (λ f. option_map_or entries_of f []) c.3)
        (selections_rise π t accepted c.0 c.1))
    rises fits o (kind.Keyed f) r ds h there =
        keyed_rises f (entries_of (view (style_of π t) o (Some (Member (kind.Keyed f) r)) (array ds))) refl
        (subst (IsStrictlySortedBy (option_cmp key_cmp))
        (sym (told o (Member (kind.Keyed f) r) refl ds h there (key_of π) (key_of π) (Object (role.OfFamily f)) refl
        (λ e i q. sym (one_key π t accepted tree bounded f e _ q))))
        (objects_rise π t accepted f refl (list_of_items ds) h.contest))
    rises fits o kind.Elections r ds h there =
        subst (IsStrictlySortedBy (option_cmp key_cmp))
        (sym (told o (Member kind.Elections r) refl ds h there (key_of π) (key_of π) (Object role.Election) refl
        (λ e i q. sym (related_election_key m tree (viewed_tree π t tree) clean π e _ q))))
        (subst (λ xs. IsStrictlySortedBy (option_cmp key_cmp) (map (key_of π) (rising_list (by_key π) xs))) (sym h.contest) (elections_rise π t accepted))
    rises fits o (kind.Many f) r ds h there =
        subst (IsStrictlySortedBy (option_cmp key_cmp))
        (sym (told o (Member (kind.Many f) r) refl ds h there (λ d. key_named π t f (text_of d)) (λ d. option_and_then (key_named π u f) (as_str d))
        (Reference f) refl (λ e i q. reference_key f e _ q.left q)))
        (references_rise π t accepted f (part_of t (Member (kind.Many f) r) (array ds) h.stands) r ds
        (inside (Member (kind.Many f) r) (array ds) refl h.stands))
    rises fits o kind.Identifiers r ds h there =
        subst (IsStrictlySortedBy compact_cmp)
        (sym (sym (Rattle.erd_normal.proofs.Common.map-id (entries_of (view (style_of π t) o (Some (Member kind.Identifiers r)) (array ds))))
        ∙ told o (Member kind.Identifiers r) refl ds h there (λ d. d) (λ d. d) (Object role.Identifier) refl (λ e i q. sym (steady_same m q.same refl))
        ∙ Rattle.erd_normal.proofs.Common.map-id (rising_list compact_cmp (list_of_items ds))))
        (values_rising fits kind.Identifiers r role.Identifier refl refl identifier_simple ds (inside (Member kind.Identifiers r) (array ds) refl h.stands))
    rises fits o kind.Languages r ds h there =
        subst (IsStrictlySortedBy compact_cmp)
        (sym (sym (Rattle.erd_normal.proofs.Common.map-id (entries_of (view (style_of π t) o (Some (Member kind.Languages r)) (array ds))))
        ∙ told o (Member kind.Languages r) refl ds h there (λ d. d) (λ d. d) (Object role.Language) refl (λ e i q. sym (steady_same m q.same refl))
        ∙ Rattle.erd_normal.proofs.Common.map-id (rising_list compact_cmp (list_of_items ds))))
        (values_rising fits kind.Languages r role.Language refl refl language_simple ds (inside (Member kind.Languages r) (array ds) refl h.stands))
    rises fits o k r ds h there = tt

    set_order : HasFittingNumbers t → (o : Data) (k : MemberKind) (r : Bool) (d : Data) → is_array d ≡ true → IsHeld t o (Member k r) d
        → Stands u (Member k r) (view (style_of π t) o (Some (Member k r)) d) → RisesAs π u k (entries_of (view (style_of π t) o (Some (Member k r)) d))
    set_order fits o k r d is h there =
        let ds = array_from d is in
        subst (λ x. Stands u (Member k r) (view (style_of π t) o (Some (Member k r)) x)
        → RisesAs π u k (entries_of (view (style_of π t) o (Some (Member k r)) x))) (sym ds.1)
        (λ there. rises fits o k r ds.0 (subst (IsHeld t o (Member k r)) ds.1 h) there) there

    order_of : HasFittingNumbers t → (o : Data) (k : MemberKind) (r : Bool) (d : Data) → IsHeld t o (Member k r) d
        → Stands u (Member k r) (view (style_of π t) o (Some (Member k r)) d) → RisesAs π u k (entries_of (view (style_of π t) o (Some (Member k r)) d))
    order_of fits o (kind.Keyed f) r d h there =
        set_order fits o (kind.Keyed f) r d (wanted_within t clean (asked (Member (kind.Keyed f) r) d) (inside (Member (kind.Keyed f) r) d refl h.stands)) h
        there
    order_of fits o (kind.Many f) r d h there =
        set_order fits o (kind.Many f) r d (wanted_within t clean (asked (Member (kind.Many f) r) d) (inside (Member (kind.Many f) r) d refl h.stands)) h there
    order_of fits o kind.Elections r d h there =
        set_order fits o kind.Elections r d (wanted_within t clean (asked (Member kind.Elections r) d) (inside (Member kind.Elections r) d refl h.stands)) h
        there
    order_of fits o kind.Identifiers r d h there = set_order fits o kind.Identifiers r d
        (wanted_within t clean (asked (Member kind.Identifiers r) d) (inside (Member kind.Identifiers r) d refl h.stands)) h there
    order_of fits o kind.Languages r d h there =
        set_order fits o kind.Languages r d (wanted_within t clean (asked (Member kind.Languages r) d) (inside (Member kind.Languages r) d refl h.stands)) h
        there
    order_of fits o k r d h there = tt

    put_rises : (w : Want) (k : MemberKind) (xs : List Data) → is_of_member w ≡ true → kind_wanted w ≡ Some k → RisesAs π u k xs
    put_rises (Member kind.Identity r) k xs is e = let same : kind.Identity ≡ k = cc in subst (λ q. RisesAs π u q xs) same tt
    put_rises (Member kind.Word r) k xs is e = let same : kind.Word ≡ k = cc in subst (λ q. RisesAs π u q xs) same tt
    put_rises (Member kind.Whole r) k xs is e = let same : kind.Whole ≡ k = cc in subst (λ q. RisesAs π u q xs) same tt
    put_rises w k xs is e = cc

    order_at : HasFittingNumbers t → (w : Want) (x : Data) (k : MemberKind) → Stands u w x → IsViewOf (style_of π t) (IsHeld t) w x → kind_wanted w ≡ Some k
        → RisesAs π u k (entries_of x)
    order_at fits w x k there (of_put o v ms l h put asks) e = put_rises w k (entries_of x) (put_wants π t accepted tree o v w ms l x h put asks) e
    order_at fits w x k there (of_value o d h read is) e =
        let q = member_wanted w k e in
        subst (λ y. RisesAs π u k (entries_of y)) (sym (is ∙ ap (λ v. view (style_of π t) o (Some v) d) q.1))
        (order_of fits o k q.0 d (subst (λ v. IsHeld t o v d) q.1 h)
        (subst (λ v. Stands u v (view (style_of π t) o (Some v) d)) q.1 (subst (Stands u w) is there)))

    pub sets_in_order : HasFittingNumbers t → AreSetsInOrder π (whole (style_of π t) t)
    sets_in_order fits p a k e want = order_at fits a.want a.value k (record { repeated = a.repeated; inside = record { place = p; is = e } })
        (asked_in_form π t clean tree p a e) want

    -- ---- the canonical form

    pub form_written : HasFittingNumbers t → IsCanonicalFormOf π t (whole (style_of π t) t)
    form_written fits = record {
      canonical = record {
        accepted = same_is_accepted π t u tree (viewed_tree π t tree) accepted (view_says π t accepted tree bounded)
            (sound_envelope u known has_envelope) distinct_ids;
        envelope = has_envelope;
        no_empty_array = no_empty_array;
        in_order = sets_in_order fits;
        ids = has_canonical_ids π t accepted tree bounded;
      };
      same = saying_the_same_means_the_same π t u tree (viewed_tree π t tree) accepted (view_says π t accepted tree bounded);
    }

    -- it is the one canonical form
    pub only_form_written : HasFittingNumbers t → (v : Data) → IsTree v → IsCanonicalFormOf π t v → v ≡ whole (style_of π t) t
    only_form_written fits v v_tree form = unique π v (whole (style_of π t) t) (record {
      left_tree = v_tree;
      right_tree = viewed_tree π t tree;
      left = form.canonical;
      right = (form_written fits).canonical;
      same = form.same ∙ sym (form_written fits).same;
    })

    pub whole_written : HasFittingNumbers t → has_float (whole (style_of π t) t) ≡ false
    whole_written fits = no_fraction u (no_shape_fault π u (form_written fits).canonical.accepted) (tree_in_order (Object role.Report) u (viewed_tree π t tree))

-- ---- the numbers in what is written fit

put_id_fits : (q : Option (List ℕ)) → AllByRecursion (λ (p : List ℕ × Data). IsFitting p.1) (as_member q)
put_id_fits (Some id) = ((tt, tt), tt)
put_id_fits None = tt

puts_fit : (π : Preference) (t o : Data) (w : Want) (d : Data) → AllByRecursion (λ (p : List ℕ × Data). IsFitting p.1) (puts_of π t o w d)
puts_fit π t o (Object role.Report) d =
    let small : 1 < 2 ^ 64 = omega arith in ((tt, tt), ((tt, tt), ((tt, tt), ((tt, tt), ((tt, small), ((tt, small), ((tt, tt), tt)))))))
puts_fit π t o (Object (role.OfFamily f)) d = put_id_fits (id_given π t o f d)
puts_fit π t o w d = tt

pub view_fits : (π : Preference) (t : Data) → IsTree t → HasFittingNumbers t → HasFittingNumbers (whole (style_of π t) t)
view_fits π t tree fits = (view-holds IsFitting fitting_partwise (style_of π t) (puts_fit π t) null (Some (Object role.Report)) t (tree, fits)).1

-- canonical forms say what their reports say
pub form_says : CanonicalSaysTheSame
form_says π t u given u_tree accepted form =
    subst (SaysTheSame t) (sym (only_form_written π t accepted given.is_tree given.bounded given.fits u u_tree form))
    (view_says π t accepted given.is_tree given.bounded)

-- ---- it is nested no deeper

put_id_flat : (q : Option (List ℕ)) → AllByRecursion (λ (p : List ℕ × Data). depth p.1 ≡ 0) (as_member q)
put_id_flat (Some id) = (refl, tt)
put_id_flat None = tt

puts_low : (π : Preference) (t o : Data) (w : Want) (d : Data) → AllByRecursion (λ (p : List ℕ × Data). depth p.1 ≡ 0) (puts_of π t o w d)
puts_low π t o (Object role.Report) d = (refl, (refl, (refl, (refl, (refl, (refl, (refl, tt)))))))
puts_low π t o (Object (role.OfFamily f)) d = put_id_flat (id_given π t o f d)
puts_low π t o w d = tt

pub no_deeper_form : (π : Preference) (t : Data) → IsNoDeeper (whole (style_of π t) t) t
no_deeper_form π t = no_deeper (style_of π t) (puts_low π t) null (Some (Object role.Report)) t
