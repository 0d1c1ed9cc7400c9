-- What is written of the value of a member without objects, and of the order of a ballot, is its view.
use Rattle.erd_normal.proofs.Common.{◌≡◌, ℕ, zero, suc, Bool, true, false, ◌||◌, ◌&&◌, List, [], ◌∷◌, map, if◌then◌else◌, Some, None, codes, Option}
use Rattle.erd_normal.proofs.Common.{option_map_or, bytes_eq, not-false, sym, refl, ap, ap₂, ◌∙◌, subst, Data, null, boolean, string, number, array, object}
use Rattle.erd_normal.proofs.Common.{Items, no_items, item, Members, no_members, member, put, get_member, get_item, items_of, kind_of_member, is_required}
use Rattle.erd_normal.proofs.Common.{is_report_class, role_of_class, Class, class, Family, family, Role, role, MemberKind, kind, reason, IsTree, In-all}
use Rattle.erd_normal.proofs.Common.{faultless, wanted_within, kind_of_class, want_unless_status, member_within, of_role, object_in, ObjectIn, ObjectAt}
use Rattle.erd_normal.proofs.Common.{ShapeFault, NoneOf, entries_of, entries_at, list_of_items, is_array, is_empty_array, class_of_object, scope_inside}
use Rattle.erd_normal.proofs.Common.{want_of_kind, member_want, want_of_name, entry_want, asked, Within, scope, Scope, Want, Carried, ClassText, Member, Object}
use Rattle.erd_normal.proofs.Common.{Reference, Status, IsAccepted, no_shape_fault, Preference, is_envelope, normal_value, normal_reference}
use Rattle.erd_normal.proofs.Common.{normal_selection_reference, normal_content, normal_nodes, normal_node, normal_node_members, normal_node_value}
use Rattle.erd_normal.proofs.Common.{normal_members, reference_cmp, compact_cmp, rising_list, with_rising_text, array_of, within-tree, members_unique}
use Rattle.erd_normal.proofs.Common.{found_cases, get_member-first, get_member-later, kind_of_type, kind_of_unlisted_has, text_exact, class_role}
use Rattle.erd_normal.proofs.Common.{option_and_then, In-rising, AreMembers, unless_empty, unless_by_test}
use Rattle.erd_check.specs.Wants.{is_table_set}
use Rattle.erd_normal.proofs.inside.Members.{Builder, each_member, normal_members_each, normal_node_members_each, node_value, value_in_class}
use Rattle.erd_normal.proofs.inside.Entries.{entry_asked, entries_asked}
use Rattle.erd_normal.proofs.inside.Homes.{status_kind, is_prefixed}
use Rattle.erd_normal.proofs.inside.RisingLabels.{get_label-other, with_rising_text-tree, BuiltLabel, built_label}
use Rattle.erd_normal.proofs.lists.Lists.{maps_agree}
use Rattle.erd_normal.proofs.same.IdsOfObjects.{Refers, reference_refers, references_refer}
use Rattle.erd_normal.proofs.inside.Walks.{closed_names, is_apart_role, is_closed, known_passes}
use Rattle.erd_normal.proofs.view.Views.{viewed, get_view, view_members_each, view-tree, written_entries, second}
use Rattle.erd_normal.proofs.view.CanonicalStyles.{Classed, apart, classed, puts_trees}
use Rattle.erd_normal.specs.code.View.{is_dropped, view, view_entries, view_members, style_of, puts_of, text_for}

-- ---- what stays as it is

abbrev pub is_still_kind : MemberKind → Bool
is_still_kind kind.Identity = false
is_still_kind kind.Label = false
is_still_kind (kind.One f) = false
is_still_kind (kind.Many f) = false
is_still_kind kind.Identifiers = false
is_still_kind kind.Languages = false
is_still_kind (kind.Keyed f) = false
is_still_kind kind.Elections = false
is_still_kind kind.Content = false
is_still_kind kind.Ordered = false
is_still_kind kind.Outside = false
is_still_kind k = true

abbrev pub is_still : Want → Bool
is_still (Object r) = is_apart_role r
is_still (Reference f) = false
is_still (Member k required) = is_still_kind k
is_still w = true

abbrev pub AllStill : Option Want → Type 0
AllStill o = option_map_or is_still o true ≡ true

still_of_kind : (k : MemberKind) (required : Bool) → is_still_kind k ≡ true → is_still (want_of_kind k required) ≡ true
still_of_kind kind.Carried required e = e
still_of_kind k required e = e

still_closed : (w : Want) → is_still w ≡ true → is_closed w ≡ true
still_closed (Object r) p = p
still_closed (Member kind.Label required) p = p
still_closed w p = refl

still_scope : (w : Want) (ms : Members) → is_still w ≡ true → (name : List ℕ) → AllStill (want_of_name (scope_inside w (object ms)) name)
still_scope w ms p = closed_names is_still is_still_kind still_of_kind (λ r. refl) refl refl refl refl refl w ms (still_closed w p)

still_entry : (w : Want) → is_still w ≡ true → AllStill (entry_want w)
still_entry (Member kind.Content required) p = cc
still_entry w p = cc

still_list : (w : Want) → is_still w ≡ true → is_table_set w ≡ false
still_list (Member kind.Elections required) p = cc
still_list w p = cc

still_kept : (a : Option Want) (d : Data) → AllStill a → is_dropped a d ≡ false
still_kept (Some (Member kind.Identity r)) d p = cc
still_kept a d p = cc

still_apart : (r : Role) (o : Option Class) (ms : Members) (name : List ℕ) → is_apart_role r ≡ true → class_of_object r (object ms) ≡ o
    → is_envelope (scope.Members r o) name ≡ false
still_apart r (Some class.ElectionReport) ms name p among = let x : is_apart_role role.Report ≡ true =
    ap is_apart_role (class_role r (object ms) class.ElectionReport among) ∙ p in cc
still_apart r o ms name p among = refl

no_envelope : (w : Want) (ms : Members) → is_still w ≡ true → (name : List ℕ) → is_envelope (scope_inside w (object ms)) name ≡ false
no_envelope (Object r) ms p name = still_apart r (class_of_object r (object ms)) ms name p refl
no_envelope (Member kind.Label required) ms p name = cc
no_envelope w ms p name = refl

module _ (π : Preference) (t : Data) where
  still_puts : (o : Data) (w : Want) (d : Data) → is_still w ≡ true → puts_of π t o w d ≡ []
  still_puts o (Object role.Report) d p = cc
  still_puts o (Object (role.OfFamily f)) d p = cc
  still_puts o w d p = refl

  still_text : (w : Want) (s : List ℕ) → is_still w ≡ true → text_for (style_of π t) w s ≡ s
  still_text (Reference f) s p = cc
  still_text w s p = refl

  mutual
    pub still : (o : Data) (a : Option Want) (d : Data) → AllStill a → view (style_of π t) o a d ≡ d
    still o None d p = refl
    still o (Some w) null p = refl
    still o (Some w) (boolean b) p = refl
    still o (Some w) (number k) p = refl
    still o (Some w) (string s) p = ap string (still_text w s p)
    still o (Some w) (array ds) p =
        ap (λ b. array
        (items_of
        (map second (if b then rising_list (λ (x y : Data × Data). (style_of π t).cmp w x.0 y.0) (view_entries (style_of π t) o (entry_want w) ds)
        else view_entries (style_of π t) o (entry_want w) ds)))) (still_list w p) ∙ ap array (still_items o (entry_want w) ds (still_entry w p))
    still o (Some w) (object ms) p =
        ap (λ ps. object (Rattle.erd_normal.proofs.Common.put_all ps (view_members (style_of π t) (object ms) (scope_inside w (object ms)) ms)))
        (still_puts o w (object ms) p) ∙ ap object (still_members (object ms) (scope_inside w (object ms)) ms (still_scope w ms p) (no_envelope w ms p))

    still_items : (o : Data) (a : Option Want) (ds : Items) → AllStill a → items_of (map second (view_entries (style_of π t) o a ds)) ≡ ds
    still_items o a no_items p = refl
    still_items o a (item d ds) p = ap₂ item (still o a d p) (still_items o a ds p)

    still_members : (o : Data) (s : Scope) (ms : Members) → ((k : List ℕ) → AllStill (want_of_name s k)) → ((k : List ℕ) → is_envelope s k ≡ false)
        → view_members (style_of π t) o s ms ≡ ms
    still_members o s no_members p q = refl
    still_members o s (member k d ms) p q =
        ap (λ b. option_map_or (λ v. member k v (view_members (style_of π t) o s ms)) (if b then None else Some (view (style_of π t) o (want_of_name s k) d))
        (view_members (style_of π t) o s ms))
        (ap₂ (λ a b. a || b) (q k) (still_kept (want_of_name s k) d (p k))) ∙ ap₂ (member k) (still o (want_of_name s k) d (p k)) (still_members o s ms p q)

-- ---- what becomes of a value of which this is asked, or none if it is left out

abbrev pub kept_view : Preference → Data → Data → Option Want → Data → Option Data
kept_view π t o a d = if is_dropped a d then None else Some (view (style_of π t) o a d)

-- a value that is left out if it is an empty array is left out in the view too
pub left_out_as : {v x : Data} (d : Data) → v ≡ x → unless_empty v d ≡ (if is_empty_array d then None else Some x)
left_out_as {v} d same = unless_by_test v d ∙ ap (λ v. if is_empty_array d then None else Some v) same

abbrev pub is_flat_kind : MemberKind → Bool
is_flat_kind kind.ClassText = false
is_flat_kind (kind.One f) = is_prefixed f
is_flat_kind (kind.Many f) = is_prefixed f
is_flat_kind (kind.Keyed f) = false
is_flat_kind kind.Elections = false
is_flat_kind kind.Content = false
is_flat_kind k = true

abbrev pub is_node_flat : MemberKind → Bool
is_node_flat kind.Content = true
is_node_flat k = is_flat_kind k

still_beside : (k : List ℕ) → bytes_eq k (codes "Text") ≡ false → AllStill (want_of_name (scope.Members role.Label (Some class.InternationalizedText)) k)
still_beside k other =
    known_passes is_still role.Label class.InternationalizedText k refl
    (λ e. still_of_kind (kind_of_member class.InternationalizedText k) _
    (rw other (kind_of_unlisted_has is_still_kind class.InternationalizedText k e refl refl refl)))

module _ (π : Preference) (t : Data) (accepted : IsAccepted π t) (tree : IsTree t) where
  abbrev clean : NoneOf (ShapeFault t)
  clean = no_shape_fault π t accepted

  -- ---- references

  pub reference_viewed : (f : Family) → is_prefixed f ≡ true → (o d : Data) (s : List ℕ) → d ≡ string s → normal_reference π t f d
      ≡ view (style_of π t) o (Some (Reference f)) d
  reference_viewed family.Selection named o d s is = cc
  reference_viewed family.Style named o d s is = cc
  reference_viewed f named o d s is = subst (λ x. normal_reference π t f x ≡ view (style_of π t) o (Some (Reference f)) x) (sym is) refl

  selection_viewed : (o d : Data) (s : List ℕ) → d ≡ string s → normal_selection_reference π t d ≡ view (style_of π t) o (Some (Reference family.Selection)) d
  selection_viewed o d s is = subst (λ x. normal_selection_reference π t x ≡ view (style_of π t) o (Some (Reference family.Selection)) x) (sym is) refl

  many_viewed : (f : Family) → is_prefixed f ≡ true → (o : Data) (r : Bool) (d : Data) → is_array d ≡ true → Within t (asked (Member (kind.Many f) r) d)
      → array_of (map (normal_reference π t f) (rising_list (reference_cmp π t f) (entries_of d))) ≡ view (style_of π t) o (Some (Member (kind.Many f) r)) d
  many_viewed f named o r (array ds) is w =
      ap array_of
      (maps_agree (normal_reference π t f) (view (style_of π t) o (Some (Reference f))) (rising_list (reference_cmp π t f) (list_of_items ds))
      (λ e i. let x = In-all (Refers t f) e (list_of_items ds) (references_refer π t accepted f r ds w)
      (In-rising (reference_cmp π t f) e (list_of_items ds) i) in reference_viewed f named o e x.0 x.1)
      ∙ sym (written_entries (style_of π t) o (Member (kind.Many f) r) ds))
  many_viewed f named o r d is w = cc

  ordered_viewed : (o : Data) (r : Bool) (d : Data) → is_array d ≡ true → Within t (asked (Member kind.Ordered r) d)
      → array_of (map (normal_selection_reference π t) (entries_of d)) ≡ view (style_of π t) o (Some (Member kind.Ordered r)) d
  ordered_viewed o r (array ds) is w =
      ap array_of
      (maps_agree (normal_selection_reference π t) (view (style_of π t) o (Some (Reference family.Selection))) (list_of_items ds)
      (λ e i.
      let x = reference_refers π t accepted family.Selection e
      (In-all (λ e. Within t (asked (Reference family.Selection) e)) e (list_of_items ds)
      (entries_asked t (Member kind.Ordered r) (Reference family.Selection) ds refl refl w) i) in
      selection_viewed o e x.0 x.1) ∙ sym (written_entries (style_of π t) o (Member kind.Ordered r) ds))
  ordered_viewed o r d is w = cc

  -- identifiers or translations
  simple_viewed : (o : Data) (w : Want) (d : Data) → is_array d ≡ true → (is_table_set w ≡ true) → AllStill (entry_want w)
      → ((x y : Data) → (style_of π t).cmp w x y ≡ compact_cmp x y)
      → array_of (rising_list (λ x y. (style_of π t).cmp w x y) (entries_of d)) ≡ view (style_of π t) o (Some w) d
  simple_viewed o w (array ds) is set p cmp =
      ap array_of
      (sym (Rattle.erd_normal.proofs.Common.map-id (rising_list ((style_of π t).cmp w) (list_of_items ds)))
      ∙ maps_agree (λ x. x) (view (style_of π t) o (entry_want w)) (rising_list ((style_of π t).cmp w) (list_of_items ds))
      (λ e i. sym (still π t o (entry_want w) e p))
      ∙ ap (λ b. map (view (style_of π t) o (entry_want w)) (if b then rising_list ((style_of π t).cmp w) (list_of_items ds) else list_of_items ds)) (sym set)
      ∙ sym (written_entries (style_of π t) o w ds))
  simple_viewed o w d is set p cmp = cc

  -- ---- labels

  text_viewed : (o : Data) (texts : Items) → array_of (rising_list compact_cmp (list_of_items texts)) ≡ view (style_of π t) o
      (Some (Member kind.Languages true)) (array texts)
  text_viewed o texts = simple_viewed o (Member kind.Languages true) (array texts) refl refl refl (λ x y. refl)

  label_viewed : (o : Data) (r : Bool) (d : Data) → Within t (asked (Member kind.Label r) d) → with_rising_text d ≡ view (style_of π t) o
      (Some (Member kind.Label r)) d
  label_viewed o r (object ms) w =
      ap object (members_unique (put (codes "Text") (array_of (rising_list compact_cmp (entries_at (codes "Text") (object ms)))) ms)
      (view_members (style_of π t) (object ms) s ms)
      (with_rising_text-tree (object ms) whole) (view-tree (style_of π t) (puts_trees π t) o (Some (Member kind.Label r)) (object ms) whole)
      (λ k. at k (bytes_eq k (codes "Text")) refl))
    where
      s : Scope
      s = scope_inside (Member kind.Label r) (object ms)

      l : BuiltLabel t ms
      l = built_label t clean r ms w

      whole : IsTree (object ms)
      whole = within-tree t (asked (Member kind.Label r) (object ms)) tree w

      known : scope_inside (Member kind.Label r) (object ms) ≡ scope.Members role.Label (Some class.InternationalizedText)
      known = ap (scope.Members role.Label) l.kept

      full : is_empty_array (array l.texts) ≡ false
      full = faultless t clean (asked (Member kind.Languages true) (array l.texts)) reason.EmptyArray l.inside

      found : (k : List ℕ) → get_member k (view_members (style_of π t) (object ms) (scope_inside (Member kind.Label r) (object ms)) ms)
          ≡ option_and_then (viewed (style_of π t) (object ms) (scope_inside (Member kind.Label r) (object ms)) k) (get_member k ms)
      found k = get_view (style_of π t) (object ms) (scope_inside (Member kind.Label r) (object ms)) [] k ms whole

      other : (k : List ℕ) → bytes_eq k (codes "Text") ≡ false → (x : Option Data)
          → option_and_then (viewed (style_of π t) (object ms) (scope.Members role.Label (Some class.InternationalizedText)) k) x ≡ x
      other k beside None = refl
      other k beside (Some d) =
          ap (λ b. if b then None else Some (view (style_of π t) (object ms) (want_of_name (scope.Members role.Label (Some class.InternationalizedText)) k) d))
          (still_kept (want_of_name (scope.Members role.Label (Some class.InternationalizedText)) k) d (still_beside k beside))
          ∙ ap Some (still π t (object ms) (want_of_name (scope.Members role.Label (Some class.InternationalizedText)) k) d (still_beside k beside))

      at : (k : List ℕ) (b : Bool) → bytes_eq k (codes "Text") ≡ b
          → get_member k (put (codes "Text") (array_of (rising_list compact_cmp (entries_at (codes "Text") (object ms)))) ms)
          ≡ get_member k (view_members (style_of π t) (object ms) (scope_inside (Member kind.Label r) (object ms)) ms)
      at k true is =
          subst (λ n. get_member n (put (codes "Text") (array_of (rising_list compact_cmp (entries_at (codes "Text") (object ms)))) ms)
          ≡ get_member n (view_members (style_of π t) (object ms) (scope_inside (Member kind.Label r) (object ms)) ms))
          (sym (text_exact k (codes "Text") is))
          (l.stands ∙ ap Some (text_viewed (object ms) l.texts)
          ∙ ap (λ b. if b then None else Some (view (style_of π t) (object ms) (Some (Member kind.Languages true)) (array l.texts))) (sym full)
          ∙ ap (λ q. option_and_then (viewed (style_of π t) (object ms) q (codes "Text")) (Some (array l.texts))) (sym known)
          ∙ ap (option_and_then (viewed (style_of π t) (object ms) (scope_inside (Member kind.Label r) (object ms)) (codes "Text"))) (sym l.found)
          ∙ sym (found (codes "Text")))
      at k false is =
          get_label-other k (object ms) is ∙ sym (other k is (get_member k ms))
          ∙ ap (λ q. option_and_then (viewed (style_of π t) (object ms) q k) (get_member k ms)) (sym known) ∙ sym (found k)
  label_viewed o r (string s) w = refl
  label_viewed o r d w = let x : false ≡ true = wanted_within t clean (asked (Member kind.Label r) d) w in cc

  -- ---- by kind

  pub value_viewed : (k : MemberKind) (r : Bool) (o d : Data) → is_flat_kind k ≡ true → Within t (asked (want_of_kind k r) d) → normal_value π t k d
      ≡ kept_view π t o (Some (want_of_kind k r)) d
  value_viewed kind.ClassText r o d flat w = cc
  value_viewed (kind.Keyed f) r o d flat w = cc
  value_viewed kind.Elections r o d flat w = cc
  value_viewed kind.Content r o d flat w = cc
  value_viewed kind.Label r o d flat w = ap Some (label_viewed o false d w)
  value_viewed (kind.One f) r o d flat w = let x = reference_refers π t accepted f d w in ap Some (reference_viewed f flat o d x.0 x.1)
  value_viewed (kind.Many f) r o d flat w = left_out_as d
      (many_viewed f flat o r d (wanted_within t clean (asked (Member (kind.Many f) r) d) w) w)
  value_viewed kind.Identifiers r o d flat w =
      left_out_as d
      (simple_viewed o (Member kind.Identifiers false) d (wanted_within t clean (asked (Member kind.Identifiers false) d) w) refl refl (λ x y. refl))
  value_viewed kind.Languages r o d flat w =
      left_out_as d
      (simple_viewed o (Member kind.Languages r) d (wanted_within t clean (asked (Member kind.Languages r) d) w) refl refl (λ x y. refl))
  value_viewed kind.Ordered r o d flat w = left_out_as d
      (ordered_viewed o false d (wanted_within t clean (asked (Member kind.Ordered false) d) w) w)
  value_viewed kind.Identity r o d flat w = refl
  value_viewed kind.Outside r o d flat w =
      ap (λ b. if b then None else Some (view (style_of π t) o (Some (Member kind.Outside false)) d))
      (sym (not-false (is_empty_array d) (faultless t clean (asked (Member kind.Outside false) d) reason.OutsideProfile w)))
  value_viewed kind.Carried r o d flat w = ap Some (sym (still π t o (Some Carried) d refl))
  value_viewed k r o d flat w = ap Some (sym (still π t o (Some (Member k false)) d refl))

  -- ---- members, where what is built of each value is its view

  each_agrees : (f g : List ℕ → Data → Option Data) (ms : Members) → AreMembers ms → ((k : List ℕ) (d : Data) → get_member k ms ≡ Some d → f k d ≡ g k d)
      → each_member f ms ≡ each_member g ms
  each_agrees f g no_members rise each = refl
  each_agrees f g (member k d ms) rise each =
      ap₂ (λ r rest. option_map_or (λ v. member k v rest) r rest) (each k d (get_member-first k d ms))
      (each_agrees f g ms rise.2 (λ j e found. each j e (get_member-later k j d e ms rise found)))

  -- one member of an object of a class
  pub name_viewed : (r : Role) (c : Class) (ms : Members) → ObjectAt t (Object r) r c ms → (f : MemberKind → Option Data) (name : List ℕ) (d : Data)
      → get_member name ms ≡ Some d → is_envelope (scope.Members r (Some c)) name ≡ false → f kind.ClassText ≡ Some d → f kind.Word ≡ Some d
      → ((required : Bool) → bytes_eq name (codes "@type") ≡ false → Within t (asked (want_of_kind (kind_of_member c name) required) d)
      → f (kind_of_member c name) ≡ kept_view π t (object ms) (Some (want_of_kind (kind_of_member c name) required)) d)
      → f (kind_of_member c name) ≡ viewed (style_of π t) (object ms) (scope_inside (Object r) (object ms)) name d
  name_viewed r c ms x f name d found apart text word each =
      at (bytes_eq name (codes "@type")) refl ∙ sym (ap (λ b. if b || is_dropped (want_of_name (scope.Members r (Some c)) name) d then None
      else Some (view (style_of π t) (object ms) (want_of_name (scope.Members r (Some c)) name) d)) apart)
      ∙ ap (λ o. viewed (style_of π t) (object ms) (scope.Members r o) name d) (sym x.among)
    where
      inside : (b : Bool) → (is_report_class c && bytes_eq name (codes "Status")) ≡ b → bytes_eq name (codes "@type") ≡ false → f (kind_of_member c name)
          ≡ kept_view π t (object ms) (Some (member_want c name)) d
      inside true is untyped =
          ap f (status_kind c name is) ∙ word ∙ ap Some (sym (still π t (object ms) (Some Status) d refl))
          ∙ ap (λ w. kept_view π t (object ms) (Some w) d) (let want : member_want c name ≡ Status = rw is refl in sym want)
      inside false is untyped =
          let w : Within t (asked (member_want c name) d) = member_within t clean (Object r) r ms c name d of_role x.among untyped x.inside found in
          each (is_required c name) untyped (subst (λ v. Within t (asked v d)) (want_unless_status c name is) w)
          ∙ ap (λ v. kept_view π t (object ms) (Some v) d) (sym (want_unless_status c name is))

      at : (b : Bool) → bytes_eq name (codes "@type") ≡ b → f (kind_of_member c name) ≡ kept_view π t (object ms)
          (want_of_name (scope.Members r (Some c)) name) d
      at true is =
          ap f (ap (kind_of_member c) (text_exact name (codes "@type") is) ∙ kind_of_type c) ∙ text
          ∙ ap Some (sym (still π t (object ms) (Some (ClassText r)) d refl))
          ∙ ap (λ b. kept_view π t (object ms) (if b then Some (ClassText r) else Some (member_want c name)) d) (sym is)
      at false is = inside (is_report_class c && bytes_eq name (codes "Status")) refl is
          ∙ ap (λ b. kept_view π t (object ms) (if b then Some (ClassText r) else Some (member_want c name)) d) (sym is)

  -- all members of one
  pub members_viewed : (r : Role) (c : Class) (ms : Members) → IsTree (object ms) → (value_of : Builder)
      → ((name : List ℕ) (d : Data) → get_member name ms ≡ Some d → value_of name (kind_of_member c name) d ≡ viewed (style_of π t) (object ms)
      (scope_inside (Object r) (object ms)) name d)
      → normal_members value_of c ms ≡ view_members (style_of π t) (object ms) (scope_inside (Object r) (object ms)) ms
  members_viewed r c ms rise value_of each =
      normal_members_each value_of c ms ∙ each_agrees (value_in_class value_of c)
      (viewed (style_of π t) (object ms) (scope_inside (Object r) (object ms))) ms rise each
      ∙ sym (view_members_each (style_of π t) (object ms) (scope_inside (Object r) (object ms)) ms)

  -- ---- the order of a ballot

  abbrev IsContentViewed : Data → Type 0
  IsContentViewed d = (o : Data) (r : Bool) → Within t (asked (Member kind.Content r) d) → normal_content π t d ≡ view (style_of π t) o
      (Some (Member kind.Content r)) d

  node_flat : (c : Class) (name : List ℕ) → bytes_eq name (codes "@type") ≡ false → role_of_class c ≡ role.Content → is_node_flat (kind_of_member c name) ≡ true
  node_flat class.OrderedContest name other is = kind_of_class is_node_flat class.OrderedContest name other refl refl refl refl
  node_flat c name other is = kind_of_class is_node_flat c name other (cc) (cc) refl refl

  node_value_viewed : (k : MemberKind) (required : Bool) (o d : Data) → is_node_flat k ≡ true → IsContentViewed d → Within t (asked (want_of_kind k required) d)
      → normal_node_value π t (Some k) d (normal_content π t d) ≡ kept_view π t o (Some (want_of_kind k required)) d
  node_value_viewed kind.Content required o d is content w = left_out_as d (content o false w)
  node_value_viewed k required o d is content w = value_viewed k required o d is w

  node_with : (ms : Members) (o : Data) → Within t (asked (Object role.Content) (object ms))
      → ((name : List ℕ) (d : Data) → get_member name ms ≡ Some d → IsContentViewed d)
      → normal_node π t (object ms) ≡ view (style_of π t) o (Some (Object role.Content)) (object ms)
  node_with ms o w contents =
      let x : Classed t role.Content ms = classed t clean role.Content ms w in
      ap object
      (ap (λ c. normal_node_members π t c ms) x.at.among ∙ normal_node_members_each π t (Some x.class) ms
      ∙ each_agrees (node_value π t (Some x.class)) (viewed (style_of π t) (object ms) (scope_inside (Object role.Content) (object ms))) ms
      (within-tree t (asked (Object role.Content) (object ms)) tree w)
      (λ name d found.
      name_viewed role.Content x.class ms x.at (λ k. normal_node_value π t (Some k) d (normal_content π t d)) name d found
      (apart role.Content x.class name x.role (λ e. cc)) refl refl
      (λ required other inside. node_value_viewed (kind_of_member x.class name) required (object ms) d (node_flat x.class name other x.role)
      (contents name d found) inside)) ∙ sym (view_members_each (style_of π t) (object ms) (scope_inside (Object role.Content) (object ms)) ms))

  mutual
    pub content_viewed : (d : Data) → IsContentViewed d
    content_viewed (array ds) o r w = ap array (nodes_viewed ds o (entry_asked t (Member kind.Content r) (Object role.Content) ds refl refl w))
    content_viewed d o r w = let x : is_array d ≡ true = wanted_within t clean (asked (Member kind.Content r) d) w in cc

    nodes_viewed : (ds : Items) (o : Data) → ((i : ℕ) (d : Data) → get_item i ds ≡ Some d → Within t (asked (Object role.Content) d)) → normal_nodes π t ds
        ≡ items_of (map second (view_entries (style_of π t) o (Some (Object role.Content)) ds))
    nodes_viewed no_items o each = refl
    nodes_viewed (item d ds) o each = ap₂ item (node_viewed d o (each zero d refl)) (nodes_viewed ds o (λ j. each (suc j)))

    node_viewed : (d o : Data) → Within t (asked (Object role.Content) d) → normal_node π t d ≡ view (style_of π t) o (Some (Object role.Content)) d
    node_viewed (object ms) o w = node_with ms o w (contents_viewed ms)
    node_viewed d o w = let x : false ≡ true = wanted_within t clean (asked (Object role.Content) d) w in cc

    contents_viewed : (ms : Members) (name : List ℕ) (d : Data) → get_member name ms ≡ Some d → IsContentViewed d
    contents_viewed no_members name d found = cc
    contents_viewed (member k e ms) name d found = found_cases name k d e ms found (λ named same. subst IsContentViewed same (content_viewed e))
        (contents_viewed ms name d)
