-- In an accepted report the members of objects are as the laws ask: no key and no entry stands twice in a set, a label has its
-- class, and the numbers in names fit 64 bits.
use Rattle.erd_shown.proofs.Common.{◌≡◌, ℕ, zero, suc, Bool, true, false, List, [], ◌∷◌, map, pos, negsuc, Some, None, Option, codes, option_map}
use Rattle.erd_shown.proofs.Common.{option_and_then, filter_map, bytes_eq, is_eq, Equal, sym, refl, ap, ap₂, ◌∙◌, subst, lt-ltb, exact_bytes, Equal-is}
use Rattle.erd_shown.proofs.Common.{Ordering, option_cmp, eq_by_cmp, AllByRecursion, list_all, unsigned, negative, float, Data, null, boolean, number, string}
use Rattle.erd_shown.proofs.Common.{array, object, Items, no_items, item, Members, no_members, member, get_member, get_item, get, as_str, as_number, as_integer}
use Rattle.erd_shown.proofs.Common.{has_float, items_have_float, members_have_float, compact_text, text_of_class, role_of_class, rows_of_class, kind_of_member}
use Rattle.erd_shown.proofs.Common.{is_required, kind_of_identity, Class, class, Family, family, Role, role, reason, MemberKind, kind, Step, At}
use Rattle.erd_shown.proofs.Common.{string_from_text, array_from, list_of_items-place, In, all_from_In, in_at, Within, Within-step, not_within, faultless}
use Rattle.erd_shown.proofs.Common.{wanted_within, member_within, within-tree, classed, Classed, of_label, object_in, ObjectIn, ObjectAt, kind_of_class}
use Rattle.erd_shown.proofs.Common.{want_by_kind, text_exact, text_itself, ShapeFault, NoneOf, IsTree, is_same_json, list_of_items, entries_of, entries_at}
use Rattle.erd_shown.proofs.Common.{class_of_object, member_want, is_compared_set, asked, is_repeated, Member, Reference, Object, has_wanted_kind, IsAccepted}
use Rattle.erd_shown.proofs.Common.{Preference, has_keys, key_cmp, key_of, key_named, keys_named, is_reference_fault, no_shape_fault, no_reference_fault}
use Rattle.erd_shown.proofs.Common.{resolves, owned_by, one_keyed, key_cmp_exact, Key, NameParts, Placed, objects, contests, selections_of_contest, owner}
use Rattle.erd_shown.proofs.Common.{id_of, stands, unrepeated_by_cmp, and_then-Some, HasFittingNumbers, ItemsHaveFittingNumbers, MembersHaveFittingNumbers}
use Rattle.erd_shown.proofs.Common.{order_of_selection, name_of, kind_of_type, is_selections, selections_kind, selections_name, selections_family}
use Rattle.erd_shown.proofs.Common.{selection_role, name_in_class, name_cmp, name_cmp_exact, want_of_kind, is_word, Want, IsTrue, In-flat_map, In-map_from}
use Rattle.erd_shown.proofs.Common.{distinct_from_one_place, distinct_map, one_named, values-placed_entries, placed_from, true≢false, slice_get, ◌+◌, ◌++◌}
use Rattle.erd_shown.proofs.Common.{arith}
unfoldable use Rattle.erd_shown.proofs.Common.{IsDistinct}
use Rattle.std.specs.Option.{option_map_or}
use Rattle.erd_check.specs.Wants.{entry_want_of_kind}
use Rattle.erd_text.specs.RisingLists.{compact_cmp}
use Rattle.erd_shown.proofs.fit.ExactTexts.{compact_exact, get_member-fitting, within-fitting}
use Rattle.erd_shown.proofs.told.JsonSets.{itself}
use Rattle.erd_shown.specs.code.Fitting.{AreDistinctKeys, AreFit, AreFitMembers, AreSelections, HasFittingNames, HasFittingOrder, IsFit, IsFitMember, IsLabel}
use Rattle.erd_shown.specs.code.Fitting.{IsSelection, IsSet, IsWholeTree, a_text, an_object}

abbrev pub is_family_role : Role → Bool
is_family_role (role.OfFamily f) = true
is_family_role r = false

-- ---- numbers

mutual
  pub fitting_whole : (d : Data) → HasFittingNumbers d → has_float d ≡ false
  fitting_whole (number (unsigned n)) h = refl
  fitting_whole (number (negative z)) h = refl
  fitting_whole (number (float x)) h = absurd h
  fitting_whole (array ds) h = fitting_whole_items ds h
  fitting_whole (object ms) h = fitting_whole_members ms h
  fitting_whole d h = refl

  fitting_whole_items : (ds : Items) → ItemsHaveFittingNumbers ds → items_have_float ds ≡ false
  fitting_whole_items no_items h = refl
  fitting_whole_items (item d ds) h = rw (fitting_whole d h.0, fitting_whole_items ds h.1) refl

  fitting_whole_members : (ms : Members) → MembersHaveFittingNumbers ms → members_have_float ms ≡ false
  fitting_whole_members no_members h = refl
  fitting_whole_members (member k d ms) h = rw (fitting_whole d h.0, fitting_whole_members ms h.1) refl

order_fits_in : (o : Option Data) → ((d : Data) → o ≡ Some d → HasFittingNumbers d) → HasFittingOrder (option_and_then as_integer (option_and_then as_number o))
order_fits_in None h = tt
order_fits_in (Some (number (unsigned n))) h = lt-ltb _ _ (h (number (unsigned n)) refl)
order_fits_in (Some (number (negative (pos n)))) h = absurd (h (number (negative (pos n))) refl)
order_fits_in (Some (number (negative (negsuc n)))) h = lt-ltb _ _ (h (number (negative (negsuc n))) refl)
order_fits_in (Some (number (float x))) h = tt
order_fits_in (Some d) h = tt

get_fitting : (name : List ℕ) (d v : Data) → HasFittingNumbers d → get name d ≡ Some v → HasFittingNumbers v
get_fitting name (object ms) v h e = get_member-fitting name v ms h e
get_fitting name d v h e = cc

pub order_fits : (d : Data) → HasFittingNumbers d → HasFittingOrder (order_of_selection d)
order_fits d h = order_fits_in (get (codes "SequenceOrder") d) (λ v e. get_fitting (codes "SequenceOrder") d v h e)

-- ---- lists

nothing_twice : IsDistinct (eq_by_cmp compact_cmp) []
unfolding IsDistinct
nothing_twice = tt

-- no two of the values have one key
distinct_keys_at : (key : Data → Option Key) (k : Key) (ds : List Data) → AllByRecursion (λ e. eq_by_cmp (option_cmp key_cmp) (Some k) (key e) ≡ false) ds
    → AllByRecursion (λ l. eq_by_cmp key_cmp k l ≡ false) (filter_map key ds)
distinct_keys_at key k [] all = tt
distinct_keys_at key k (d ∷ ds) all = at (key d) refl (distinct_keys_at key k ds all.1)
  where
    at : (o : Option Key) → key d ≡ o → AllByRecursion (λ l. eq_by_cmp key_cmp k l ≡ false) (filter_map key ds)
        → AllByRecursion (λ l. eq_by_cmp key_cmp k l ≡ false) (filter_map key (d ∷ ds))
    at None e rest = rw e rest
    at (Some l) e rest = rw e (ap (eq_by_cmp (option_cmp key_cmp) (Some k)) (sym e) ∙ all.0, rest)

distinct_keys : (key : Data → Option Key) (ds : List Data) → IsDistinct (eq_by_cmp (λ d e. option_cmp key_cmp (key d) (key e))) ds
    → AreDistinctKeys (filter_map key ds)
unfolding IsDistinct
distinct_keys key [] all = tt
distinct_keys key (d ∷ ds) all = at (key d) refl (distinct_keys key ds all.1)
  where
    at : (o : Option Key) → key d ≡ o → AreDistinctKeys (filter_map key ds) → AreDistinctKeys (filter_map key (d ∷ ds))
    at None e rest = rw e rest
    at (Some k) e rest = rw e (distinct_keys_at key k ds (subst (λ o. AllByRecursion (λ f. eq_by_cmp (option_cmp key_cmp) o (key f) ≡ false) ds) e all.0), rest)

module _ (π : Preference) (t : Data) (accepted : IsAccepted π t) (tree : IsTree t) (fits : HasFittingNumbers t) where
  clean : NoneOf (ShapeFault t)
  clean = no_shape_fault π t accepted

  -- ---- sets of JSON values

  set_entry : (k : MemberKind) (r : Bool) (o : Role) (ds : Items) → entry_want_of_kind k ≡ Some (Object o) → is_compared_set (Member k r) ≡ true
      → Within t (asked (Member k r) (array ds))
      → (i : ℕ) (d : Data) → get_item i ds ≡ Some d → Within t (record { want = Object o; value = d; repeated = is_repeated ds i d })
  set_entry k r o ds want set w i d e = Within-step t (asked (Member k r) (array ds)) (record { want = Object o; value = d; repeated = is_repeated ds i d })
      (At i) w (rw (want, set, e) refl)

  first_entry : (o : Role) (d : Data) (b : Bool) → Within t (record { want = Object o; value = d; repeated = b }) → b ≡ false
  first_entry o d true w = let h : true ≡ false = faultless t clean (record { want = Object o; value = d; repeated = true }) reason.Repeated w in h
  first_entry o d false w = refl

  equal_values : (d e : Data) → HasFittingNumbers d → HasFittingNumbers e → compact_cmp d e ≡ Equal → is_same_json e d ≡ true
  equal_values d e h k same = let one : d ≡ e = compact_exact d e h k (exact_bytes (compact_text d) (compact_text e) same) in
      subst (λ x. is_same_json x d ≡ true) one (itself d (fitting_whole d h))

  set_fit : (k : MemberKind) (r : Bool) (o : Role) (ds : Items) → entry_want_of_kind k ≡ Some (Object o) → is_compared_set (Member k r) ≡ true
      → Within t (asked (Member k r) (array ds)) → IsSet (list_of_items ds)
  set_fit k r o ds want set w = record {
    trees = all_from_In IsWholeTree (list_of_items ds) (λ d i. let p = list_of_items-place ds d i in record {
      is_tree = within-tree t _ tree (set_entry k r o ds want set w p.0 d p.1);
      whole = fitting_whole d (within-fitting t _ fits (set_entry k r o ds want set w p.0 d p.1));
    });
    distinct = unrepeated_by_cmp compact_cmp ds (λ i d e. first_entry o d (is_repeated ds i d) (set_entry k r o ds want set w i d e)) (λ d e i j same.
        let p = list_of_items-place ds d i in
        let q = list_of_items-place ds e j in
        equal_values d e (within-fitting t _ fits (set_entry k r o ds want set w p.0 d p.1))
        (within-fitting t _ fits (set_entry k r o ds want set w q.0 e q.1)) same);
  }

  array_fit : (k : MemberKind) (r : Bool) (o : Role) (d : Data) → entry_want_of_kind k ≡ Some (Object o) → is_compared_set (Member k r) ≡ true
      → ((e : Data) → has_wanted_kind (Member k r) e ≡ true → (ds : Items) × (e ≡ array ds))
      → Within t (asked (Member k r) d) → IsSet (entries_of d)
  array_fit k r o d want set is_array w =
      let ds = is_array d (wanted_within t clean (asked (Member k r) d) w) in
      subst (λ x. IsSet (entries_of x)) (sym ds.1) (set_fit k r o ds.0 want set (subst (λ x. Within t (asked (Member k r) x)) ds.1 w))

  -- ---- labels

  label_class : (c : Class) → role_of_class c ≡ role.Label → c ≡ class.InternationalizedText
  label_class class.InternationalizedText e = refl
  label_class c e = cc

  texts_fit : (b : Bool) (ms : Members) → class_of_object role.Label (object ms) ≡ Some class.InternationalizedText
      → Within t (asked (Member kind.Label b) (object ms))
      → (o : Option Data) → get_member (codes "Text") ms ≡ o → IsSet (option_map_or entries_of o [])
  texts_fit b ms among w None e = record { trees = tt; distinct = nothing_twice }
  texts_fit b ms among w (Some v) e =
      array_fit kind.Languages true role.Language v refl refl array_from
      (member_within t clean (Member kind.Label b) role.Label ms class.InternationalizedText (codes "Text") v of_label among refl w e)

  label_fit : (b : Bool) (d : Data) → Within t (asked (Member kind.Label b) d) → IsLabel d
  label_fit b (string s) w = a_text s
  label_fit b (object ms) w =
      let cl : Classed role.Label (object ms) = classed t clean (Member kind.Label b) role.Label (object ms) of_label refl w in
      let same : cl.class ≡ class.InternationalizedText = label_class cl.class cl.role in
      an_object ms (within-tree t (asked (Member kind.Label b) (object ms)) tree w) (cl.text ∙ ap (λ c. Some (string (text_of_class c))) same)
      (texts_fit b ms (cl.among ∙ ap Some same) w (get_member (codes "Text") ms) refl)
  label_fit b null w = let h = wanted_within t clean (asked (Member kind.Label b) null) w in cc
  label_fit b (boolean x) w = let h = wanted_within t clean (asked (Member kind.Label b) (boolean x)) w in cc
  label_fit b (number n) w = let h = wanted_within t clean (asked (Member kind.Label b) (number n)) w in cc
  label_fit b (array ds) w = let h = wanted_within t clean (asked (Member kind.Label b) (array ds)) w in cc

  -- ---- sets of references

  -- no other text names an object
  one_name : (f : Family) (r s : List ℕ) (k : Key) → has_keys f ≡ true → key_named π t f r ≡ Some k → key_named π t f s ≡ Some k → r ≡ s
  one_name f r s k keyed e g =
      let x = and_then-Some (key_of π) (owner t f r) k e in
      let y = and_then-Some (key_of π) (owner t f s) k g in
      let o = owned_by t f r x.0 x.1 in
      let p = owned_by t f s y.0 y.1 in
      let same : o.0.value ≡ p.0.value =
      ap (λ z. z.value) (one_keyed π t accepted f o.0 p.0 k keyed o.1 p.1 (ap (key_of π) o.2 ∙ x.2) (ap (key_of π) p.2 ∙ y.2)) in
      let ids : Some r ≡ Some s = sym o.3 ∙ ap id_of (sym o.2 ∙ same ∙ p.2) ∙ p.3 in
      cc

  first_reference : (f : Family) (d : Data) (b : Bool) → Within t (record { want = Reference f; value = d; repeated = b }) → b ≡ false
  first_reference f d true w =
      absurd (not_within t (record { want = Reference f; value = d; repeated = true }) (λ x. IsTrue (is_reference_fault t x reason.Repeated)) w
      (no_reference_fault π t accepted w.place reason.Repeated) refl)
  first_reference f d false w = refl

  module _ (f : Family) (keyed : has_keys f ≡ true) (r : Bool) (ds : Items) (w : Within t (asked (Member (kind.Many f) r) (array ds))) where
    reference_entry : (i : ℕ) (d : Data) → get_item i ds ≡ Some d → Within t (record { want = Reference f; value = d; repeated = is_repeated ds i d })
    reference_entry i d e = Within-step t (asked (Member (kind.Many f) r) (array ds)) (record { want = Reference f; value = d; repeated = is_repeated ds i d })
        (At i) w (rw e)

    first_of_references : (i : ℕ) (d : Data) → get_item i ds ≡ Some d → is_repeated ds i d ≡ false
    first_of_references i d e = first_reference f d (is_repeated ds i d) (reference_entry i d e)

    -- a reference is a text
    reference_text : (d : Data) → In d (list_of_items ds) → (s : List ℕ) × (d ≡ string s) × Within t (asked (Reference f) (string s))
    reference_text d i =
        let p = list_of_items-place ds d i in
        let w' : Within t (asked (Reference f) d) = subst (λ b. Within t (record { want = Reference f; value = d; repeated = b }))
        (first_of_references p.0 d p.1) (reference_entry p.0 d p.1) in
        let s = string_from_text d (wanted_within t clean (asked (Reference f) d) w') in
        (s.0, s.1, subst (λ x. Within t (asked (Reference f) x)) s.1 w')

    abbrev key : Data → Option Key
    key d = option_and_then (key_named π t f) (as_str d)

    texts_equal : (a b : List ℕ) → Within t (asked (Reference f) (string a)) → Within t (asked (Reference f) (string b))
        → option_cmp key_cmp (key_named π t f a) (key_named π t f b) ≡ Equal → b ≡ a
    texts_equal a b x y e =
        let k = resolves π t accepted f a keyed x in
        let l = resolves π t accepted f b keyed y in
        let same : k.0 ≡ l.0 = key_cmp_exact k.0 l.0 (sym (ap₂ (option_cmp key_cmp) k.1 l.1) ∙ e) in
        one_name f b a k.0 keyed (l.1 ∙ ap Some (sym same)) k.1

    equal_references : (d e : Data) → In d (list_of_items ds) → In e (list_of_items ds) → option_cmp key_cmp (key d) (key e) ≡ Equal → is_same_json e d ≡ true
    equal_references d e i j h =
        let a = reference_text d i in
        let b = reference_text e j in
        let same : b.0 ≡ a.0 = texts_equal a.0 b.0 a.2 b.2 (sym (ap₂ (λ x y. option_cmp key_cmp (key x) (key y)) a.1 b.1) ∙ h) in
        ap₂ is_same_json (b.1 ∙ ap string same) a.1 ∙ text_itself a.0

    references_fit : AreDistinctKeys (keys_named π t f (list_of_items ds))
    references_fit =
        distinct_keys key (list_of_items ds) (unrepeated_by_cmp (λ d e. option_cmp key_cmp (key d) (key e)) ds first_of_references equal_references)

  many_fit : (f : Family) → has_keys f ≡ true → (r : Bool) (d : Data) → Within t (asked (Member (kind.Many f) r) d)
      → AreDistinctKeys (keys_named π t f (entries_of d))
  many_fit f keyed r d w =
      let ds = array_from d (wanted_within t clean (asked (Member (kind.Many f) r) d) w) in
      subst (λ x. AreDistinctKeys (keys_named π t f (entries_of x))) (sym ds.1)
      (references_fit f keyed r ds.0 (subst (λ x. Within t (asked (Member (kind.Many f) r) x)) ds.1 w))

  -- ---- names

  pub fitting_names : HasFittingNames π t
  fitting_names id n e =
      let x = and_then-Some (name_of π t) (owner t family.Selection id) n e in
      let o = owned_by t family.Selection id x.0 x.1 in
      let w : Within t (asked (Object (role.OfFamily family.Selection)) o.0.value) =
      record { place = o.0.place; is = stands π t accepted family.Selection o.0 o.1 } in
      name_fits x.0 n (subst HasFittingNumbers o.2 (within-fitting t _ fits w)) x.2
    where
      name_fits : (d : Data) (n : NameParts) → HasFittingNumbers d → name_of π t d ≡ Some n → HasFittingOrder n.order
      name_fits d n h e = at (class_of_object (role.OfFamily family.Selection) d) refl
        where
          at : (o : Option Class) → class_of_object (role.OfFamily family.Selection) d ≡ o → HasFittingOrder n.order
          at None is = let f : None ≡ Some n = rw is at e in cc
          at (Some c) is = let f = rw is at e in let order : order_of_selection d ≡ n.order = ap (λ o. option_map_or (λ (m : NameParts). m.order) o None) f in
              subst HasFittingOrder order (order_fits d h)

  -- ---- members

  -- a kind that asks for references asks for objects with keys
  abbrev names_keys : MemberKind → Bool
  names_keys (kind.Many f) = has_keys f
  names_keys k = true

  rows_keyed : (c : Class) → list_all (λ m. names_keys m.kind) (rows_of_class c) ≡ true
  rows_keyed class.ElectionReport = refl
  rows_keyed c = refl

  kind_keyed : (c : Class) (name : List ℕ) → bytes_eq name (codes "@type") ≡ false → names_keys (kind_of_member c name) ≡ true
  kind_keyed c name other = kind_of_class names_keys c name other (rows_keyed c) (identity c) refl refl
    where
      identity : (c : Class) → names_keys (kind_of_identity c) ≡ true
      identity class.ElectionReport = refl
      identity c = refl

  kind_fit : (c : Class) (name : List ℕ) (d : Data) → bytes_eq name (codes "@type") ≡ false → Within t (asked (member_want c name) d)
      → IsFit π t (kind_of_member c name) d
  kind_fit c name d other w = at (kind_of_member c name) refl (kind_keyed c name other)
    where
      by : (k : MemberKind) → kind_of_member c name ≡ k → is_word k ≡ false → Within t (asked (want_of_kind k (is_required c name)) d)
      by k e h = subst (λ x. Within t (asked x d)) (want_by_kind c name k e h) w

      at : (k : MemberKind) → kind_of_member c name ≡ k → names_keys k ≡ true → IsFit π t k d
      at kind.Label e keyed = label_fit false d (by kind.Label e refl)
      at (kind.Many f) e keyed = many_fit f keyed (is_required c name) d (by (kind.Many f) e refl)
      at kind.Identifiers e keyed = array_fit kind.Identifiers false role.Identifier d refl refl array_from (by kind.Identifiers e refl)
      at kind.Languages e keyed = array_fit kind.Languages (is_required c name) role.Language d refl refl array_from (by kind.Languages e refl)
      at kind.Content e keyed = (within-tree t (asked (member_want c name) d) tree w, fitting_names)
      at k e keyed = tt

  -- the members of an object
  pub members_fit : (w : Want) (q : Role) (c : Class) (ms : Members) → ObjectAt t w q c ms → AreFit π t c ms
  members_fit w q c ms a name d found = at (bytes_eq name (codes "@type")) refl
    where
      at : (b : Bool) → bytes_eq name (codes "@type") ≡ b → IsFit π t (kind_of_member c name) d
      at true named = subst (λ k. IsFit π t k d) (sym (kind_of_type c) ∙ ap (kind_of_member c) (sym (text_exact name (codes "@type") named))) tt
      at false other = kind_fit c name d other (member_within t clean w q ms c name d a.asks a.among other a.inside found)

-- ---- the selections of a contest

placed_at : (p : List Step) (n : ℕ) (ds : List Data) (i : ℕ) (o : Placed) → slice_get (placed_from p n ds) i ≡ Some o → o.place ≡ p ++ At (n + i) ∷ []
placed_at p n [] i o e = cc
placed_at p n (d ∷ ds) zero o e =
    let same : n ≡ n + 0 = omega arith in
    let places : Some (p ++ At n ∷ []) ≡ Some o.place = ap (λ x. option_map (λ o. o.place) x) e in
    let place : p ++ At n ∷ [] ≡ o.place = cc in
    sym place ∙ ap (λ m. p ++ At m ∷ []) same
placed_at p n (d ∷ ds) (suc i) o e = let same : n + 1 + i ≡ n + suc i = omega arith in placed_at p (n + 1) ds i o e ∙ ap (λ m. p ++ At m ∷ []) same

one_index : (p : List Step) (m n : ℕ) → p ++ At m ∷ [] ≡ p ++ At n ∷ [] → m ≡ n
one_index [] m n e = cc
one_index (s ∷ p) m n e = let h : p ++ At m ∷ [] ≡ p ++ At n ∷ [] = cc in one_index p m n h

one_place : (p : List Step) (ds : List Data) (i j : ℕ) (o q : Placed) → slice_get (placed_from p 0 ds) i ≡ Some o → slice_get (placed_from p 0 ds) j
    ≡ Some q → o ≡ q → i ≡ j
one_place p ds i j o q a b e =
    let h : 0 + i ≡ 0 + j = one_index p (0 + i) (0 + j) (sym (placed_at p 0 ds i o a) ∙ ap (λ x. x.place) e ∙ placed_at p 0 ds j q b) in
    omega arith

module _ (π : Preference) (t : Data) (accepted : IsAccepted π t) (tree : IsTree t) (fits : HasFittingNumbers t) where
  abbrev by_name : Data → Data → Ordering
  by_name d e = option_cmp name_cmp (name_of π t d) (name_of π t e)

  module _ (contest : Placed) (stands_there : In contest (objects family.Contest t)) where
    selection_within : (o : Placed) → In o (selections_of_contest contest) → Within t (asked (Object selection_role) o.value)
    selection_within o i =
        record { place = o.place; is = stands π t accepted family.Selection o (In-flat_map selections_of_contest o contest (contests t) stands_there i) }

    selection_fit : (o : Placed) → In o (selections_of_contest contest) → IsSelection π t o.value
    selection_fit o i =
        let w = selection_within o i in
        let a : ObjectIn t selection_role o.value = object_in t (no_shape_fault π t accepted) selection_role o.value w in
        record {
          name = name_in_class π (key_named π t) a.class o.value;
          named = ap (option_map (λ c. name_in_class π (key_named π t) c o.value)) (ap (class_of_object selection_role) a.is_object ∙ a.at.among);
          fits = order_fits o.value (within-fitting t _ fits w);
          ms = a.ms;
          is_object = a.is_object;
          rise = subst IsTree a.is_object (within-tree t _ tree w);
          fit = λ c is.
              let classes : Some a.class ≡ Some c = sym a.at.among ∙ is in
              let same : a.class ≡ c = cc in
              members_fit π t accepted tree fits (Object selection_role) selection_role c a.ms
              (subst (λ x. ObjectAt t (Object selection_role) selection_role x a.ms) same a.at);
        }

    name_at : (o : Placed) → In o (selections_of_contest contest) → (n : NameParts) × (name_of π t o.value ≡ Some n)
    name_at o i = let s = selection_fit o i in (s.name, s.named)

    placed_names_distinct : IsDistinct (λ (o p : Placed). eq_by_cmp by_name o.value p.value) (selections_of_contest contest)
    placed_names_distinct = distinct_from_one_place (λ (o p : Placed). eq_by_cmp by_name o.value p.value) (selections_of_contest contest) (λ i j o p a b e.
        let h = in_at (selections_of_contest contest) i o a in
        let k = in_at (selections_of_contest contest) j p b in
        let m = name_at o h in
        let n = name_at p k in
        let same : m.0 ≡ n.0 = name_cmp_exact m.0 n.0 ((Equal-is (name_cmp m.0 n.0)).0 (sym (ap₂ (λ x y. is_eq (option_cmp name_cmp x y)) m.1 n.1) ∙ e)) in
        one_place _ (entries_at (codes "ContestSelection") contest.value) i j o p a b
        (one_named π t accepted contest o p m.0 stands_there h k m.1 (n.1 ∙ ap Some (sym same))))

    values_of_selections : map (λ (o : Placed). o.value) (selections_of_contest contest) ≡ entries_at (codes "ContestSelection") contest.value
    values_of_selections = values-placed_entries (codes "ContestSelection") contest

    pub selections_fit : AreSelections π t (entries_at (codes "ContestSelection") contest.value)
    selections_fit = (
      all_from_In (IsSelection π t) (entries_at (codes "ContestSelection") contest.value) (λ d i.
          let r = In-map_from (λ (o : Placed). o.value) (selections_of_contest contest) d (subst (In d) (sym values_of_selections) i) in
          subst (IsSelection π t) r.2 (selection_fit r.0 r.1)),
      subst (IsDistinct (eq_by_cmp by_name)) values_of_selections
          (distinct_map (λ (o : Placed). o.value) (eq_by_cmp by_name) (selections_of_contest contest) placed_names_distinct),
    )

  -- ---- all members of an object

  plain_fit : (k : MemberKind) (d : Data) → is_selections k ≡ false → IsFit π t k d → IsFitMember π t k d
  plain_fit (kind.Keyed family.Selection) d e h = cc
  plain_fit (kind.Keyed family.Unit) d e h = h
  plain_fit (kind.Keyed family.Party) d e h = h
  plain_fit (kind.Keyed family.Person) d e h = h
  plain_fit (kind.Keyed family.Office) d e h = h
  plain_fit (kind.Keyed family.Header) d e h = h
  plain_fit (kind.Keyed family.Candidate) d e h = h
  plain_fit (kind.Keyed family.Contest) d e h = h
  plain_fit (kind.Keyed family.Style) d e h = h
  plain_fit k d e h = h

  -- where the selections are as they must be, if its class has any
  all_fit : (w : Want) (q : Role) (c : Class) (ms : Members) → ObjectAt t w q c ms
      → (is_selections (kind_of_member c (codes "ContestSelection")) ≡ true → AreSelections π t (entries_at (codes "ContestSelection") (object ms)))
      → AreFitMembers π t c ms
  all_fit w q c ms a selections name d found = at (is_selections (kind_of_member c name)) refl
    where
      at : (b : Bool) → is_selections (kind_of_member c name) ≡ b → IsFitMember π t (kind_of_member c name) d
      at false is = plain_fit (kind_of_member c name) d is (members_fit π t accepted tree fits w q c ms a name d found)
      at true is =
          let named : name ≡ codes "ContestSelection" = selections_name c name is in
          let here : is_selections (kind_of_member c (codes "ContestSelection")) ≡ true = subst (λ n. is_selections (kind_of_member c n) ≡ true) named is in
          let entries : entries_at (codes "ContestSelection") (object ms) ≡ entries_of d = ap (λ n. option_map_or entries_of (get_member n ms) []) (sym named)
          ∙ ap (λ o. option_map_or entries_of o []) found in
          subst (λ k. IsFitMember π t k d) (sym (selections_kind (kind_of_member c name) is)) (subst (AreSelections π t) entries (selections here))

  pub object_fit : (f : Family) (o : Placed) (a : ObjectIn t (role.OfFamily f) o.value) → In o (objects f t) → AreFitMembers π t a.class a.ms
  object_fit f o a i = all_fit (Object (role.OfFamily f)) (role.OfFamily f) a.class a.ms a.at (λ is.
      let contest : f ≡ family.Contest = selections_family a.class f a.role is in
      subst (λ x. AreSelections π t (entries_at (codes "ContestSelection") x)) a.is_object (selections_fit o (subst (λ g. In o (objects g t)) contest i)))

  -- the report, and its elections
  pub no_selections : (q : Role) (c : Class) → role_of_class c ≡ q → is_family_role q ≡ false
      → is_selections (kind_of_member c (codes "ContestSelection")) ≡ false
  no_selections q c e h = at c (ap is_family_role e ∙ h)
    where
      at : (c : Class) → is_family_role (role_of_class c) ≡ false → is_selections (kind_of_member c (codes "ContestSelection")) ≡ false
      at class.CandidateContest h = cc
      at class.BallotMeasureContest h = cc
      at class.RetentionContest h = cc
      at class.PartyContest h = cc
      at c h = refl

  pub other_fit : (q : Role) (d : Data) (a : ObjectIn t q d) → is_family_role q ≡ false → AreFitMembers π t a.class a.ms
  other_fit q d a other = all_fit (Object q) q a.class a.ms a.at (λ is. absurd (true≢false (sym is ∙ no_selections q a.class a.role other)))
