-- The objects of the report that is written in the canonical style: their keys, ranks and `@id`s.
use Rattle.erd_normal.proofs.Common.{◌≡◌, ℕ, ◌+◌, ◌^◌, ◌<◌, Bool, true, false, ◌||◌, List, [], map, length, filter, slice_get, if◌then◌else◌, Some, None, codes}
use Rattle.erd_normal.proofs.Common.{Option, option_map, option_and_then, option_map_or, sym, refl, ap, ◌∙◌, subst, ap₂, arith, is_lt, is_eq, Equal, same_Some}
use Rattle.erd_normal.proofs.Common.{tied_back, option_cmp, eq_by_cmp, options_total, key_cmp, key_cmp_total, IsDistinct, length-map, slice_get-map}
use Rattle.erd_normal.proofs.Common.{slice_get_within, option_map-Some, Data, array, object, Members, get_member, as_str, Family, family, role, kind, IsTree}
use Rattle.erd_normal.proofs.Common.{In, In-map_from, In-flat_map, In-from_contains, wanted_within, object_in, ObjectIn, is_empty_array, is_array, NoneOf}
use Rattle.erd_normal.proofs.Common.{ShapeFault, entries_of, entries_at, scope_inside, want_of_name, want_by_kind, unrepeated, asked, Within-root, scope, Scope}
use Rattle.erd_normal.proofs.Common.{Want, Member, Object, IsAccepted, no_shape_fault, no_identity_fault, has_keys, Preference, key_of, Placed, objects}
use Rattle.erd_normal.proofs.Common.{contests, selections_of_contest, id_of, IsBounded, Sides, is_envelope, canonical_id, canonical_selection_id, rank_of}
use Rattle.erd_normal.proofs.Common.{rank_map, by_key, by_name, selection_role, rising_list, length-rising, In-rising, in_at, HasCanonicalIds, values_distinct}
use Rattle.erd_normal.proofs.Common.{distinct_one, stands, contest_selections, position_of}
use Rattle.erd_normal.proofs.inside.Members.{put_value}
use Rattle.erd_normal.proofs.canonical.CanonicalIds.{few_selections, canonical_selection_id_exact}
use Rattle.erd_normal.proofs.canonical.NormalKeys.{listed, selection_values, selection_ranks, by_key_total}
use Rattle.erd_normal.proofs.lists.Lists.{rank_exact, rank_low}
use Rattle.erd_normal.proofs.lists.Matched.{Matched, distinct_matched, even_order, matched_back, matched_count, matched_length}
use Rattle.erd_normal.proofs.same.Lookups.{asked_of_name}
use Rattle.erd_normal.proofs.same.Owners.{family_matched, related_key}
use Rattle.erd_normal.proofs.same.Related.{Stands, Related}
use Rattle.erd_normal.proofs.same.IdsOfObjects.{family_values, value_placed, placed_value, object_values}
use Rattle.erd_normal.proofs.same.means.Members.{TwoReports}
use Rattle.erd_normal.proofs.view.NewIds.{new_text, old_text}
use Rattle.erd_normal.proofs.view.Views.{said, get_view, viewed, entries_viewed, is_put, empty_is}
use Rattle.erd_normal.proofs.view.AskedInViews.{IsViewOf, of_value, of_put, not_put}
use Rattle.erd_normal.proofs.view.CanonicalStyles.{apart, given_by_key, IsHeld, part_of, goes_inward, puts_trees, asked_in_form, viewed_tree}
use Rattle.erd_normal.proofs.view.SaidViews.{report_said, suits, wants_id, known, put_wants}
use Rattle.erd_normal.specs.code.View.{is_dropped, is_left_out, view, whole, style_of, id_given, as_member}

or_right : (b c : Bool) → c ≡ true → (b || c) ≡ true
or_right true c h = refl
or_right false c h = h

id_put : (q : Option (List ℕ)) (x : Option Data) → option_and_then as_str x ≡ None → option_and_then as_str (put_value (as_member q) (codes "@id") x) ≡ q
id_put (Some id) x none = refl
id_put None x none = none

put_apart : (q : Option (List ℕ)) → is_put (as_member q) (codes "ContestSelection") ≡ false
put_apart (Some id) = refl
put_apart None = refl

module _ (π : Preference) (t : Data) (accepted : IsAccepted π t) (tree : IsTree t) (bounded : IsBounded t) where
  abbrev pub u : Data
  u = whole (style_of π t) t

  abbrev pub m : Sides
  m = record { left = t; right = whole (style_of π t) t; there = new_text π t; back = old_text π t }

  abbrev clean : NoneOf (ShapeFault t)
  clean = no_shape_fault π t accepted

  pub root : Related m (Object role.Report) t u
  root = record {
    left = record { repeated = false; inside = Within-root t };
    right = record { repeated = false; inside = Within-root u };
    same = report_said π t accepted tree bounded;
  }

  pub both : TwoReports m π
  both = record { left_tree = tree; right_tree = viewed_tree π t tree; accepted = accepted; root = root }

  matched : (f : Family) → Matched (Related m (Object (role.OfFamily f))) (family_values f t) (family_values f u)
  matched = family_matched m tree (viewed_tree π t tree) clean root

  pub one_key : (f : Family) (d e : Data) → Related m (Object (role.OfFamily f)) d e → key_of π d ≡ key_of π e
  one_key = related_key m tree (viewed_tree π t tree) clean π

  -- what is written of a value that stands in the report, if it stands there, is related to it
  pub view_related : (o : Data) (w : Want) (d : Data) → IsHeld t o w d → is_dropped (Some w) d ≡ false → Stands u w (view (style_of π t) o (Some w) d)
      → Related m w d (view (style_of π t) o (Some w) d)
  view_related o w d h read s = record {
    left = h.stands;
    right = s;
    same = said (style_of π t) m (IsHeld t) (goes_inward t clean tree) (suits π t accepted tree bounded) (puts_trees π t) o (Some w) d h read;
  }

  -- ---- an object of the report that is written is written of one

  pub record From (f : Family) (e : Data) : Type 0 where
    pub holder : Data
    pub from : Data
    pub held : IsHeld t holder (Object (role.OfFamily f)) from
    pub is : e ≡ view (style_of π t) holder (Some (Object (role.OfFamily f))) from
    pub related : Related m (Object (role.OfFamily f)) from e

  from_view : (f : Family) (e : Data) → Stands u (Object (role.OfFamily f)) e → IsViewOf (style_of π t) (IsHeld t) (Object (role.OfFamily f)) e → From f e
  from_view f e s (of_value o d h read is) = record {
    holder = o;
    from = d;
    held = h;
    is = is;
    related = subst (Related m (Object (role.OfFamily f)) d) (sym is)
        (view_related o (Object (role.OfFamily f)) d h read (subst (Stands u (Object (role.OfFamily f))) is s));
  }
  from_view f e s (of_put o w ms k h put asks) = let no : false ≡ true = put_wants π t accepted tree o w (Object (role.OfFamily f)) ms k e h put asks in cc

  pub stands_there : (f : Family) (p : Placed) → In p (objects f u) → Stands u (Object (role.OfFamily f)) p.value
  stands_there f p h = (matched_back p.value (matched f) (placed_value f u p h)).2.right

  pub object_from : (f : Family) (p : Placed) → In p (objects f u) → From f p.value
  object_from f p h =
      let s = stands_there f p h in
      from_view f p.value s
      (asked_in_form π t clean tree s.inside.place (record { want = Object (role.OfFamily f); value = p.value; repeated = s.repeated }) s.inside.is)

  -- ---- ranks

  pub rank_kept : (f : Family) (k : Option Rattle.erd_meaning.specs.declared.keys.key.Key.Key) → rank_of π t f k ≡ rank_of π u f k
  rank_kept f k =
      sym (rank_map (λ (o : Placed). o.value) (key_of π) (option_cmp key_cmp) k (objects f t))
      ∙ ap (λ ds. length (filter (λ d. is_lt (option_cmp key_cmp (key_of π d) k)) ds)) (object_values f t)
      ∙ matched_count (λ d. is_lt (option_cmp key_cmp (key_of π d) k)) (λ d. is_lt (option_cmp key_cmp (key_of π d) k))
      (λ d e r. ap (λ l. is_lt (option_cmp key_cmp l k)) (one_key f d e r)) (matched f)
      ∙ ap (λ ds. length (filter (λ d. is_lt (option_cmp key_cmp (key_of π d) k)) ds)) (sym (object_values f u))
      ∙ rank_map (λ (o : Placed). o.value) (key_of π) (option_cmp key_cmp) k (objects f u)

  pub as_many : (f : Family) → length (objects f u) ≡ length (objects f t)
  as_many f =
      sym (length-map (objects f u) (λ o. o.value)) ∙ ap length (object_values f u) ∙ sym (matched_length (matched f)) ∙ ap length (sym (object_values f t))
      ∙ length-map (objects f t) (λ o. o.value)

  module _ (f : Family) (keyed : has_keys f ≡ true) where
    written_distinct : IsDistinct (eq_by_cmp (by_key π)) (map (λ (o : Placed). o.value) (objects f u))
    written_distinct =
        subst (IsDistinct (eq_by_cmp (by_key π))) (sym (object_values f u))
        (distinct_matched (eq_by_cmp (by_key π)) (eq_by_cmp (by_key π)) (even_order (by_key π) (by_key_total π))
        (λ d d' e e' i j r r' h. ap₂ (λ k l. is_eq (option_cmp key_cmp k l)) (one_key f d e r) (one_key f d' e' r') ∙ h) (matched f)
        (subst (IsDistinct (eq_by_cmp (by_key π))) (object_values f t) (values_distinct π t (no_identity_fault π t accepted) f keyed)))

    pub one_ranked : (o p : Placed) → In o (objects f u) → In p (objects f u) → rank_of π u f (key_of π o.value) ≡ rank_of π u f (key_of π p.value) → o ≡ p
    one_ranked o p in_o in_p same =
        let tied : by_key π o.value p.value ≡ Equal = rank_exact (λ (x : Placed). key_of π x.value) (options_total key_cmp_total)
        (objects f u) o p in_o in_p same in
        distinct_one (λ (x : Placed). x.value) (eq_by_cmp (by_key π)) (objects f u) written_distinct o p in_o in_p (ap is_eq tied)
        (ap is_eq (tied_back (by_key_total π) o.value p.value tied))

    pub rank_counted : (o : Placed) → In o (objects f u) → rank_of π u f (key_of π o.value) + 1 < 2 ^ 64
    rank_counted o h =
        let low : rank_of π u f (key_of π o.value) < length (objects f u) =
        rank_low (λ (x : Placed). key_of π x.value) (options_total key_cmp_total) (objects f u) o h in
        let few : length (objects f t) < 2 ^ 64 = bounded.few f in
        let same : length (objects f u) ≡ length (objects f t) = as_many f in
        omega (arith, low, few, same)

  -- ---- `@id`s

  dropped_id : (f : Family) (ms : Members) → Stands t (Object (role.OfFamily f)) (object ms) → (found : Option Data)
      → option_and_then as_str (option_and_then (viewed (style_of π t) (object ms) (scope_inside (Object (role.OfFamily f)) (object ms)) (codes "@id")) found)
      ≡ None
  dropped_id f ms h None = refl
  dropped_id f ms h (Some d) =
      let s = scope_inside (Object (role.OfFamily f)) (object ms) in
      let left : is_left_out s (codes "@id") d ≡ true = or_right (is_envelope s (codes "@id")) (is_dropped (want_of_name s (codes "@id")) d)
      (ap (λ a. is_dropped a d) (wants_id π t accepted tree f ms h)) in
      ap (λ b. option_and_then as_str (if b then None else Some (view (style_of π t) (object ms) (want_of_name s (codes "@id")) d))) left

  pub id_written : (o : Data) (f : Family) (d : Data) → IsHeld t o (Object (role.OfFamily f)) d
      → id_of (view (style_of π t) o (Some (Object (role.OfFamily f))) d) ≡ id_given π t o f d
  id_written o f d h =
      let i : ObjectIn t (role.OfFamily f) d = object_in t clean (role.OfFamily f) d
      (unrepeated t clean (Object (role.OfFamily f)) d h.stands.repeated refl h.stands.inside) in
      subst (λ x. id_of (view (style_of π t) o (Some (Object (role.OfFamily f))) x) ≡ id_given π t o f x) (sym i.is_object)
      (at i.ms (subst (IsHeld t o (Object (role.OfFamily f))) i.is_object h))
    where
      at : (ms : Members) → IsHeld t o (Object (role.OfFamily f)) (object ms) → id_of (view (style_of π t) o (Some (Object (role.OfFamily f))) (object ms))
          ≡ id_given π t o f (object ms)
      at ms h =
          ap (option_and_then as_str) (get_view (style_of π t) (object ms) (scope_inside (Object (role.OfFamily f)) (object ms))
          (as_member (id_given π t o f (object ms))) (codes "@id") ms ((goes_inward t clean tree).trees o (Object (role.OfFamily f)) (object ms) h))
          ∙ id_put (id_given π t o f (object ms))
          (option_and_then (viewed (style_of π t) (object ms) (scope_inside (Object (role.OfFamily f)) (object ms)) (codes "@id"))
          (get_member (codes "@id") ms))
          (dropped_id f ms h.stands (get_member (codes "@id") ms))

  pub ids_by_rank : (f : Family) → has_keys f ≡ true → (p : Placed) → In p (objects f u) → id_of p.value ≡ canonical_id f (rank_of π u f (key_of π p.value))
  ids_by_rank f keyed p h =
      let x = object_from f p h in
      ap id_of x.is ∙ id_written x.holder f x.from x.held ∙ given_by_key π t x.holder f x.from keyed ∙ ap (λ l. canonical_id f (rank_of π t f l))
      (one_key f x.from p.value x.related) ∙ ap (canonical_id f) (rank_kept f (key_of π p.value))

  -- ---- selections

  contest_want : (ms : Members) → Stands t (Object (role.OfFamily family.Contest)) (object ms)
      → (r : Bool) × (want_of_name (scope_inside (Object (role.OfFamily family.Contest)) (object ms)) (codes "ContestSelection")
      ≡ Some (Member (kind.Keyed family.Selection) r))
  contest_want ms h =
      let k = known π t accepted tree (role.OfFamily family.Contest) ms h in (
        false,
        ap (λ o. want_of_name (scope.Members (role.OfFamily family.Contest) o) (codes "ContestSelection")) k.at.among
            ∙ (asked_of_name (role.OfFamily family.Contest) k.class (codes "ContestSelection") refl
            ∙ ap Some (want_by_kind k.class (codes "ContestSelection") (kind.Keyed family.Selection) (contest_selections k.class k.role) refl)),
      )

  abbrev written_of : Data → List Data → List Data
  written_of c ds = map (view (style_of π t) c (Some (Object selection_role))) (rising_list (by_name π t) ds)

  list_written : (c d : Data) (r : Bool) → is_array d ≡ true → entries_of (view (style_of π t) c (Some (Member (kind.Keyed family.Selection) r)) d)
      ≡ written_of c (entries_of d)
  list_written c (array ds) r is = entries_viewed (style_of π t) c (Member (kind.Keyed family.Selection) r) ds
  list_written c d r is = cc

  found_selections : (o : Data) (ms : Members) → IsHeld t o (Object (role.OfFamily family.Contest)) (object ms) → (found : Option Data)
      → get_member (codes "ContestSelection") ms ≡ found → option_map_or entries_of
      (option_and_then (viewed (style_of π t) (object ms) (scope_inside (Object (role.OfFamily family.Contest)) (object ms)) (codes "ContestSelection"))
      found) [] ≡ written_of (object ms) (option_map_or entries_of found [])
  found_selections o ms h None is = refl
  found_selections o ms h (Some d) is = at (is_empty_array d) refl
    where
      s : Scope
      s = scope_inside (Object (role.OfFamily family.Contest)) (object ms)

      w : (r : Bool) × (want_of_name (scope_inside (Object (role.OfFamily family.Contest)) (object ms)) (codes "ContestSelection")
          ≡ Some (Member (kind.Keyed family.Selection) r))
      w = contest_want ms h.stands

      held : IsHeld t (object ms) (Member (kind.Keyed family.Selection) w.0) d
      held = (goes_inward t clean tree).members o (Object (role.OfFamily family.Contest)) (Member (kind.Keyed family.Selection) w.0) ms
          (codes "ContestSelection") d h w.1 is

      is_list : is_array d ≡ true
      is_list = wanted_within t clean (asked (Member (kind.Keyed family.Selection) w.0) d)
          (unrepeated t clean (Member (kind.Keyed family.Selection) w.0) d held.stands.repeated refl held.stands.inside)

      apart_here : is_envelope (scope_inside (Object (role.OfFamily family.Contest)) (object ms)) (codes "ContestSelection") ≡ false
      apart_here =
          let k = known π t accepted tree (role.OfFamily family.Contest) ms h.stands in
          ap (λ o. is_envelope (scope.Members (role.OfFamily family.Contest) o) (codes "ContestSelection")) k.at.among
          ∙ apart (role.OfFamily family.Contest) k.class (codes "ContestSelection") k.role (λ e. cc)

      left : is_left_out (scope_inside (Object (role.OfFamily family.Contest)) (object ms)) (codes "ContestSelection") d ≡ is_empty_array d
      left = ap₂ (λ a b. a || is_dropped b d) apart_here w.1

      at : (b : Bool) → is_empty_array d ≡ b
          → option_map_or entries_of (viewed (style_of π t) (object ms) (scope_inside (Object (role.OfFamily family.Contest)) (object ms))
          (codes "ContestSelection") d) [] ≡ written_of (object ms) (entries_of d)
      at true none =
          ap (λ b. option_map_or entries_of
          (if b then None
          else Some
          (view (style_of π t) (object ms) (want_of_name (scope_inside (Object (role.OfFamily family.Contest)) (object ms)) (codes "ContestSelection")) d))
          []) (left ∙ none) ∙ ap (λ x. written_of (object ms) (entries_of x)) (sym (empty_is d none))
      at false full =
          ap (λ b. option_map_or entries_of
          (if b then None
          else Some
          (view (style_of π t) (object ms) (want_of_name (scope_inside (Object (role.OfFamily family.Contest)) (object ms)) (codes "ContestSelection")) d))
          []) (left ∙ full) ∙ ap (λ a. entries_of (view (style_of π t) (object ms) a d)) w.1 ∙ list_written (object ms) d w.0 is_list

  -- the selections of a contest that is written
  pub selections_written : (o c : Data) → IsHeld t o (Object (role.OfFamily family.Contest)) c
      → entries_at (codes "ContestSelection") (view (style_of π t) o (Some (Object (role.OfFamily family.Contest))) c)
      ≡ written_of c (entries_at (codes "ContestSelection") c)
  selections_written o c h =
      let i : ObjectIn t (role.OfFamily family.Contest) c = object_in t clean (role.OfFamily family.Contest) c
      (unrepeated t clean (Object (role.OfFamily family.Contest)) c h.stands.repeated refl h.stands.inside) in
      subst (λ x. entries_at (codes "ContestSelection") (view (style_of π t) o (Some (Object (role.OfFamily family.Contest))) x)
      ≡ written_of x (entries_at (codes "ContestSelection") x)) (sym i.is_object)
      (at i.ms (subst (IsHeld t o (Object (role.OfFamily family.Contest))) i.is_object h))
    where
      at : (ms : Members) → IsHeld t o (Object (role.OfFamily family.Contest)) (object ms)
          → entries_at (codes "ContestSelection") (view (style_of π t) o (Some (Object (role.OfFamily family.Contest))) (object ms)) ≡ written_of (object ms)
          (entries_at (codes "ContestSelection") (object ms))
      at ms h =
          let q = id_given π t o family.Contest (object ms) in
          let x = option_and_then (viewed (style_of π t) (object ms) (scope_inside (Object (role.OfFamily family.Contest)) (object ms))
          (codes "ContestSelection")) (get_member (codes "ContestSelection") ms) in
          ap (λ f. option_map_or entries_of f [])
          (get_view (style_of π t) (object ms) (scope_inside (Object (role.OfFamily family.Contest)) (object ms)) (as_member q) (codes "ContestSelection") ms
          ((goes_inward t clean tree).trees o (Object (role.OfFamily family.Contest)) (object ms) h)
          ∙ not_put (as_member q) (codes "ContestSelection") x (put_apart q)) ∙ found_selections o ms h (get_member (codes "ContestSelection") ms) refl

  pub selection_held : (contest : Placed) → In contest (objects family.Contest t) → (d : Data) → In d (selection_values contest)
      → IsHeld t contest.value (Object selection_role) d
  selection_held contest of_report d h =
      let o = In-map_from (λ (p : Placed). p.value) (selections_of_contest contest) d (subst (λ xs. In d xs) (sym (listed contest)) h) in
      record {
        stands = subst (Stands t (Object selection_role)) o.2
            (record {
              repeated = false;
              inside = record {
                place = o.0.place;
                is = stands π t accepted family.Selection o.0 (In-flat_map selections_of_contest o.0 contest (contests t) of_report o.1);
              };
            });
        contest = (contest, of_report, refl, h);
      }

  pub selection_ids : (j : ℕ) (contest o : Placed) → In contest (objects family.Contest u) → slice_get (selections_of_contest contest) j ≡ Some o
      → id_of o.value ≡ Some (canonical_selection_id (rank_of π u family.Contest (key_of π contest.value)) j)
  selection_ids j contest o in_written at =
      let x = object_from family.Contest contest in_written in
      let c = value_placed family.Contest t x.from (part_of t (Object (role.OfFamily family.Contest)) x.from x.held.stands) in
      let es : List Data = rising_list (by_name π t) (selection_values c.0) in
      let there : selection_values contest ≡ written_of c.0.value (selection_values c.0) =
      ap (entries_at (codes "ContestSelection")) x.is ∙ selections_written x.holder x.from x.held
      ∙ ap (λ y. written_of y (entries_at (codes "ContestSelection") y)) (sym c.2) in
      let value : slice_get (written_of c.0.value (selection_values c.0)) j ≡ Some o.value =
      ap (λ xs. slice_get xs j) (sym there ∙ sym (listed contest)) ∙ slice_get-map (λ o. o.value) (selections_of_contest contest) j
      ∙ ap (option_map (λ o. o.value)) at in
      let e = option_map-Some (view (style_of π t) c.0.value (Some (Object selection_role))) (slice_get es j) o.value
      (sym (slice_get-map (view (style_of π t) c.0.value (Some (Object selection_role))) es j) ∙ value) in
      let held = selection_held c.0 c.1 e.0 (In-rising (by_name π t) e.0 (selection_values c.0) (in_at es j e.0 e.1)) in
      ap id_of (sym e.2) ∙ id_written c.0.value family.Selection e.0 held
      ∙ ap (λ n. Some (canonical_selection_id (rank_of π t family.Contest (key_of π c.0.value)) n)) (selection_ranks π t accepted c.0 c.1 j e.0 e.1)
      ∙ ap (λ k. Some (canonical_selection_id (rank_of π t family.Contest k) j)) (ap (key_of π) c.2 ∙ one_key family.Contest x.from contest.value x.related)
      ∙ ap (λ n. Some (canonical_selection_id n j)) (rank_kept family.Contest (key_of π contest.value))

  pub has_canonical_ids : HasCanonicalIds π (whole (style_of π t) t)
  has_canonical_ids = record {
    families = λ f o keyed there. ids_by_rank f keyed o (In-from_contains o (objects f u) there);
    selections = λ j contest o there at. selection_ids j contest o (In-from_contains contest (objects family.Contest u) there) at;
  }

  -- ---- a word counts the selections

  counted : (contest : Placed) → length (selections_of_contest contest) ≡ length (selection_values contest)
  counted contest = sym (length-map (selections_of_contest contest) (λ o. o.value)) ∙ ap length (listed contest)

  selection_low : (p : Placed) → In p (objects family.Contest u) → (j : ℕ) (q : Placed) → slice_get (selections_of_contest p) j ≡ Some q → j + 1 < 2 ^ 64
  selection_low p h j q at =
      let x = object_from family.Contest p h in
      let c = value_placed family.Contest t x.from (part_of t (Object (role.OfFamily family.Contest)) x.from x.held.stands) in
      let low : j < length (selections_of_contest p) = slice_get_within (selections_of_contest p) j q at in
      let few : length (selections_of_contest c.0) < 2 ^ 64 = few_selections t bounded c.0 c.1 in
      let es : List Data = rising_list (by_name π t) (selection_values c.0) in
      let same : length (selections_of_contest p) ≡ length (selections_of_contest c.0) =
      counted p ∙ ap (λ y. length (entries_at (codes "ContestSelection") y)) x.is ∙ ap length (selections_written x.holder x.from x.held)
      ∙ ap (λ y. length (written_of y (entries_at (codes "ContestSelection") y))) (sym c.2)
      ∙ length-map es (view (style_of π t) c.0.value (Some (Object selection_role))) ∙ length-rising (by_name π t) (selection_values c.0) ∙ sym (counted c.0) in
      omega (arith, low, few, same)

  pub one_selection : (c d o q : Placed) → In c (objects family.Contest u) → In d (objects family.Contest u) → In o (selections_of_contest c)
      → In q (selections_of_contest d) → id_of o.value ≡ id_of q.value → o ≡ q
  one_selection c d o q in_c in_d in_o in_q same =
      let j = position_of (selections_of_contest c) o in_o in
      let l = position_of (selections_of_contest d) q in_q in
      let n = canonical_selection_id_exact _ j.0 _ l.0 (rank_counted family.Contest refl c in_c) (selection_low c in_c j.0 o j.1)
      (rank_counted family.Contest refl d in_d) (selection_low d in_d l.0 q l.1)
      (same_Some _ _ (sym (selection_ids j.0 c o in_c j.1) ∙ same ∙ selection_ids l.0 d q in_d l.1)) in
      let one : c ≡ d = one_ranked family.Contest refl c d in_c in_d n.0 in
      same_Some o q (sym j.1 ∙ ap (λ x. slice_get (selections_of_contest x) j.0) one ∙ ap (slice_get (selections_of_contest d)) n.1 ∙ l.1)
