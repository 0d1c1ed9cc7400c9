-- What is written of an accepted report, object by object in the order of the sorted positions, is its view in the canonical
-- style.
use Rattle.erd_normal.proofs.Common.{◌≡◌, ℕ, ◌+◌, Bool, true, false, List, [], map, if◌then◌else◌, slice_get, Some, None, codes, Option, option_map_or}
use Rattle.erd_normal.proofs.Common.{bytes_eq, sym, refl, ap, ◌∙◌, subst, arith, filter, flat_map, option_cmp, key_cmp, Data, null, array, object, Items}
use Rattle.erd_normal.proofs.Common.{Members, get_member, kind_of_member, role_of_class, Class, class, Family, family, Role, role, MemberKind, kind, reason}
use Rattle.erd_normal.proofs.Common.{IsTree, In, In-flat_map, In-map_from, In-filter, in_at, faultless, wanted_within, kind_of_class, object_in, ObjectIn}
use Rattle.erd_normal.proofs.Common.{ShapeFault, NoneOf, entries_of, entries_at, list_of_items, is_array, array_from, class_of_object}
use Rattle.erd_normal.proofs.Common.{scope_inside, want_of_kind, asked, Within, scope, Member, Object, IsAccepted, no_shape_fault, skeleton, Skeleton}
use Rattle.erd_normal.proofs.Common.{election_stands, election_entries, Preference, key_of, has_keys, is_envelope_name, Placed, objects, elections, contests}
use Rattle.erd_normal.proofs.Common.{selections_of_contest, report_of, placed_entries, values-placed_entries, rising_list, rising_list_map, In-rising, by_key}
use Rattle.erd_normal.proofs.Common.{by_name, name_of, rank_of, rank_of_name, canonical_selection_id, id_of_key, selection_role, normal_value}
use Rattle.erd_normal.proofs.Common.{normal_object_with, with_id, in_envelope, array_of, unless_empty, written_selection, written_in_contest}
use Rattle.erd_normal.proofs.Common.{written_object_value, written_object, written_objects, written_election_value, written_election, written_elections}
use Rattle.erd_normal.proofs.Common.{written_report_value, objects_in_election, rising_objects, rising_elections, put_all, within-tree, stands}
use Rattle.erd_meaning.specs.code.Spots.{member_name}
use Rattle.erd_text.proofs.StableRising.{map_after}
use Rattle.erd_normal.proofs.inside.Homes.{contest_of_selections, elections_name, keyed_name, report_objects, of_envelope}
use Rattle.erd_normal.proofs.inside.Members.{Builder}
use Rattle.erd_normal.proofs.canonical.NormalKeys.{listed, selection_values, selection_ranks}
use Rattle.erd_normal.proofs.lists.Lists.{maps_agree}
use Rattle.erd_normal.proofs.ranks.SelectionRanks.{stands as standing, values}
use Rattle.erd_normal.proofs.ranks.WrittenTrees.{in_elections_kept, in_order, in_report_kept, is_in, map_by_place, values_in_election, written_tree}
use Rattle.erd_normal.proofs.view.Views.{viewed, written_entries}
use Rattle.erd_normal.proofs.view.CanonicalStyles.{Classed, apart, classed, given_by_key}
use Rattle.erd_normal.proofs.view.ValuesViewed.{content_viewed, is_flat_kind, kept_view, left_out_as, members_viewed, name_viewed, value_viewed}
use Rattle.erd_normal.specs.code.View.{as_member, id_given, style_of, view, view_members, whole}

abbrev is_object_flat : MemberKind → Bool
is_object_flat (kind.Keyed family.Selection) = true
is_object_flat kind.Content = true
is_object_flat k = is_flat_kind k

abbrev is_election_flat : MemberKind → Bool
is_election_flat (kind.Keyed f) = has_keys f
is_election_flat k = is_flat_kind k

abbrev is_report_flat : MemberKind → Bool
is_report_flat (kind.Keyed f) = has_keys f
is_report_flat kind.Elections = true
is_report_flat k = is_flat_kind k

selection_flat : (c : Class) (name : List ℕ) → bytes_eq name (codes "@type") ≡ false → role_of_class c ≡ selection_role
    → is_flat_kind (kind_of_member c name) ≡ true
selection_flat class.CandidateSelection name other r = kind_of_class is_flat_kind class.CandidateSelection name other refl refl refl refl
selection_flat c name other r = kind_of_class is_flat_kind c name other (cc) (cc) refl refl

object_flat : (c : Class) (f : Family) (name : List ℕ) → bytes_eq name (codes "@type") ≡ false → role_of_class c ≡ role.OfFamily f
    → is_object_flat (kind_of_member c name) ≡ true
object_flat class.Election f name other r = cc
object_flat c f name other r = kind_of_class is_object_flat c name other (cc) (cc) refl refl

put_id_in : (id : Option (List ℕ)) (xs : Members) → with_id id (object xs) ≡ object (put_all (as_member id) xs)
put_id_in (Some id) xs = refl
put_id_in None xs = refl

keyed_in_election : (f : Family) → kind_of_member class.Election (member_name f) ≡ kind.Keyed f → has_keys f ≡ true
keyed_in_election family.Selection is = cc
keyed_in_election f is = refl

keyed_in_report : (f : Family) → kind_of_member class.ElectionReport (member_name f) ≡ kind.Keyed f → has_keys f ≡ true
keyed_in_report family.Selection is = cc
keyed_in_report f is = refl

module _ (π : Preference) (t : Data) (accepted : IsAccepted π t) (tree : IsTree t) where
  abbrev clean : NoneOf (ShapeFault t)
  clean = no_shape_fault π t accepted

  -- an object with its canonical `@id`, where what becomes of its members is their view
  object_as : (r : Role) (ms : Members) (x : Classed t r ms) (id : Option (List ℕ)) (value_of : Builder)
      → ((name : List ℕ) (d : Data) → get_member name ms ≡ Some d → value_of name (kind_of_member x.class name) d ≡ viewed (style_of π t) (object ms)
      (scope_inside (Object r) (object ms)) name d) → with_id id (normal_object_with value_of (class_of_object r (object ms)) (object ms))
      ≡ object (put_all (as_member id) (view_members (style_of π t) (object ms) (scope_inside (Object r) (object ms)) ms))
  object_as r ms x id value_of each =
      ap (λ c. with_id id (normal_object_with value_of c (object ms))) x.at.among ∙ ap (λ xs. with_id id (object xs))
      (members_viewed π t accepted tree r x.class ms (within-tree t (asked (Object r) (object ms)) tree x.at.inside) value_of each)
      ∙ put_id_in id (view_members (style_of π t) (object ms) (scope_inside (Object r) (object ms)) ms)

  -- ---- selections

  selection_as : (contest : Data) (m : ℕ) (d : Data) → Within t (asked (Object selection_role) d)
      → rank_of_name π t (entries_at (codes "ContestSelection") contest) (name_of π t d) ≡ m
      → written_selection π t contest m d ≡ view (style_of π t) contest (Some (Object selection_role)) d
  selection_as contest m d w ranked =
      let i : ObjectIn t selection_role d = object_in t clean selection_role d w in
      subst (λ x. rank_of_name π t (entries_at (codes "ContestSelection") contest) (name_of π t x) ≡ m → written_selection π t contest m x
      ≡ view (style_of π t) contest (Some (Object selection_role)) x) (sym i.is_object)
      (at i.ms (subst (λ x. Within t (asked (Object selection_role) x)) i.is_object w)) ranked
    where
      at : (ms : Members) → Within t (asked (Object selection_role) (object ms)) → rank_of_name π t (entries_at (codes "ContestSelection") contest)
          (name_of π t (object ms)) ≡ m → written_selection π t contest m (object ms) ≡ view (style_of π t) contest (Some (Object selection_role)) (object ms)
      at ms w ranked =
          let x = classed t clean selection_role ms w in
          object_as selection_role ms x (Some (canonical_selection_id (rank_of π t family.Contest (key_of π contest)) m)) (λ name k v. normal_value π t k v)
          (λ name d found.
          name_viewed π t accepted tree selection_role x.class ms x.at (λ k. normal_value π t k d) name d found
          (apart selection_role x.class name x.role (λ e. cc)) refl refl
          (λ required other inside. value_viewed π t accepted tree (kind_of_member x.class name) required (object ms) d
          (selection_flat x.class name other x.role) inside))
          ∙ ap (λ n. object (put_all (as_member (Some (canonical_selection_id (rank_of π t family.Contest (key_of π contest)) n)))
          (view_members (style_of π t) (object ms) (scope_inside (Object selection_role) (object ms)) ms))) (sym ranked)

  selections_as : (contest : Placed) → In contest (objects family.Contest t)
      → written_in_contest π t contest.value ≡ map (view (style_of π t) contest.value (Some (Object selection_role)))
      (rising_list (by_name π t) (entries_at (codes "ContestSelection") contest.value))
  selections_as contest h =
      map_by_place (written_selection π t contest.value) (view (style_of π t) contest.value (Some (Object selection_role))) 0
      (rising_list (by_name π t) (entries_at (codes "ContestSelection") contest.value))
      (λ j d at.
      let count : j + 0 ≡ j = omega arith in
      let o = In-map_from (λ (p : Placed). p.value) (selections_of_contest contest) d
      (subst (λ xs. In d xs) (sym (listed contest))
      (In-rising (by_name π t) d (selection_values contest) (in_at (rising_list (by_name π t) (selection_values contest)) j d at))) in
      let w : Within t (asked (Object selection_role) d) =
      subst (λ x. Within t (asked (Object selection_role) x)) o.2
      (record { place = o.0.place; is = stands π t accepted family.Selection o.0 (In-flat_map selections_of_contest o.0 contest (contests t) h o.1) }) in
      ap (λ m. written_selection π t contest.value m d) count ∙ selection_as contest.value j d w (selection_ranks π t accepted contest h j d at))

  -- what is written of an array of objects
  set_as : (o : Data) (k : MemberKind) (r : Bool) (d : Data) (xs : List Data) → is_array d ≡ true
      → (is_array d ≡ true → (ds : Items) → d ≡ array ds → array_of xs ≡ view (style_of π t) o (Some (Member k r)) (array ds))
      → array_of xs ≡ view (style_of π t) o (Some (Member k r)) d
  set_as o k r d xs is each = let ds = array_from d is in subst (λ x. array_of xs ≡ view (style_of π t) o (Some (Member k r)) x) (sym ds.1) (each is ds.0 ds.1)

  -- ---- an object of a family

  module _ (f : Family) (j : ℕ) (o : Placed) (h : In o (objects f t)) (at : slice_get (objects f t) j ≡ Some o) where
    chosen_as : (c : Class) (ms : Members) (name : List ℕ) (d : Data) (r : Bool) → role_of_class c ≡ role.OfFamily f → o.value ≡ object ms → get_member name ms
        ≡ Some d → kind_of_member c name ≡ kind.Keyed family.Selection → Within t (asked (Member (kind.Keyed family.Selection) r) d)
        → written_object_value π t j (kind.Keyed family.Selection) d ≡ kept_view π t (object ms) (Some (Member (kind.Keyed family.Selection) r)) d
    chosen_as c ms name d r of is found named w =
        let called : name ≡ codes "ContestSelection" = keyed_name c name family.Selection named in
        let contest : f ≡ family.Contest = contest_of_selections c f of (ap (kind_of_member c) (sym called) ∙ named) in
        let here : entries_at (codes "ContestSelection") o.value ≡ entries_of d =
        ap (entries_at (codes "ContestSelection")) is ∙ ap (λ x. option_map_or entries_of x []) (ap (λ n. get_member n ms) (sym called) ∙ found) in
        let them = ap (λ x. option_map_or (λ (o : Placed). written_in_contest π t o.value) x []) (subst (λ g. slice_get (objects g t) j ≡ Some o) contest at)
        ∙ selections_as o (subst (λ g. In o (objects g t)) contest h) in
        left_out_as d
        (ap array_of them ∙ set_as (object ms) (kind.Keyed family.Selection) r d _ (wanted_within t clean (asked (Member (kind.Keyed family.Selection) r) d) w)
        (λ array_is ds same.
        ap array_of
        (ap (λ x. map (view (style_of π t) x (Some (Object selection_role))) (rising_list (by_name π t) (entries_at (codes "ContestSelection") o.value))) is
        ∙ ap (λ xs. map (view (style_of π t) (object ms) (Some (Object selection_role))) (rising_list (by_name π t) xs)) (here ∙ ap entries_of same)
        ∙ sym (written_entries (style_of π t) (object ms) (Member (kind.Keyed family.Selection) r) ds))))

    object_value_as : (c : Class) (ms : Members) (name : List ℕ) (d : Data) (r : Bool) → role_of_class c ≡ role.OfFamily f → o.value ≡ object ms
        → get_member name ms ≡ Some d → (k : MemberKind) → kind_of_member c name ≡ k
        → is_object_flat k ≡ true → Within t (asked (want_of_kind k r) d) → written_object_value π t j k d ≡ kept_view π t (object ms)
        (Some (want_of_kind k r)) d
    object_value_as c ms name d r of is found (kind.Keyed family.Selection) named flat w = chosen_as c ms name d false of is found named w
    object_value_as c ms name d r of is found kind.Content named flat w =
        left_out_as d (content_viewed π t accepted tree d (object ms) false w)
    object_value_as c ms name d r of is found (kind.Keyed f) named flat w = cc
    object_value_as c ms name d r of is found k named flat w = value_viewed π t accepted tree k r (object ms) d flat w

    object_written : has_keys f ≡ true → (holder : Data) → written_object π t f j o.value ≡ view (style_of π t) holder (Some (Object (role.OfFamily f))) o.value
    object_written keyed holder =
        let w : Within t (asked (Object (role.OfFamily f)) o.value) = record { place = o.place; is = stands π t accepted f o h } in
        let i : ObjectIn t (role.OfFamily f) o.value = object_in t clean (role.OfFamily f) o.value w in
        subst (λ x. o.value ≡ x → written_object π t f j x ≡ view (style_of π t) holder (Some (Object (role.OfFamily f))) x) (sym i.is_object)
        (built i.ms (subst (λ x. Within t (asked (Object (role.OfFamily f)) x)) i.is_object w)) refl
      where
        built : (ms : Members) → Within t (asked (Object (role.OfFamily f)) (object ms)) → o.value ≡ object ms → written_object π t f j (object ms)
            ≡ view (style_of π t) holder (Some (Object (role.OfFamily f))) (object ms)
        built ms w is =
            let x = classed t clean (role.OfFamily f) ms w in
            object_as (role.OfFamily f) ms x (id_of_key π t f (key_of π (object ms))) (λ name k v. written_object_value π t j k v)
            (λ name d found.
            name_viewed π t accepted tree (role.OfFamily f) x.class ms x.at (λ k. written_object_value π t j k d) name d found
            (apart (role.OfFamily f) x.class name x.role (λ e. cc)) refl refl
            (λ required other inside. object_value_as x.class ms name d required x.role is found (kind_of_member x.class name) refl
            (object_flat x.class f name other x.role) inside))
            ∙ ap (λ id. object (put_all (as_member id) (view_members (style_of π t) (object ms) (scope_inside (Object (role.OfFamily f)) (object ms)) ms)))
            (sym (given_by_key π t holder f (object ms) keyed))

  -- ---- the objects of a family in one election, or in the report

  objects_written : (f : Family) → has_keys f ≡ true → (holder : Data) (i : ℕ) (ds : List Data) → map (λ o. o.value) (filter (is_in i) (objects f t)) ≡ ds
      → written_objects π t f i ≡ map (view (style_of π t) holder (Some (Object (role.OfFamily f)))) (rising_list (by_key π) ds)
  objects_written f keyed holder i ds is =
      maps_agree (λ (o : ℕ × Placed). written_object π t f o.0 o.1.value) (λ o. view (style_of π t) holder (Some (Object (role.OfFamily f))) o.1.value)
      (objects_in_election π t f i) (λ o h.
      let there = standing (option_cmp key_cmp) (λ (o : Placed). key_of π o.value) (objects f t) o
      (subst (In o) (in_order π t f keyed) (In-filter _ o (rising_objects π t f) h).0) in
      object_written f o.0 o.1 (in_at (objects f t) o.0 o.1 there) there keyed holder)
      ∙ (map_after (λ (o : ℕ × Placed). o.1.value) (view (style_of π t) holder (Some (Object (role.OfFamily f)))) (objects_in_election π t f i)
      ∙ ap (map (view (style_of π t) holder (Some (Object (role.OfFamily f))))) (values_in_election π t f keyed i ∙ ap (rising_list (by_key π)) is))

  -- the array of them
  array_written : (f : Family) → has_keys f ≡ true → (holder : Data) (r : Bool) (i : ℕ) (d : Data) → map (λ o. o.value) (filter (is_in i) (objects f t))
      ≡ entries_of d → Within t (asked (Member (kind.Keyed f) r) d)
      → unless_empty (array_of (written_objects π t f i)) d ≡ kept_view π t holder (Some (Member (kind.Keyed f) r)) d
  array_written family.Selection keyed holder r i d is w = cc
  array_written f keyed holder r i d is w =
      left_out_as d
      (set_as holder (kind.Keyed f) r d (written_objects π t f i) (wanted_within t clean (asked (Member (kind.Keyed f) r) d) w)
      (λ array_is ds same. ap array_of (objects_written f refl holder i (list_of_items ds) (is ∙ ap entries_of same)
      ∙ sym (written_entries (style_of π t) holder (Member (kind.Keyed f) r) ds))))

  module _ (s : Skeleton t) where
    -- ---- the elections

    module _ (i : ℕ) (e : Placed) (at : slice_get (elections t) i ≡ Some e) where
      held : (name : List ℕ) → map (λ o. o.value) (filter (is_in i) (flat_map (placed_entries name) (elections t))) ≡ entries_at name e.value
      held name = ap (map (λ (o : Placed). o.value)) (in_elections_kept t name i ∙ ap (λ o. option_map_or (placed_entries name) o []) at)
          ∙ values-placed_entries name e

      held_here : (f : Family) → kind_of_member class.Election (member_name f) ≡ kind.Keyed f → map (λ o. o.value) (filter (is_in i) (objects f t))
          ≡ entries_at (member_name f) e.value
      held_here family.Candidate is = held (codes "Candidate")
      held_here family.Contest is = held (codes "Contest")
      held_here family.Style is = held (codes "BallotStyle")
      held_here f is = cc

      election_value_as : (ms : Members) (name : List ℕ) (d : Data) (r : Bool) → e.value ≡ object ms → get_member name ms ≡ Some d → (k : MemberKind)
          → kind_of_member class.Election name ≡ k → is_election_flat k ≡ true
          → Within t (asked (want_of_kind k r) d) → written_election_value π t i k d ≡ kept_view π t (object ms) (Some (want_of_kind k r)) d
      election_value_as ms name d r is found (kind.Keyed f) named flat w =
          let called : name ≡ member_name f = keyed_name class.Election name f named in
          let keyed : kind_of_member class.Election (member_name f) ≡ kind.Keyed f = ap (kind_of_member class.Election) (sym called) ∙ named in
          array_written f (keyed_in_election f keyed) (object ms) false i d
          (held_here f keyed ∙ ap (entries_at (member_name f)) is ∙ ap (λ x. option_map_or entries_of x []) (ap (λ n. get_member n ms) (sym called) ∙ found)) w
      election_value_as ms name d r is found k named flat w = value_viewed π t accepted tree k r (object ms) d flat w

      election_written : (holder : Data) → written_election π t i e.value ≡ view (style_of π t) holder (Some (Object role.Election)) e.value
      election_written holder =
          let w : Within t (asked (Object role.Election) e.value) = record { place = e.place; is = election_stands t s e (in_at (elections t) i e at) } in
          let x : ObjectIn t role.Election e.value = object_in t clean role.Election e.value w in
          subst (λ y. e.value ≡ y → written_election π t i y ≡ view (style_of π t) holder (Some (Object role.Election)) y) (sym x.is_object)
          (built x.ms (subst (λ y. Within t (asked (Object role.Election) y)) x.is_object w)) refl
        where
          built : (ms : Members) → Within t (asked (Object role.Election) (object ms)) → e.value ≡ object ms → written_election π t i (object ms)
              ≡ view (style_of π t) holder (Some (Object role.Election)) (object ms)
          built ms w is =
              let x = classed t clean role.Election ms w in
              let election : x.class ≡ class.Election = Rattle.erd_normal.proofs.Common.election_class x.class x.role in
              object_as role.Election ms x None (λ name k v. written_election_value π t i k v)
              (λ name d found.
              name_viewed π t accepted tree role.Election x.class ms x.at (λ k. written_election_value π t i k d) name d found
              (apart role.Election x.class name x.role (λ e. cc)) refl refl
              (λ required other inside.
              election_value_as ms name d required is found (kind_of_member x.class name) (ap (λ c. kind_of_member c name) (sym election))
              (ap (λ c. is_election_flat (kind_of_member c name)) election ∙ kind_of_class is_election_flat class.Election name other refl refl refl refl)
              inside))

    elections_written : (holder : Data) → written_elections π t ≡ map (view (style_of π t) holder (Some (Object role.Election)))
        (rising_list (by_key π) (list_of_items s.es))
    elections_written holder =
        maps_agree (λ (e : ℕ × Placed). written_election π t e.0 e.1.value) (λ e. view (style_of π t) holder (Some (Object role.Election)) e.1.value)
        (rising_elections π t) (λ e h.
        election_written e.0 e.1 (standing (option_cmp key_cmp) (λ (o : Placed). key_of π o.value) (elections t) e h) holder)
        ∙ (map_after (λ (e : ℕ × Placed). e.1.value) (view (style_of π t) holder (Some (Object role.Election))) (rising_elections π t)
        ∙ ap (map (view (style_of π t) holder (Some (Object role.Election))))
        (map_after (λ (e : ℕ × Placed). e.1) (λ (o : Placed). o.value) (rising_elections π t)
        ∙ (ap (map (λ (o : Placed). o.value)) (values (option_cmp key_cmp) (λ (o : Placed). key_of π o.value) (elections t))
        ∙ (rising_list_map (λ (o : Placed). o.value) (by_key π) (elections t)
        ∙ ap (rising_list (by_key π)) (values-placed_entries (codes "Election") (report_of t) ∙ election_entries t s)))))

    -- ---- the report

    held_by_report : (f : Family) → kind_of_member class.ElectionReport (member_name f) ≡ kind.Keyed f → filter (is_in 0) (objects f t) ≡ objects f t
    held_by_report family.Candidate is = cc
    held_by_report family.Contest is = cc
    held_by_report family.Style is = cc
    held_by_report family.Selection is = cc
    held_by_report f is = in_report_kept t (member_name f) refl 0

    listed_as : (holder d : Data) → d ≡ array s.es → Within t (asked (Member kind.Elections false) d) → Some (array_of (written_elections π t))
        ≡ kept_view π t holder (Some (Member kind.Elections false)) d
    listed_as holder d same w =
        ap Some
        (set_as holder kind.Elections false d (written_elections π t) (wanted_within t clean (asked (Member kind.Elections false) d) w)
        (λ array_is ds is.
        let one : array ds ≡ array s.es = sym is ∙ same in
        ap array_of (elections_written holder ∙ ap (λ x. map (view (style_of π t) holder (Some (Object role.Election))) (rising_list (by_key π) (entries_of x)))
        (sym one) ∙ sym (written_entries (style_of π t) holder (Member kind.Elections false) ds))))
        ∙ ap (λ b. if b then None else Some (view (style_of π t) holder (Some (Member kind.Elections false)) d))
        (sym (faultless t clean (asked (Member kind.Elections false) d) reason.ElectionCount w))

    report_value_as : (name : List ℕ) (d : Data) (r : Bool) → is_envelope_name name ≡ false → get_member name s.ms ≡ Some d → (k : MemberKind)
        → kind_of_member class.ElectionReport name ≡ k → is_report_flat k ≡ true
        → Within t (asked (want_of_kind k r) d) → written_report_value π t name k d ≡ kept_view π t (object s.ms) (Some (want_of_kind k r)) d
    report_value_as name d r other found (kind.Keyed f) named flat w =
        let called : name ≡ member_name f = keyed_name class.ElectionReport name f named in
        let is : kind_of_member class.ElectionReport (member_name f) ≡ kind.Keyed f = ap (kind_of_member class.ElectionReport) (sym called) ∙ named in
        array_written f (keyed_in_report f is) (object s.ms) false 0 d
        (ap (map (λ (o : Placed). o.value)) (held_by_report f is) ∙ report_objects t s f d is (ap (λ n. get_member n s.ms) (sym called) ∙ found)) w
    report_value_as name d r other found kind.Elections named flat w =
        let called : name ≡ codes "Election" = elections_name class.ElectionReport name named in
        let listed : Some d ≡ Some (array s.es) = sym found ∙ (ap (λ n. get_member n s.ms) called ∙ s.listed) in
        let same : d ≡ array s.es = cc in
        listed_as (object s.ms) d same w
    report_value_as name d r other found k named flat w = ap (λ b. if b then None else normal_value π t k d) other
        ∙ value_viewed π t accepted tree k r (object s.ms) d flat w

    none_of_envelope : (name : List ℕ) (d : Data) → is_envelope_name name ≡ true → written_report_value π t name (kind_of_member class.ElectionReport name) d
        ≡ None
    none_of_envelope name d = of_envelope (λ n. written_report_value π t n (kind_of_member class.ElectionReport n) d ≡ None) refl refl refl refl refl
        refl refl refl refl name

    report_name_as : (name : List ℕ) (d : Data) → get_member name s.ms ≡ Some d
        → written_report_value π t name (kind_of_member class.ElectionReport name) d ≡ viewed (style_of π t) (object s.ms)
        (scope_inside (Object role.Report) (object s.ms)) name d
    report_name_as name d found = at (is_envelope_name name) refl
      where
        at : (b : Bool) → is_envelope_name name ≡ b → written_report_value π t name (kind_of_member class.ElectionReport name) d ≡ viewed (style_of π t)
            (object s.ms) (scope_inside (Object role.Report) (object s.ms)) name d
        at true is =
            none_of_envelope name d is ∙ sym (ap (λ o. viewed (style_of π t) (object s.ms) (scope.Members role.Report o) name d) s.report.among
            ∙ ap (λ b. if Rattle.erd_normal.proofs.Common.◌||◌ b
            (Rattle.erd_normal.specs.code.View.is_dropped
            (Rattle.erd_normal.proofs.Common.want_of_name (scope.Members role.Report (Some class.ElectionReport)) name) d) then None
            else Some
            (view (style_of π t) (object s.ms) (Rattle.erd_normal.proofs.Common.want_of_name (scope.Members role.Report (Some class.ElectionReport)) name)
            d)) is)
        at false is =
            name_viewed π t accepted tree role.Report class.ElectionReport s.ms s.report (λ k. written_report_value π t name k d) name d found is
            (ap (λ b. if b then None else Some d) is) (ap (λ b. if b then None else Some d) is)
            (λ required other inside. report_value_as name d required is found (kind_of_member class.ElectionReport name) refl
            (kind_of_class is_report_flat class.ElectionReport name other refl refl refl refl) inside)

    report_written : written_tree π t ≡ whole (style_of π t) t
    report_written =
        ap (λ x. in_envelope (normal_object_with (written_report_value π t) (class_of_object role.Report x) x)) s.is_object
        ∙ ap (λ c. in_envelope (normal_object_with (written_report_value π t) c (object s.ms))) s.report.among
        ∙ ap (λ xs. in_envelope (object xs)) (members_viewed π t accepted tree role.Report class.ElectionReport s.ms (subst IsTree s.is_object tree)
        (written_report_value π t) report_name_as) ∙ ap (view (style_of π t) null (Some (Object role.Report))) (sym s.is_object)

  -- the tree that is written is the view of the report
  pub written_is_view : written_tree π t ≡ whole (style_of π t) t
  written_is_view = report_written (skeleton π t accepted)
