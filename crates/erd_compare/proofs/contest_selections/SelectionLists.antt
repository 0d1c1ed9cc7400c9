-- The differences at the names of selections, one name after another in rising order, are all differences of two contests.
use Rattle.erd_compare.proofs.Common.{[], ◌≡◌, ◌⊎◌, ℕ, ◌+◌, Bool, true, List, ◌∷◌, ◌++◌, map, drop, Some, Option, Less, sym, refl, ap, ◌∙◌, subst, inl, inr}
use Rattle.erd_compare.proofs.Common.{tied_itself, append-nil, Bor, AllByRecursion, In, In-map, In-map_from, In-all, ordering_then, How, Member, AgreeBut}
use Rattle.erd_compare.proofs.Common.{DifferIn, Stands, hows_of, AreWays, Ways, NameParts, length, ◌≤◌, slice_get, map-append, drop_all, Data, Value, view}
use Rattle.std.specs.List.Sorted.{IsStrictlySortedBy}
use Rattle.erd_check.proofs.Order.{In-append, all_from_In, sorted_append, sorted_map}
use Rattle.erd_meaning.proofs.selections.ContestSelections.{all_both}
use Rattle.erd_meaning.specs.SelectionNames.{name_cmp}
use Rattle.erd_meaning.specs.code.Orders.{name_cmp_total}
use Rattle.erd_compare.specs.SelectionDifferences.{selection_difference_cmp, text_size, AreSelectionDifferences, AreUnlikeSelections, SelectionMap}
use Rattle.erd_compare.specs.code.ContestSelections.{differences_at, differences_named, if_left, size_of_one, whole_record, Leaves, PassesInside}
use Rattle.erd_compare.specs.code.NamedSelections.{named_cmp, names_of, AreAllWays}
use Rattle.erd_compare.specs.declared.inside.SelectionDifference.{SelectionDifference}
use Rattle.erd_compare.specs.declared.inside.named.NamedWays.{NamedWays}
use Rattle.erd_compare.proofs.contest_selections.ContestRecords.{agree_plain, differ_plain}
use Rattle.erd_compare.proofs.contest_selections.SelectionTexts.{same_size}
use denote.Param.Members.{Mut}
use Rattle.std.proofs.Common.{IsSortedBy}
use Rattle.erd_text.proofs.Common.{is_lt, on_total, ranks_by, rising_list, IsStrictWeakOrder, Ordering}
use Rattle.std.proofs.lemmas.Fn.{always_returns_same}
use Rattle.std.specs.Fn.{Called, ComparesAs}
use Rattle.std.specs.List.Sorted.{IsStableBy}
use Rattle.erd_text.proofs.RisingLists.{rising_from_sort}
use Rattle.erd_text.proofs.RisingOrders.{all_rising, reordered_flat, reordered_rising, rising-In, rising_strictly}
use Rattle.std.proofs.lemmas.List.Sorted.{sum_by-IsPermutation}
use Rattle.erd_compare.proofs.differing.RecordWays.{agree_more, way_cmp, ways_all, ways_rise, ways_sound}
use Rattle.erd_compare.proofs.differing.Walks.{stands_before, stands_behind, to_in, to_stands}
use Rattle.std.proofs.lemmas.List.{append_assoc}
use Rattle.erd_check.proofs.Positions.{left_there}

abbrev the_difference : NameParts → How → SelectionDifference
the_difference name how = record { name = name; how = how }

-- at one name they are compared by their ways, and else by their names
at_one_name : (name : NameParts) (h g : How) → way_cmp h g ≡ Less → selection_difference_cmp (the_difference name h) (the_difference name g) ≡ Less
at_one_name name h g low = ap (λ o. ordering_then o (way_cmp h g)) (tied_itself name_cmp_total name) ∙ low

by_names : (d e : SelectionDifference) → name_cmp d.name e.name ≡ Less → selection_difference_cmp d e ≡ Less
by_names d e low = ap (λ o. ordering_then o (way_cmp d.how e.how)) low

module _ (m n : SelectionMap) where
  abbrev Told : List SelectionDifference → NameParts → How → Type 0
  Told ds name how = Stands (the_difference name how) ds

  -- all differences at the names before these were told
  pub record ArePassed (found : List SelectionDifference) (rest : List NameParts) : Type 0 where
    pub rise : IsStrictlySortedBy selection_difference_cmp found
    pub differ : AllByRecursion (AreUnlikeSelections m n) found
    pub left : IsStrictlySortedBy name_cmp rest
    pub below : (d : SelectionDifference) → In d found → (x : NameParts) → In x rest → name_cmp d.name x ≡ Less
    pub each : (x : NameParts) → Stands x rest ⊎ AgreeBut (Told found x) (m x) (n x)

  -- at first none was
  none_passed : (names : List NameParts) → IsStrictlySortedBy name_cmp names → ((x : NameParts) → Stands x names ⊎ AgreeBut (λ how. ⊥) (m x) (n x))
      → ArePassed [] names
  unfolding IsStrictlySortedBy
  none_passed names rise each = record { rise = tt; differ = tt; left = rise; below = λ d none. absurd none; each = each }

  -- those at the next one are told
  module _ (found : List SelectionDifference) (x : NameParts) (rest : List NameParts) (w : Ways) (h : ArePassed found (x ∷ rest))
      (ways : AreWays true (whole_record (m x)) (whole_record (n x)) w) where
    abbrev new : List SelectionDifference
    new = differences_named x w

    way_of : (e : SelectionDifference) → In e new → (how : How) × In how (hows_of w) × (the_difference x how ≡ e)
    way_of e i = In-map_from (the_difference x) (hows_of w) e i

    its_name : (e : SelectionDifference) → In e new → x ≡ e.name
    its_name e i = ap (λ (d : SelectionDifference). d.name) (way_of e i).2

    more : (y : NameParts) (how : How) → Told found y how → Told (found ++ new) y how
    more y how s = stands_before (the_difference y how) found new s

    here : AgreeBut (Told (found ++ new) x) (m x) (n x)
    here =
        agree_more (λ how. Stands how (hows_of w)) (Told (found ++ new) x)
        (λ how s. stands_behind (the_difference x how) found new
        (to_stands (the_difference x how) new (In-map (the_difference x) how (hows_of w) (to_in how (hows_of w) s)))) (m x) (n x)
        (agree_plain (λ how. Stands how (hows_of w)) (m x) (n x) (ways_all (whole_record (m x)) (whole_record (n x)) w ways))

    one_passed : ArePassed (found ++ new) rest
    unfolding IsStrictlySortedBy
    one_passed = record {
      rise = sorted_append selection_difference_cmp found new h.rise
          (sorted_map (the_difference x) way_cmp selection_difference_cmp (at_one_name x) (hows_of w)
          (ways_rise true (whole_record (m x)) (whole_record (n x)) w ways))
          (λ d e i j. by_names d e (subst (λ y. name_cmp d.name y ≡ Less) (its_name e j) (h.below d i x (inl refl))));
      differ = all_both (AreUnlikeSelections m n) found new h.differ
          (all_from_In (AreUnlikeSelections m n) new (λ e i.
          let way = way_of e i in
          subst (AreUnlikeSelections m n) way.2
          (differ_plain (m x) (n x) way.0 (In-all (DifferIn (whole_record (m x)) (whole_record (n x))) way.0 (hows_of w)
          (ways_sound true (whole_record (m x)) (whole_record (n x)) w ways) way.1))));
      left = h.left.1;
      below = λ d i y j. elim (In-append d found new i) [
        | inl old ↦ h.below d old y (inr j)
        | inr now ↦ subst (λ z. name_cmp z y ≡ Less) (its_name d now) (In-all (λ z. name_cmp x z ≡ Less) y rest h.left.0 j)
      ];
      each = λ y. elim (h.each y) [
        | inl (inl same) ↦ inr (subst (λ z. AgreeBut (Told (found ++ new) z) (m z) (n z)) same here)
        | inl (inr stands) ↦ inl stands
        | inr agree ↦ inr (agree_more (Told found y) (Told (found ++ new) y) (more y) (m y) (n y) agree)
      ];
    }

  -- at the end they are all
  all_passed : (found : List SelectionDifference) (rest : List NameParts) → rest ≡ [] → ArePassed found rest → AreSelectionDifferences m n found
  all_passed found rest end h = record {
    rise = h.rise;
    differ = h.differ;
    all = λ x. elim (h.each x) [
      | inl stands ↦ absurd (subst (Stands x) end stands)
      | inr agree ↦ agree
    ];
  }

  -- ---- the ways at all names, in their order

  abbrev HaveWays : List NamedWays → Type 0
  HaveWays vs = AllByRecursion (λ v. AreWays true (whole_record (m v.name.now)) (whole_record (n v.name.now)) v.ways) vs

  passed_on : (found : List SelectionDifference) (vs : List NamedWays) → ArePassed found (names_of vs) → HaveWays vs
      → AreSelectionDifferences m n (found ++ differences_at vs)
  passed_on found [] h ways = subst (AreSelectionDifferences m n) (sym (append-nil found)) (all_passed found [] refl h)
  passed_on found (v ∷ vs) h ways =
      let new = differences_named v.name.now v.ways in
      subst (AreSelectionDifferences m n) (append_assoc found new (differences_at vs))
      (passed_on (found ++ new) vs (one_passed found v.name.now (names_of vs) v.ways h ways.0) ways.1)

  module _ (vs : List NamedWays) (h : AreAllWays m n vs) where
    abbrev rising : List NamedWays
    rising = rising_list named_cmp vs

    names_rise : IsStrictlySortedBy name_cmp (names_of rising)
    names_rise = sorted_map (λ (v : NamedWays). v.name.now) named_cmp name_cmp (λ x y low. low) rising
        (rising_strictly (on_total (λ (v : NamedWays). v.name.now) name_cmp_total) vs h.once)

    still_there : (x : NameParts) → Stands x (names_of vs) → Stands x (names_of rising)
    still_there x s =
        let v = In-map_from (λ (v : NamedWays). v.name.now) vs x (to_in x (names_of vs) s) in
        subst (λ y. Stands y (names_of rising)) v.2
        (to_stands v.0.name.now (names_of rising) (In-map (λ (v : NamedWays). v.name.now) v.0 rising (rising-In named_cmp v.0 vs v.1)))

    -- the differences at the names in rising order are all of them
    pub all_in_order : AreSelectionDifferences m n (differences_at rising)
    all_in_order =
        passed_on [] rising
        (none_passed (names_of rising) names_rise (λ x. elim (h.each x) [
          | inl stands ↦ inl (still_there x stands)
          | inr agree ↦ inr agree
        ]))
        (all_rising (λ (v : NamedWays). AreWays true (whole_record (m v.name.now)) (whole_record (n v.name.now)) v.ways) named_cmp vs h.ways)

-- their text has as many bytes as in any other order
pub size_in_order : (vs : List NamedWays) → text_size (Some (differences_at vs)) ≡ text_size (Some (differences_at (rising_list named_cmp vs)))
size_in_order vs =
    let rising = rising_list named_cmp vs in
    same_size (differences_at vs) (differences_at rising)
    (sym (sum_by-IsPermutation size_of_one (differences_at vs) (differences_at rising)
    (reordered_flat (λ (v : NamedWays). differences_named v.name.now v.ways) (reordered_rising named_cmp vs))))

-- the sort puts them into this order
pub sorted_by_name : {F : Type 0} {g : Mut F (Bor NamedWays × (Bor NamedWays × Unit {0})) Ordering} {f : F} (old new : List NamedWays)
    → ((lt : NamedWays → NamedWays → Bool) → IsStrictWeakOrder lt → ComparesAs g lt f → IsSortedBy lt new)
    → ((lt : NamedWays → NamedWays → Bool) → IsStrictWeakOrder lt → ComparesAs g lt f → IsStableBy lt old new)
    → ((a : Bor NamedWays × (Bor NamedWays × Unit {0})) (r : Ordering) (f' : F) → Called g f a r f' → (r ≡ named_cmp a.0.now a.1.0.now) × (f' ≡ f))
    → new ≡ rising_list named_cmp old
sorted_by_name {g = g} {f = f} old new sorted stable calls =
    let is_below : NamedWays → NamedWays → Bool = λ v w. is_lt (named_cmp v w) in
    let order = ranks_by name_cmp_total (λ (v : NamedWays). v.name.now) in
    let compares = always_returns_same g (λ a r. is_lt r ≡ is_below a.0.now a.1.0.now) f
    (λ a r f' call. (ap is_lt (calls a r f' call).0, (calls a r f' call).1)) in
    rising_from_sort named_cmp (on_total (λ (v : NamedWays). v.name.now) name_cmp_total) old new (sorted is_below order compares)
    (stable is_below order compares)

-- what is told of two contests, if its text fits
pub passes_inside : (m n : SelectionMap) (vs : List NamedWays) → AreAllWays m n vs → (before after : Option ℕ) (room : ℕ) → before ≡ Some room
    → Leaves (text_size (Some (differences_at vs))) room after → (told : Option (List SelectionDifference))
    → told ≡ if_left after (Some (differences_at (rising_list named_cmp vs))) → PassesInside m n told before after
passes_inside m n vs h before after room is leaves told shown =
    subst (λ o. PassesInside m n told o after) (sym is) (
      differences_at (rising_list named_cmp vs),
      all_in_order m n vs h,
      subst (λ size. Leaves size room after) (size_in_order vs) leaves,
      shown,
    )

-- ---- the differences at one name

-- those in the members with these names
abbrev pub in_members : NameParts → List (Bor (List ℕ)) → List SelectionDifference
in_members name ss = map (the_difference name) (map Member (map (λ s. s.now) ss))

-- those from a position on
abbrev pub in_members_from : NameParts → ℕ → List (Bor (List ℕ)) → List SelectionDifference
in_members_from name i ss = in_members name (drop i ss)

-- ---- the differences at all names

-- those from a position on
abbrev pub differences_from : ℕ → List NamedWays → List SelectionDifference
differences_from i vs = differences_at (drop i vs)

-- ---- the JSON values of the entries of a list, one after the other

module _ {A : Type 0} (f : A → Data) (xs : List A) (i : ℕ) where
  -- with one more value, those of fewer entries are left
  pub one_value : (x : A) (vs ws : List Value) (v : Value) → slice_get xs i ≡ Some x → map view vs ++ map f (drop i xs) ≡ map f xs → view v ≡ f x
      → ws ≡ vs ++ (v ∷ []) → map view ws ++ map f (drop (i + 1) xs) ≡ map f xs
  one_value x vs ws v here known value is =
      ap (λ zs. map view zs ++ map f (drop (i + 1) xs)) is
      ∙ (ap (λ zs. zs ++ map f (drop (i + 1) xs)) (map-append view vs (v ∷ []))
      ∙ (append_assoc (map view vs) (view v ∷ []) (map f (drop (i + 1) xs))
      ∙ (ap (λ d. map view vs ++ (d ∷ map f (drop (i + 1) xs))) value
      ∙ (ap (λ zs. map view vs ++ map f zs) (sym (left_there xs i x here)) ∙ known))))

  -- at the end they are those of all
  pub all_values : (vs : List Value) → map view vs ++ map f (drop i xs) ≡ map f xs → length xs ≤ i → map view vs ≡ map f xs
  all_values vs known end = sym (append-nil (map view vs)) ∙ (ap (λ zs. map view vs ++ map f zs) (sym (drop_all i xs end)) ∙ known)
