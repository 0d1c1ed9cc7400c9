-- The selections of a contest are put under the numbers of their names, one position after another.
use Rattle.erd_compare.proofs.Common.{◌≡◌, List, [], ◌∷◌, map, sym, refl, ℕ, ◌+◌, ◌<◌, ◌≤◌, length, drop_all, slice_get, Some, None, codes, Option, option_map}
use Rattle.erd_compare.proofs.Common.{option_and_then, ap, ◌∙◌, subst, drop, Data, Value, view, selections_before, family, entries_at, Judged, Placed, objects}
use Rattle.erd_compare.proofs.Common.{name_of, NameParts, Bor, length-map, slice_get_within, at_low, on_side, number_of_selection, number_of_name}
use Rattle.erd_compare.proofs.Common.{numbered_selections, ComparedReport, IsComparable, same_Some, is_some, cond, ◌==◌, Bool, true, false, ◌⊎◌, inl, inr}
use Rattle.erd_compare.proofs.Common.{Stands, Ordering, Less, Equal, Greater, match_ordering, nat_cmp, exact_unsigned}
use Rattle.std.specs.BTreeSet.{insert_key}
use Rattle.std.specs.Map.{keys_of}
use Rattle.erd_check.proofs.Positions.{left_there}
use Rattle.erd_meaning.specs.Lookups.{selection_in}
use Rattle.erd_meaning.proofs.selections.NamesTold.{numbered_at}
use Rattle.erd_compare.proofs.contest_selections.ContestRecords.{object_here, values_of, whole_selection}
use Rattle.erd_compare.proofs.same_selections.SelectionWalks.{all_put, at_number, named_before, named_first, none_put, unnamed, IsFilling, Numbered}
use Rattle.erd_compare.specs.code.ContestSelections.{selection_values}
use Rattle.erd_compare.specs.code.NamedSelections.{number_and_value, value_of, AddsNumbers, AreByNumber, IsNamedOn}
use Rattle.erd_compare.specs.declared.inside.named.NamedSelection.{NamedSelection}

-- ---- the selection at a position

module _ (a b : Judged) (side : ComparedReport) (i : ℕ) where
  abbrev j : Judged
  j = on_side side a b

  abbrev t : Data
  t = view j.tree

  abbrev there : Option Placed
  there = slice_get (objects family.Selection t) i

  abbrev number_there : Option ℕ
  number_there = option_and_then (λ o. number_of_selection a b side o.value) there

  abbrev with_name : ℕ → NameParts → ℕ × NameParts
  with_name c n = (c, n)

  abbrev with_value : Data → ℕ → ℕ × Data
  with_value d k = (k, d)

  abbrev both_of : Placed → Option (ℕ × Data)
  both_of o = option_map (with_value o.value) (number_of_selection a b side o.value)

  abbrev both_there : Option (ℕ × Data)
  both_there = option_and_then both_of there

  -- a selection with a number
  pub record HasNumberAt (k : ℕ) : Type 0 where
    pub object : Placed
    pub contest : ℕ
    pub name : NameParts
    pub stands : there ≡ Some object
    pub named : name_of j.prefer t object.value ≡ Some name
    pub told : selection_in j.prefer t i ≡ Some (contest, name)
    pub both : both_there ≡ Some (k, object.value)

  pub numbered_there : (k : ℕ) → Some k ≡ number_there → HasNumberAt k
  numbered_there k e = at there refl (slice_get (numbered_selections t) i) refl e
    where
      by : (o : Placed) → there ≡ Some o → (s : ℕ × Placed) → slice_get (numbered_selections t) i ≡ Some s → s.1 ≡ o → (n : Option NameParts)
          → name_of j.prefer t o.value ≡ n → Some k ≡ option_map (number_of_name a b) n → HasNumberAt k
      by o is s stands same None named e = cc
      by o is s stands same (Some n) named e = record {
        object = o;
        contest = s.0;
        name = n;
        stands = is;
        named = named;
        told = ap (option_and_then (λ (x : ℕ × Placed). option_map (with_name x.0) (name_of j.prefer t x.1.value))) stands
            ∙ (ap (λ (x : Placed). option_map (with_name s.0) (name_of j.prefer t x.value)) same ∙ ap (option_map (with_name s.0)) named);
        both = ap (option_and_then both_of) is ∙ (ap (λ m. option_map (with_value o.value) (option_map (number_of_name a b) m)) named
            ∙ ap (option_map (with_value o.value)) (sym e));
      }

      at : (o : Option Placed) → there ≡ o → (s : Option (ℕ × Placed)) → slice_get (numbered_selections t) i ≡ s
          → Some k ≡ option_and_then (λ o. number_of_selection a b side o.value) o → HasNumberAt k
      at None is s stands e = cc
      at (Some o) is None stands e = let clash : None ≡ Some o = sym (ap (option_map (λ (s : ℕ × Placed). s.1)) stands) ∙ (numbered_at t i ∙ is) in cc
      at (Some o) is (Some s) stands e =
          let same : Some s.1 ≡ Some o = sym (ap (option_map (λ (s : ℕ × Placed). s.1)) stands) ∙ (numbered_at t i ∙ is) in
          by o is s stands (same_Some s.1 o same) (name_of j.prefer t o.value) refl e

  -- none without one
  pub none_numbered : None ≡ number_there → None ≡ both_there
  none_numbered e = at there e
    where
      at : (o : Option Placed) → None ≡ option_and_then (λ (x : Placed). number_of_selection a b side x.value) o → None ≡ option_and_then both_of o
      at None e = refl
      at (Some o) e = ap (option_map (with_value o.value)) e

  module _ (k : ℕ) (h : HasNumberAt k) where
    pub name_found : (s : Option (ℕ × Bor NameParts)) → option_map {U = ℕ × NameParts} (λ (s : ℕ × Bor NameParts). (s.0, s.1.now)) s ≡ selection_in j.prefer t i
        → option_map (λ (s : ℕ × Bor NameParts). s.1.now) s ≡ Some h.name
    name_found s e = at s (e ∙ h.told)
      where
        at : (s : Option (ℕ × Bor NameParts)) → option_map {U = ℕ × NameParts} (λ (s : ℕ × Bor NameParts). (s.0, s.1.now)) s ≡ Some (h.contest, h.name)
            → option_map (λ (s : ℕ × Bor NameParts). s.1.now) s ≡ Some h.name
        at None e = cc
        at (Some s) e = let pair : ◌≡◌ {A = ℕ × NameParts} (s.0, s.1.now) (h.contest, h.name) = cc in ap (λ (p : ℕ × NameParts). Some p.1) pair

    pub value_found : (v : Option Data) → v ≡ option_map (λ (o : Placed). o.value) there → v ≡ Some h.object.value
    value_found v e = e ∙ ap (option_map (λ (o : Placed). o.value)) h.stands

    -- it has its name there
    pub named_found : IsComparable j.prefer t → (s : NamedSelection) → s.name.now ≡ h.name → value_of s ≡ h.object.value → s.object.index
        ≡ i → IsNamedOn a b side s
    named_found comparable s name value index =
        let placed = subst (λ x. option_map (λ (o : Placed). o.value) (slice_get (objects family.Selection t) x) ≡ Some (value_of s)) (sym index)
        (ap (option_map (λ (o : Placed). o.value)) h.stands ∙ ap Some (sym value)) in
        record {
          named = ap (name_of j.prefer t) value ∙ (h.named ∙ ap Some (sym name));
          placed = placed;
          whole = whole_selection j comparable s.object.index (value_of s) placed;
        }

-- ---- those of a contest

module _ (a b : Judged) (side : ComparedReport) (c : ℕ) where
  abbrev its : Judged
  its = on_side side a b

  abbrev all : List Data
  all = selection_values its c

  -- there are the first selections of the contest, each with its name
  pub record AreNumberedUpTo (i : ℕ) (m : Numbered NamedSelection) : Type 0 where
    pub filling : IsFilling value_of a b side all (drop i all) m
    pub each : (k : ℕ) (s : NamedSelection) → at_number m k ≡ Some s → IsNamedOn a b side s

  -- at first nothing is there
  pub at_first : (m : Numbered NamedSelection) → m ≡ [] → AreNumberedUpTo 0 m
  at_first m none = record {
    filling = none_put value_of a b side all (drop 0 all) m refl none;
    each = λ k s is. let clash : None ≡ Some s = sym (ap (λ es. at_number es k) none) ∙ is in cc;
  }

  -- at the end all selections are
  pub at_last : (i : ℕ) (m : Numbered NamedSelection) → length all ≤ i → AreNumberedUpTo i m → AreByNumber a b side all m
  at_last i m end h = record { first = all_put value_of a b side all (drop i all) m (drop_all i all end) h.filling; each = h.each }

  -- the selections of the contest at a position that has an object
  pub values_there : (v : Data) → Some v ≡ option_map (λ (o : Placed). o.value) (slice_get (objects family.Contest (view its.tree)) c)
      → all ≡ entries_at (codes "ContestSelection") v
  values_there v is = at (slice_get (objects family.Contest (view its.tree)) c) is
    where
      at : (o : Option Placed) → Some v ≡ option_map (λ (o : Placed). o.value) o → values_of o ≡ entries_at (codes "ContestSelection") v
      at None e = cc
      at (Some o) e = let same : v ≡ o.value = cc in ap (entries_at (codes "ContestSelection")) (sym same)

  module _ (v : Data) (is : Some v ≡ option_map (λ (o : Placed). o.value) (slice_get (objects family.Contest (view its.tree)) c)) (vs : List Value)
      (entries : map view vs ≡ entries_at (codes "ContestSelection") v) where
    pub count_there : length all ≡ length vs
    count_there = ap length (values_there v is ∙ sym entries) ∙ length-map vs view

    module _ (i : ℕ) (low : i < length vs) (start : ℕ) (counted : start ≡ selections_before (view its.tree) c) where
      -- the next selection, and where it stands in the report
      next : (d : Data) × (slice_get all i ≡ Some d)
      next = at_low all i (subst (λ n. i < n) (sym count_there) low)

      next_object : (o : Placed) × (slice_get (objects family.Selection (view its.tree)) (start + i) ≡ Some o) × (o.value ≡ next.0)
      next_object = object_here its c start counted i next.0 next.1

      pub next_position : start + i < length (objects family.Selection (view its.tree))
      next_position = slice_get_within (objects family.Selection (view its.tree)) (start + i) next_object.0 next_object.1

      module _ (m : Numbered NamedSelection) (h : AreNumberedUpTo i m) (found : Option (ℕ × NamedSelection))
          (tells : option_map number_and_value found ≡ both_there a b side (start + i)) where
        left : IsFilling value_of a b side all (next.0 ∷ drop (i + 1) all) m
        left = subst (λ ds. IsFilling value_of a b side all ds m) (left_there all i next.0 next.1) h.filling

        abbrev its_value : ℕ → ℕ × Data
        its_value = with_value a b side (start + i) next.0

        told_here : option_map number_and_value found ≡ option_map its_value (number_of_selection a b side next.0)
        told_here =
            tells
            ∙ (ap (option_and_then (both_of a b side (start + i))) next_object.1
            ∙ ap (λ d. option_map (with_value a b side (start + i) d) (number_of_selection a b side d)) next_object.2)

        -- it has no name
        pub one_nameless : found ≡ None → AreNumberedUpTo (i + 1) m
        one_nameless none = record {
          filling = unnamed value_of a b side all (drop (i + 1) all) next.0 m
              (at (number_of_selection a b side next.0) (sym (ap (option_map number_and_value) none) ∙ told_here)) left;
          each = h.each;
        }
          where
            at : (o : Option ℕ) → None ≡ option_map its_value o → None ≡ o
            at None e = refl
            at (Some k) e = cc

        module _ (k : ℕ) (s : NamedSelection) (here : found ≡ Some (k, s)) where
          pair_here : (Some k ≡ number_of_selection a b side next.0) × (value_of s ≡ next.0)
          pair_here = at (number_of_selection a b side next.0) (sym (ap (option_map number_and_value) here) ∙ told_here)
            where
              at : (o : Option ℕ) → Some (number_and_value (k, s)) ≡ option_map its_value o → (Some k ≡ o) × (value_of s ≡ next.0)
              at None e = cc
              at (Some l) e = let pair : ◌≡◌ {A = ℕ × Data} (k, value_of s) (l, next.0) = same_Some (number_and_value (k, s)) (its_value l) e in
                  (ap (λ (p : ℕ × Data). Some p.0) pair, ap (λ (p : ℕ × Data). p.1) pair)

          -- one with this name is there
          pub one_before : is_some (at_number m k) ≡ true → AreNumberedUpTo (i + 1) m
          one_before before = record {
            filling = named_before value_of a b side all (drop (i + 1) all) next.0 k m pair_here.0 before left;
            each = h.each;
          }

          -- none is, and so it is put there
          pub one_first : (n : Numbered NamedSelection) → is_some (at_number m k) ≡ false → ((q : ℕ) → at_number n q ≡ cond (k == q) (Some s) (at_number m q))
              → IsNamedOn a b side s → AreNumberedUpTo (i + 1) n
          one_first n new updates named = record {
            filling = named_first value_of a b side all (drop (i + 1) all) next.0 s k m n pair_here.0 new updates pair_here.1 left;
            each = λ q r is. at q r (k == q) (sym (updates q) ∙ is);
          }
            where
              at : (q : ℕ) (r : NamedSelection) (yes : Bool) → cond yes (Some s) (at_number m q) ≡ Some r → IsNamedOn a b side r
              at q r true e = subst (IsNamedOn a b side) (same_Some s r e) named
              at q r false e = h.each q r e

-- ---- their numbers are added to a set

-- a number that is put into a set is there
inserted_there : (k : ℕ) (ks : List ℕ) → Stands k (insert_key nat_cmp ks k)
inserted_there k [] = inl refl
inserted_there k (x ∷ xs) = at (nat_cmp k x) refl (inserted_there k xs)
  where
    at : (o : Ordering) → nat_cmp k x ≡ o → Stands k (insert_key nat_cmp xs k) → Stands k (match_ordering o (k ∷ x ∷ xs) (x ∷ xs) (x ∷ insert_key nat_cmp xs k))
    at Less is h = inl refl
    at Equal is h = inl (sym (exact_unsigned k x is))
    at Greater is h = inr h

-- and those that were there stay
inserted_kept : (n k : ℕ) (ks : List ℕ) → Stands n ks → Stands n (insert_key nat_cmp ks k)
inserted_kept n k [] h = absurd h
inserted_kept n k (x ∷ xs) h = at (nat_cmp k x) (inserted_kept n k xs) h
  where
    at : (o : Ordering) → (Stands n xs → Stands n (insert_key nat_cmp xs k)) → Stands n (x ∷ xs)
        → Stands n (match_ordering o (k ∷ x ∷ xs) (x ∷ xs) (x ∷ insert_key nat_cmp xs k))
    at Less more h = inr h
    at Equal more h = h
    at Greater more (inl e) = inl e
    at Greater more (inr h) = inr (more h)

-- those of all selections but the rest were added
pub record AreAdded (all rest : Numbered NamedSelection) (before now : List ℕ) : Type 0 where
  pub kept : (k : ℕ) → Stands k before → Stands k now
  pub added : (k : ℕ) → Stands k (keys_of all) → Stands k (keys_of rest) ⊎ Stands k now

pub none_added : (es rest : Numbered NamedSelection) (before : List ℕ) → rest ≡ es → AreAdded es rest before before
none_added es rest before is = record { kept = λ k s. s; added = λ k s. inl (subst (λ xs. Stands k (keys_of xs)) (sym is) s) }

pub one_added : {all rest left : Numbered NamedSelection} (e : ℕ × NamedSelection) → left ≡ e ∷ rest → (before now after : List ℕ)
    → AreAdded all left before now → after ≡ insert_key nat_cmp now e.0 → AreAdded all rest before after
one_added {all} {rest} {left} e next before now after h is = record {
  kept = λ k s. on k (inserted_kept k e.0 now (h.kept k s));
  added = λ k s. elim (subst (λ es. Stands k (keys_of es) ⊎ Stands k now) next (h.added k s)) [
    | inl (inl same) ↦ inr (subst (λ n. Stands n after) same (on e.0 (inserted_there e.0 now)))
    | inl (inr s) ↦ inl s
    | inr s ↦ inr (on k (inserted_kept k e.0 now s))
  ];
}
  where
    on : (k : ℕ) → Stands k (insert_key nat_cmp now e.0) → Stands k after
    on k s = subst (Stands k) (sym is) s

pub all_added : (es rest : Numbered NamedSelection) (before now : List ℕ) → rest ≡ [] → AreAdded es rest before now → AddsNumbers es before now
all_added es rest before now end h = record {
  kept = h.kept;
  added = λ k s. elim (h.added k s) [
    | inl left ↦ absurd (subst (λ xs. Stands k (keys_of xs)) end left)
    | inr there ↦ there
  ];
}
