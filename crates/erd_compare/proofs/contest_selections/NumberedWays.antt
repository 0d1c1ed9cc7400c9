-- The selections of two contests by the numbers of their names, number by number: what is found are the ways at all names.
use Rattle.erd_compare.proofs.Common.{[], ◌≡◌, ◌⊎◌, ◌==◌, ℕ, Bool, true, false, cond, List, IfSome, In-all, ObjectRecord, nat_cmp_total, not_below_itself, ◌∷◌}
use Rattle.erd_compare.proofs.Common.{◌++◌, find, Some, None, Option, option_and_then, option_map, Less, sym, refl, ap, ◌∙◌, subst, inl, inr, same_Some, Data}
use Rattle.erd_compare.proofs.Common.{view, In, AllByRecursion, IsDistinct, eq_by_cmp, Equal-is, nat_cmp, map-append, find-Some, AgreeBut, Stands, AreWays}
use Rattle.erd_compare.proofs.Common.{Judged, NameParts, name_cmp, name_of, selection_record, SelectionRecord, on_side, has_number, number_of_name}
use Rattle.erd_compare.proofs.Common.{number_of_selection, numbered_map, ComparedReport, Left, Right, option_or}
use Rattle.std.specs.List.Sorted.{IsStrictlySortedBy}
use Rattle.std.specs.Map.{keys_of}
use Rattle.erd_check.proofs.Order.{In-append}
use Rattle.erd_meaning.proofs.selections.ContestSelections.{all_both}
use Rattle.erd_meaning.specs.code.Orders.{name_cmp_exact}
use Rattle.erd_compare.proofs.contest_selections.ContestRecords.{agree_plain, are_selections, record_whole}
use Rattle.erd_compare.proofs.differing.Walks.{stands_before, stands_behind, to_in}
use Rattle.erd_compare.proofs.least_difference.RisingKeys.{tells_as}
use Rattle.erd_compare.proofs.same_ranks.NameNumbers.{IsNameOn, one_name}
use Rattle.erd_compare.proofs.same_ranks.NumberedSelections.{name_tested, number_tested, same_maps, AreNamed}
use Rattle.erd_compare.proofs.same_selections.PlacedSelections.{contest_named}
use Rattle.erd_compare.proofs.same_selections.SelectionWalks.{at_number, one_number, Numbered}
use Rattle.erd_compare.specs.code.ContestSelections.{contest_map, has_name_in, selection_values, whole_record}
use Rattle.erd_compare.specs.code.NamedSelections.{contest_values, named_cmp, names_of, record_named, value_of, AddsNumbers, AreAllWays, AreByNumber, IsNamedOn}
use Rattle.erd_compare.specs.code.NamedSelections.{TellsWays}
use Rattle.erd_compare.specs.declared.inside.named.NamedSelection.{NamedSelection}
use Rattle.erd_compare.specs.declared.inside.named.NamedWays.{NamedWays}

-- ---- lists

-- a number under which something stands is one of the numbers
keyed : {V : Type 0} (es : Numbered V) (k : ℕ) (v : V) → at_number es k ≡ Some v → Stands k (keys_of es)
keyed [] k v e = cc
keyed (x ∷ xs) k v e = at (k == x.0) refl (keyed xs k v)
  where
    at : (yes : Bool) → (k == x.0) ≡ yes → (at_number xs k ≡ Some v → Stands k (keys_of xs)) → Stands k (keys_of (x ∷ xs))
    at true is later = inl (sym (one_number k x.0 is))
    at false is later = inr (later (sym (ap (λ b. cond b (Some x.1) (at_number xs k)) is) ∙ e))

-- one more, which is none of them
distinct_more : {K : Type 0} (eq : K → K → Bool) (xs : List K) (y : K) → IsDistinct eq xs → ((x : K) → In x xs → eq x y ≡ false) → IsDistinct eq (xs ++ y ∷ [])
unfolding IsDistinct
distinct_more eq [] y h apart = (tt, tt)
distinct_more eq (x ∷ xs) y h apart =
    (all_both (λ z. eq x z ≡ false) xs (y ∷ []) h.0 (apart x (inl refl), tt), distinct_more eq xs y h.1 (λ z i. apart z (inr i)))

-- ---- what a contest has at a name, by its number

module _ (a b : Judged) where
  -- the selections of a contest are named
  values_named : (side : ComparedReport) (contest : Option ℕ) → AreNamed a b side (contest_values (on_side side a b) contest)
  values_named side None d inside = absurd inside
  values_named side (Some c) d inside = contest_named a b side c (selection_values (on_side side a b) c) (are_selections (on_side side a b) c) d inside

  map_there : (j : Judged) (contest : Option ℕ) (x : NameParts) → contest_map j contest x ≡ option_and_then (selection_record j.prefer (view j.tree))
      (find (has_name_in j x) (contest_values j contest))
  map_there j None x = refl
  map_there j (Some c) x = refl

  module _ (side : ComparedReport) (contest : Option ℕ) where
    abbrev j : Judged
    j = on_side side a b

    abbrev ds : List Data
    ds = contest_values j contest

    -- what it has at a name of either report
    at_name : (r : ComparedReport) (x : NameParts) → IsNameOn a b r x → contest_map j contest x ≡ numbered_map a b side ds (number_of_name a b x)
    at_name r x on = map_there j contest x ∙ same_maps a b side r ds (values_named side contest) x on

    module _ (es : Numbered NamedSelection) (h : AreByNumber a b side ds es) where
      record_under : (k : ℕ) → whole_record (numbered_map a b side ds k) ≡ record_named j (at_number es k)
      record_under k = ap (λ o. whole_record (option_and_then (selection_record j.prefer (view j.tree)) o)) (sym (h.first k)) ∙ at (at_number es k)
        where
          at : (o : Option NamedSelection) → whole_record (option_and_then (selection_record j.prefer (view j.tree)) (option_map value_of o)) ≡ record_named j o
          at None = refl
          at (Some s) = sym (record_whole j.prefer (view j.tree) (value_of s))

      -- as the record of what stands under its number
      record_at : (r : ComparedReport) (x : NameParts) (k : ℕ) → IsNameOn a b r x → number_of_name a b x ≡ k → whole_record (contest_map j contest x)
          ≡ record_named j (at_number es k)
      record_at r x k on same = ap whole_record (at_name r x on) ∙ (ap (λ q. whole_record (numbered_map a b side ds q)) same ∙ record_under k)

      -- nothing, if nothing stands there
      none_at : (r : ComparedReport) (x : NameParts) → IsNameOn a b r x → at_number es (number_of_name a b x) ≡ None → contest_map j contest x ≡ None
      none_at r x on none =
          at_name r x on ∙ ap (option_and_then (selection_record j.prefer (view j.tree))) (sym (h.first (number_of_name a b x)) ∙ ap (option_map value_of) none)

      -- what stands under a number is named
      pub under_number : (k : ℕ) (o : Option NamedSelection) → o ≡ at_number es k → IfSome o (IsNamedOn a b side)
      under_number k None is = tt
      under_number k (Some s) is = h.each k s (sym is)

      -- and has the name with the number
      named_under : (k : ℕ) (s : NamedSelection) → at_number es k ≡ Some s → IsNameOn a b side s.name.now × (number_of_name a b s.name.now ≡ k)
      named_under k s is =
          let found = find-Some (has_number a b side k) ds (value_of s) (sym (h.first k) ∙ ap (option_map value_of) is) in
          let named = (h.each k s is).named in
          let number = number_tested a b (number_of_selection a b side (value_of s)) k found.1 in (
            values_named side contest (value_of s) found.0 s.name.now named,
            same_Some (number_of_name a b s.name.now) k
                (sym (ap (option_map (number_of_name a b)) named) ∙ number),
          )

    -- a name that it has is one of its report
    name_there : (x : NameParts) → (contest_map j contest x ≡ None) ⊎ IsNameOn a b side x
    name_there x = at (find (has_name_in j x) ds) refl
      where
        at : (o : Option Data) → find (has_name_in j x) ds ≡ o → (contest_map j contest x ≡ None) ⊎ IsNameOn a b side x
        at None is = inl (map_there j contest x ∙ ap (option_and_then (selection_record j.prefer (view j.tree))) is)
        at (Some d) is =
            let found = find-Some (has_name_in j x) ds d is in
            inr (values_named side contest d found.0 x (name_tested a b (name_of j.prefer (view j.tree) d) x found.1))

-- ---- number by number

module _ (a b : Judged) (one other : Option ℕ) where
  abbrev m : NameParts → Option SelectionRecord
  m = contest_map a one

  abbrev n : NameParts → Option SelectionRecord
  n = contest_map b other

  abbrev HasWays : NamedWays → Type 0
  HasWays v = AreWays true (whole_record (m v.name.now)) (whole_record (n v.name.now)) v.ways

  abbrev IsTold : List NamedWays → NameParts → Type 0
  IsTold vs x = Stands x (names_of vs) ⊎ AgreeBut (λ how. ⊥) (m x) (n x)

  none_both : (x : NameParts) → m x ≡ None → n x ≡ None → AgreeBut (λ how. ⊥) (m x) (n x)
  none_both x mine its = subst (λ r. AgreeBut (λ how. ⊥) r (n x)) (sym mine) (subst (λ (r : Option SelectionRecord). AgreeBut (λ how. ⊥) None r) (sym its) tt)

  -- the ways at all names but those with these numbers, which rise, were found
  pub record AreFound (found : List NamedWays) (rest : List ℕ) : Type 0 where
    pub once : IsDistinct (eq_by_cmp named_cmp) found
    pub ways : AllByRecursion HasWays found
    pub left : IsStrictlySortedBy nat_cmp rest
    pub fresh : (v : NamedWays) → In v found → (k : ℕ) → Stands k rest → number_of_name a b v.name.now ≡ k → ⊥
    pub each : (r : ComparedReport) (x : NameParts) → IsNameOn a b r x → Stands (number_of_name a b x) rest ⊎ IsTold found x

  -- at the end all were
  pub all_found : (found : List NamedWays) (rest : List ℕ) → rest ≡ [] → AreFound found rest → AreAllWays m n found
  all_found found rest end h = record {
    once = h.once;
    ways = h.ways;
    each = λ x. at x (name_there a b Left one x) (name_there a b Right other x);
  }
    where
      told : (r : ComparedReport) (x : NameParts) → IsNameOn a b r x → IsTold found x
      told r x on = elim (h.each r x on) [
        | inl stands ↦ absurd (subst (Stands (number_of_name a b x)) end stands)
        | inr here ↦ here
      ]

      at : (x : NameParts) → (m x ≡ None) ⊎ IsNameOn a b Left x → (n x ≡ None) ⊎ IsNameOn a b Right x → IsTold found x
      at x (inr named) right = told Left x named
      at x left (inr named) = told Right x named
      at x (inl left) (inl right) = inr (none_both x left right)

  module _ (ls rs : Numbered NamedSelection) (mine : AreByNumber a b Left (contest_values a one) ls)
      (its : AreByNumber a b Right (contest_values b other) rs) where
    -- at first none was
    pub none_found : (js ks numbers : List ℕ) → AddsNumbers ls js ks → AddsNumbers rs ks numbers → IsStrictlySortedBy nat_cmp numbers → AreFound [] numbers
    unfolding IsDistinct
    none_found js ks numbers left right rise = record {
      once = tt;
      ways = tt;
      left = rise;
      fresh = λ v none. absurd none;
      each = λ r x on. at r x on (at_number ls (number_of_name a b x)) refl (at_number rs (number_of_name a b x)) refl;
    }
      where
        at : (r : ComparedReport) (x : NameParts) → IsNameOn a b r x → (o : Option NamedSelection) → at_number ls (number_of_name a b x) ≡ o
            → (p : Option NamedSelection) → at_number rs (number_of_name a b x) ≡ p
            → Stands (number_of_name a b x) numbers ⊎ IsTold [] x
        at r x on (Some s) is p at_right = inl (right.kept (number_of_name a b x) (left.added (number_of_name a b x) (keyed ls (number_of_name a b x) s is)))
        at r x on None is (Some s) at_right = inl (right.added (number_of_name a b x) (keyed rs (number_of_name a b x) s at_right))
        at r x on None is None at_right = inr (inr (none_both x (none_at a b Left one ls mine r x on is) (none_at a b Right other rs its r x on at_right)))

    -- the next number
    module _ (found : List NamedWays) (q : ℕ) (rest : List ℕ) (h : AreFound found (q ∷ rest)) where
      abbrev left : Option NamedSelection
      left = at_number ls q

      abbrev right : Option NamedSelection
      right = at_number rs q

      records : (P : Option ObjectRecord → Option ObjectRecord → Type 0) (r : ComparedReport) (x : NameParts) → IsNameOn a b r x → number_of_name a b x ≡ q
          → P (record_named a left) (record_named b right) → P (whole_record (m x)) (whole_record (n x))
      records P r x on same holds =
          tells_as P (whole_record (m x)) (whole_record (n x)) (record_named a left) (record_named b right) (record_at a b Left one ls mine r x q on same)
          (record_at a b Right other rs its r x q on same) holds

      -- the two selections don't differ
      passed : AgreeBut (λ how. ⊥) (record_named a left) (record_named b right) → AreFound found rest
      unfolding IsStrictlySortedBy
      passed agree = record {
        once = h.once;
        ways = h.ways;
        left = h.left.1;
        fresh = λ v i k s. h.fresh v i k (inr s);
        each = λ r x on. elim (h.each r x on) [
          | inl (inl same) ↦ inr (inr (agree_plain (λ how. ⊥) (m x) (n x) (records (AgreeBut (λ how. ⊥)) r x on (sym same) agree)))
          | inl (inr s) ↦ inl s
          | inr told ↦ inr told
        ];
      }

      -- the name of either
      its_name : (x : NameParts) → Some x ≡ option_map (λ s. s.name.now) (option_or left right) → (r : ComparedReport) × IsNameOn a b r x
          × (number_of_name a b x ≡ q)
      its_name x e = at left refl right refl e
        where
          at : (o : Option NamedSelection) → left ≡ o → (p : Option NamedSelection) → right ≡ p → Some x ≡ option_map (λ (s : NamedSelection). s.name.now)
              (option_or o p) → (r : ComparedReport) × IsNameOn a b r x × (number_of_name a b x ≡ q)
          at (Some s) is p there e =
              let name : s.name.now ≡ x = same_Some s.name.now x (sym e) in
              let known = named_under a b Left one ls mine q s is in
              (Left, subst (λ y. IsNameOn a b Left y) name known.0, subst (λ y. number_of_name a b y ≡ q) name known.1)
          at None is (Some s) there e =
              let name : s.name.now ≡ x = same_Some s.name.now x (sym e) in
              let known = named_under a b Right other rs its q s there in
              (Right, subst (λ y. IsNameOn a b Right y) name known.0, subst (λ y. number_of_name a b y ≡ q) name known.1)
          at None is None there e = cc

      -- they do
      module _ (v : NamedWays) (name : Some v.name.now ≡ option_map (λ s. s.name.now) (option_or left right))
          (ways : AreWays true (record_named a left) (record_named b right) v.ways) where
        abbrev after : List NamedWays
        after = found ++ v ∷ []

        known : (r : ComparedReport) × IsNameOn a b r v.name.now × (number_of_name a b v.name.now ≡ q)
        known = its_name v.name.now name

        apart : (w : NamedWays) → In w found → eq_by_cmp named_cmp w v ≡ false
        apart w i = at (eq_by_cmp named_cmp w v) refl
          where
            at : (yes : Bool) → eq_by_cmp named_cmp w v ≡ yes → yes ≡ false
            at true is =
                let same : w.name.now ≡ v.name.now = name_cmp_exact w.name.now v.name.now ((Equal-is (name_cmp w.name.now v.name.now)).0 is) in
                absurd (h.fresh w i q (inl refl) (ap (number_of_name a b) same ∙ known.2))
            at false is = refl

        behind : (k : ℕ) → Stands k rest → number_of_name a b v.name.now ≡ k → ⊥
        unfolding IsStrictlySortedBy
        behind k s same =
            let low : nat_cmp q k ≡ Less = In-all (λ y. nat_cmp q y ≡ Less) k rest h.left.0 (to_in k rest s) in
            let same_numbers : q ≡ k = sym known.2 ∙ same in
            not_below_itself nat_cmp nat_cmp_total q (subst (λ y. nat_cmp q y ≡ Less) (sym same_numbers) low)

        named_before : (x : NameParts) → Stands x (names_of found) → Stands x (names_of after)
        named_before x s = subst (Stands x) (sym (map-append (λ (w : NamedWays). w.name.now) found (v ∷ [])))
            (stands_before x (names_of found) (names_of (v ∷ [])) s)

        named_last : Stands v.name.now (names_of after)
        named_last = subst (Stands v.name.now) (sym (map-append (λ (w : NamedWays). w.name.now) found (v ∷ [])))
            (stands_behind v.name.now (names_of found) (names_of (v ∷ [])) (inl refl))

        added : AreFound after rest
        unfolding IsStrictlySortedBy
        added = record {
          once = distinct_more (eq_by_cmp named_cmp) found v h.once apart;
          ways = all_both HasWays found (v ∷ []) h.ways (records (λ x y. AreWays true x y v.ways) known.0 v.name.now known.1 known.2 ways, tt);
          left = h.left.1;
          fresh = λ w i k s same. elim (In-append w found (v ∷ []) i) [
            | inl old ↦ h.fresh w old k (inr s) same
            | inr (inl e) ↦ behind k s (ap (λ (z : NamedWays). number_of_name a b z.name.now) e ∙ same)
            | inr (inr none) ↦ absurd none
          ];
          each = λ r x on. elim (h.each r x on) [
            | inl (inl same) ↦
                inr (inl (subst (λ y. Stands y (names_of after)) (sym (one_name a b r known.0 x v.name.now on known.1 (sym same ∙ sym known.2))) named_last))
            | inl (inr s) ↦ inl s
            | inr (inl s) ↦ inr (inl (named_before x s))
            | inr (inr agree) ↦ inr (inr agree)
          ];
        }

    -- with what is told at the next number
    abbrev with_told : List NamedWays → Option NamedWays → List NamedWays
    with_told found None = found
    with_told found (Some v) = found ++ v ∷ []

    pub next_told : (found : List NamedWays) (q : ℕ) {numbers rest : List ℕ} → numbers ≡ q ∷ rest → AreFound found numbers → (o p : Option NamedSelection)
        → o ≡ at_number ls q → p ≡ at_number rs q → (told : Option NamedWays) → TellsWays a b o p told
        → AreFound (with_told found told) rest
    next_told found q {rest = rest} next h o p left right told tells =
        at told (subst (λ x. TellsWays a b x (at_number rs q) told) left (subst (λ y. TellsWays a b o y told) right tells))
      where
        here : AreFound found (q ∷ rest)
        here = subst (AreFound found) next h

        at : (told : Option NamedWays) → TellsWays a b (at_number ls q) (at_number rs q) told → AreFound (with_told found told) rest
        at None agree = passed found q rest here agree
        at (Some v) (name, ways) = added found q rest here v name ways
