-- The differences at the keys of a part, and those of the parts, joined in order.
use Rattle.erd_compare.proofs.Common.{◌≡◌, ◌⊎◌, ℕ, ◌+◌, ◌<◌, true, List, [], ◌∷◌, ◌++◌, map, flat_map, Some, None, Option, Less, Equal, nat_cmp, sym, ap, ◌∙◌}
use Rattle.erd_compare.proofs.Common.{subst, inl, inr, arith, option_copied, map-append, tied_itself, nat_cmp_is, nat_cmp_total, AllByRecursion, In, In-map}
use Rattle.erd_compare.proofs.Common.{In-map_from, In-flat_map, In-flat_map_from, In-all, all_weakened, append-nil, ordering_then, view, Judged, meaning}
use Rattle.erd_compare.proofs.Common.{Meaning, Key, RecordMap, map_of, part_number, record_at, Difference, difference_cmp, How, Part, AreDifferent}
use Rattle.erd_compare.proofs.Common.{AreDifferences, AgreeBut, DifferIn, Stands, hows_of, AreWays, ◌↔◌, refl, fun_ext, IsTotalOrder, nat_list_cmp_total}
use Rattle.erd_compare.proofs.Common.{key_cmp_total, option_cmp, text_cmp, Data, Preference, ObjectRecord, part_cmp, Differ, IsDifference, IsFirstDifference}
use Rattle.erd_compare.proofs.Common.{Member, OnlyLeft, OnlyRight, OtherClass, first_of, member_of, drop, slice_get, Bor}
use Rattle.std.proofs.lemmas.Grind.{flat_map-append}
use Rattle.std.proofs.lemmas.List.{append_assoc}
use Rattle.std.specs.List.Sorted.{IsStrictlySortedBy}
use Rattle.erd_check.proofs.Order.{all_from_In, sorted_append, sorted_map}
use Rattle.erd_meaning.proofs.selections.ContestSelections.{all_both}
use Rattle.erd_compare.specs.code.DifferingKeys.{AreKeysFound, GoesOnToKey}
use Rattle.erd_compare.specs.code.DifferingNames.{AreDiffering}
use Rattle.erd_compare.specs.code.DifferingParts.{AppendsDifferences, AreDifferencesIn, differences_at}
use Rattle.erd_compare.specs.declared.first.key_steps.Ranks.{Ranks}
use Rattle.erd_compare.specs.declared.first.keyed_ways.KeyedWays.{KeyedWays}
use Rattle.erd_compare.proofs.least_difference.PartsInOrder.{numbered, part_at, equal_meanings}
use Rattle.erd_compare.proofs.least_difference.RisingKeys.{by_key, by_key_total}
use Rattle.erd_compare.proofs.differing.RecordWays.{agree_more, agree_same, way_cmp, ways_all, ways_rise, ways_sound, same_members}
use Rattle.erd_compare.proofs.differing.Walks.{stands_before, stands_behind, to_in, to_stands, none_less-head, stands_all}
use Rattle.std.specs.Cmp.Lexicographic.{options_total}
use Rattle.std.proofs.lemmas.Cmp.{on_total, then_total}
use Rattle.erd_check.proofs.Positions.{left_there}

abbrev the_key : KeyedWays → Option Key
the_key d = option_copied d.key

-- ---- one part

module _ (p : Part) where
  abbrev told : Option Key → How → Difference
  told k how = record { part = p; key = k; how = how }

  same_part : nat_cmp (part_number p) (part_number p) ≡ Equal
  same_part = tied_itself nat_cmp_total (part_number p)

  -- at one key they are compared by their ways
  at_one_key : (k : Option Key) (h g : How) → way_cmp h g ≡ Less → difference_cmp (told k h) (told k g) ≡ Less
  at_one_key k h g low =
      ap (λ o. ordering_then (ordering_then o (by_key k k)) (way_cmp h g)) same_part
      ∙ (ap (λ o. ordering_then o (way_cmp h g)) (tied_itself by_key_total k) ∙ low)

  -- and else by their keys
  by_keys : (k l : Option Key) (h g : How) → by_key k l ≡ Less → difference_cmp (told k h) (told l g) ≡ Less
  by_keys k l h g low = ap (λ o. ordering_then (ordering_then o (by_key k l)) (way_cmp h g)) same_part ∙ ap (λ o. ordering_then o (way_cmp h g)) low

  abbrev pub flat : List KeyedWays → List Difference
  flat ds = flat_map (differences_at p) ds

  -- each of them is one of the ways at a key
  from_key : (ds : List KeyedWays) (x : Difference) → In x (flat ds) → (d : KeyedWays) × In d ds
      × ((how : How) × In how (hows_of d.ways) × (told (the_key d) how ≡ x))
  from_key ds x i =
      let d = In-flat_map_from (differences_at p) ds x i in
      (d.0, d.1, In-map_from (told (the_key d.0)) (hows_of d.0.ways) x d.2)

  at_key : (ds : List KeyedWays) (d : KeyedWays) (how : How) → In d ds → In how (hows_of d.ways) → In (told (the_key d) how) (flat ds)
  at_key ds d how i j = In-flat_map (differences_at p) (told (the_key d) how) d ds i (In-map (told (the_key d)) how (hows_of d.ways) j)

  rising : (ds : List KeyedWays) → IsStrictlySortedBy by_key (map the_key ds) → AllByRecursion (λ d. IsStrictlySortedBy way_cmp (hows_of d.ways)) ds
      → IsStrictlySortedBy difference_cmp (flat ds)
  unfolding IsStrictlySortedBy
  rising [] rise each = tt
  rising (d ∷ ds) rise each =
      sorted_append difference_cmp (differences_at p d) (flat ds)
      (sorted_map (told (the_key d)) way_cmp difference_cmp (at_one_key (the_key d)) (hows_of d.ways) each.0) (rising ds rise.1 each.1) below
    where
      below : (x y : Difference) → In x (differences_at p d) → In y (flat ds) → difference_cmp x y ≡ Less
      below x y i j =
          let one = In-map_from (told (the_key d)) (hows_of d.ways) x i in
          let other = from_key ds y j in
          subst (λ z. difference_cmp z y ≡ Less) one.2
          (subst (λ z. difference_cmp (told (the_key d) one.0) z ≡ Less) other.2.2
          (by_keys (the_key d) (the_key other.0) one.0 other.2.0
          (In-all (λ k. by_key (the_key d) k ≡ Less) (the_key other.0) (map the_key ds) rise.0 (In-map the_key other.0 ds other.1))))

  module _ (a b : Judged) where
    abbrev mine : RecordMap
    mine = map_of a p

    abbrev its : RecordMap
    its = map_of b p

    abbrev pub AreTold : KeyedWays → Type 0
    AreTold d = AreWays true (mine (the_key d)) (its (the_key d)) d.ways

    abbrev Told : List KeyedWays → Option Key → How → Type 0
    Told ds k how = Stands (told k how) (flat ds)

    -- those at all keys are all
    pub all_in_part : (ds : List KeyedWays) → AreDiffering by_key mine its (map the_key ds) → AllByRecursion AreTold ds
        → AreDifferencesIn (meaning a.prefer (view a.tree)) (meaning b.prefer (view b.tree)) p (flat ds)
    all_in_part ds keys each = record {
      rise = rising ds keys.rise (all_weakened AreTold (λ d. IsStrictlySortedBy way_cmp (hows_of d.ways)) ds
          (λ d h. ways_rise true (mine (the_key d)) (its (the_key d)) d.ways h) each);
      differ = all_from_In (AreDifferent (meaning a.prefer (view a.tree)) (meaning b.prefer (view b.tree))) (flat ds) differs;
      its_part = all_from_In (λ x. x.part ≡ p) (flat ds) (λ x i. let one = from_key ds x i in ap (λ (y : Difference). y.part) (sym one.2.2));
      all = λ k. at k (keys.all k);
    }
      where
        differs : (x : Difference) → In x (flat ds) → AreDifferent (meaning a.prefer (view a.tree)) (meaning b.prefer (view b.tree)) x
        differs x i =
            let one = from_key ds x i in
            let k = the_key one.0 in
            subst (AreDifferent (meaning a.prefer (view a.tree)) (meaning b.prefer (view b.tree))) one.2.2
            (In-all (DifferIn (mine k) (its k)) one.2.0 (hows_of one.0.ways) (ways_sound true (mine k) (its k) one.0.ways (In-all AreTold one.0 ds each one.1))
            one.2.1)

        at : (k : Option Key) → (mine k ≡ its k) ⊎ Stands k (map the_key ds) → AgreeBut (Told ds k) (mine k) (its k)
        at k (inl same) = agree_same (Told ds k) (mine k) (its k) same
        at k (inr stands) =
            let one = In-map_from the_key ds k (to_in k (map the_key ds) stands) in
            let d = one.0 in
            subst (λ l. AgreeBut (Told ds l) (mine l) (its l)) one.2
            (agree_more (λ how. Stands how (hows_of d.ways)) (Told ds (the_key d))
            (λ how h. to_stands (told (the_key d) how) (flat ds) (at_key ds d how one.1 (to_in how (hows_of d.ways) h)))
            (mine (the_key d)) (its (the_key d))
            (ways_all (mine (the_key d)) (its (the_key d)) d.ways (In-all AreTold d ds each one.1)))

    -- ---- the walk through a part

    -- the differences at these keys were appended, and the keys from these ranks on are left
    pub record AreAppended (before after : List Difference) (at : Ranks) : Type 0 where
      pub keyed : List KeyedWays
      pub walked : AreKeysFound a b p (map the_key keyed) at
      pub told : AllByRecursion AreTold keyed
      pub items : after ≡ before ++ flat keyed

    pub none_appended : (before : List Difference) (at : Ranks) → AreKeysFound a b p [] at → AreAppended before before at
    none_appended before at start = record { keyed = []; walked = start; told = tt; items = sym (append-nil before) }

    pub one_appended : (before after new : List Difference) (at next : Ranks) (d : KeyedWays) → AreAppended before after at
        → ((found : List (Option Key)) → AreKeysFound a b p found at → GoesOnToKey true a b p found next (Some d)) → new ≡ after ++ differences_at p d
        → AreAppended before new next
    one_appended before after new at next d h on is =
        let goes = on (map the_key h.keyed) h.walked in
        record {
          keyed = h.keyed ++ (d ∷ []);
          walked = subst (λ ks. AreKeysFound a b p ks next) (sym (map-append the_key h.keyed (d ∷ []))) goes.walked;
          told = all_both AreTold h.keyed (d ∷ []) h.told (goes.ways, tt);
          items = is ∙ (ap (λ xs. xs ++ differences_at p d) h.items
              ∙ (append_assoc before (flat h.keyed) (differences_at p d)
              ∙ ap (λ xs. before ++ xs) (ap (λ xs. flat h.keyed ++ xs) (sym (append-nil (differences_at p d)))
              ∙ sym (flat_map-append (differences_at p) h.keyed (d ∷ [])))));
        }

    pub all_appended : (before after : List Difference) (at next : Ranks) → AreAppended before after at
        → ((found : List (Option Key)) → AreKeysFound a b p found at → GoesOnToKey true a b p found next None)
        → AppendsDifferences (meaning a.prefer (view a.tree)) (meaning b.prefer (view b.tree)) p before after
    all_appended before after at next h on = (flat h.keyed, all_in_part h.keyed (on (map the_key h.keyed) h.walked) h.told, h.items)

-- ---- the parts

-- these are all differences at the parts below a number
pub record AreDifferencesBelow (m n : Meaning) (i : ℕ) (ds : List Difference) : Type 0 where
  pub rise : IsStrictlySortedBy difference_cmp ds
  pub differ : AllByRecursion (AreDifferent m n) ds
  pub low : AllByRecursion (λ d. part_number d.part < i) ds
  pub all : (p : Part) (k : Option Key) → part_number p < i → AgreeBut (λ how. Stands (record { part = p; key = k; how = how }) ds)
      (record_at m p k) (record_at n p k)

below_more : (j i : ℕ) → j < i + 1 → (j < i) ⊎ (j ≡ i)
below_more j i low = grind arith

by_parts : (x y : Difference) → part_number x.part < part_number y.part → difference_cmp x y ≡ Less
by_parts x y low = ap (λ o. ordering_then (ordering_then o (by_key x.key y.key)) (way_cmp x.how y.how))
    (sym (nat_cmp_is (part_number x.part) (part_number y.part) Less low))

abbrev ToldAt : List Difference → Part → Option Key → How → Type 0
ToldAt xs p k how = Stands (record { part = p; key = k; how = how }) xs

module _ (m n : Meaning) where
  pub none_below : AreDifferencesBelow m n 0 []
  unfolding IsStrictlySortedBy
  none_below = record { rise = tt; differ = tt; low = tt; all = λ p k low. absurd (omega (arith, low)) }

  module _ (i : ℕ) (ds : List Difference) (h : AreDifferencesBelow m n i ds) (es : List Difference) (g : AreDifferencesIn m n (part_at i) es)
      (number : part_number (part_at i) ≡ i) where
    its_number : (y : Difference) → In y es → part_number y.part ≡ i
    its_number y j = ap part_number (In-all (λ d. d.part ≡ part_at i) y es g.its_part j) ∙ number

    pub more_below : AreDifferencesBelow m n (i + 1) (ds ++ es)
    more_below = record {
      rise = sorted_append difference_cmp ds es h.rise g.rise
          (λ x y j l. by_parts x y (subst (λ c. part_number x.part < c) (sym (its_number y l)) (In-all (λ d. part_number d.part < i) x ds h.low j)));
      differ = all_both (AreDifferent m n) ds es h.differ g.differ;
      low = all_both (λ d. part_number d.part < i + 1) ds es
          (all_weakened (λ d. part_number d.part < i) (λ d. part_number d.part < i + 1) ds (λ d low. omega (arith, low)) h.low)
          (all_from_In (λ d. part_number d.part < i + 1) es (λ y j. let is = its_number y j in omega (arith, is)));
      all = λ p k low. at p k (below_more (part_number p) i low);
    }
      where
        at : (p : Part) (k : Option Key) → (part_number p < i) ⊎ (part_number p ≡ i) → AgreeBut (ToldAt (ds ++ es) p k) (record_at m p k) (record_at n p k)
        at p k (inl low) = agree_more (ToldAt ds p k) (ToldAt (ds ++ es) p k) (λ how s. stands_before (record { part = p; key = k; how = how }) ds es s)
            (record_at m p k) (record_at n p k) (h.all p k low)
        at p k (inr same) =
            subst (λ q. AgreeBut (ToldAt (ds ++ es) q k) (record_at m q k) (record_at n q k)) (numbered p i same)
            (agree_more (ToldAt es (part_at i) k) (ToldAt (ds ++ es) (part_at i) k)
            (λ how s. stands_behind (record { part = part_at i; key = k; how = how }) ds es s) (record_at m (part_at i) k)
            (record_at n (part_at i) k) (g.all k))

  -- those below all parts are all
  pub all_parts : (i : ℕ) (ds : List Difference) → ((p : Part) → part_number p < i) → AreDifferencesBelow m n i ds → AreDifferences m n ds
  all_parts i ds each h = record { rise = h.rise; differ = h.differ; all = λ p k. h.all p k (each p) }

-- ---- the first difference of two reports is the head of the list of all, and there is none exactly if the list is empty

-- ---- the order of differences

place_total : IsTotalOrder (λ (d e : Difference). part_cmp d.part d.key e.part e.key)
place_total = then_total (on_total (λ (d : Difference). part_number d.part) nat_cmp_total) (on_total (λ (d : Difference). d.key) (options_total key_cmp_total))

pub difference_total : IsTotalOrder difference_cmp
difference_total = then_total place_total (on_total (λ (d : Difference). member_of d.how) (options_total nat_list_cmp_total))

-- ---- two records

-- records for which nothing is StandsSo are equal
same_record : (StandsSo : How → Type 0) (a b : Option ObjectRecord) → ((how : How) → StandsSo how → ⊥) → AgreeBut StandsSo a b → a ≡ b
same_record StandsSo None None none h = refl
same_record StandsSo (Some a) None none h = absurd (none OnlyLeft h)
same_record StandsSo None (Some b) none h = absurd (none OnlyRight h)
same_record StandsSo (Some a) (Some b) none (inl other) = absurd (none OtherClass other)
same_record StandsSo (Some a) (Some b) none (inr (class, members)) = same_members a b class (fun_ext (λ name. elim (members name) [
  | inl same ↦ same
  | inr h ↦ absurd (none (Member name) h)
]))

-- a record differs from itself in no way
not_itself : (a : Option ObjectRecord) (how : How) → DifferIn a a how → ⊥
not_itself None how h = h
not_itself (Some a) OnlyLeft h = h
not_itself (Some a) OnlyRight h = h
not_itself (Some a) OtherClass h = h refl
not_itself (Some a) (Member name) h = h.1 refl

-- a way in which they differ is the first, if no lesser member is StandsSo
first_way : (StandsSo : How → Type 0) (a b : Option ObjectRecord) (how : How) → ((way : How) → StandsSo way → DifferIn a b way)
    → ((n name : List ℕ) → how ≡ Member name → text_cmp n name ≡ Less → StandsSo (Member n) → ⊥)
    → AgreeBut StandsSo a b → DifferIn a b how → Differ a b how
first_way StandsSo None None how sound least agree h = h
first_way StandsSo (Some a) None how sound least agree h = h
first_way StandsSo None (Some b) how sound least agree h = h
first_way StandsSo (Some a) (Some b) OnlyLeft sound least agree h = h
first_way StandsSo (Some a) (Some b) OnlyRight sound least agree h = h
first_way StandsSo (Some a) (Some b) OtherClass sound least agree h = h
first_way StandsSo (Some a) (Some b) (Member name) sound least agree h = record { same_class = h.0; differ = h.1; least = at agree }
  where
    at : StandsSo OtherClass ⊎ ((a.class ≡ b.class) × ((n : List ℕ) → (a.members n ≡ b.members n) ⊎ StandsSo (Member n))) → (n : List ℕ) → text_cmp n name
        ≡ Less → a.members n ≡ b.members n
    at (inl other) n low = absurd (sound OtherClass other h.0)
    at (inr (class, members)) n low = elim (members n) [
      | inl same ↦ same
      | inr is ↦ absurd (least n name refl low is)
    ]

-- ---- the law

module _ (m n : Meaning) (d : Difference) (ds : List Difference) (h : AreDifferences m n (d ∷ ds)) where
  abbrev StandsSo : Part → Option Key → How → Type 0
  StandsSo p k how = Stands (record { part = p; key = k; how = how }) (d ∷ ds)

  lesser : (x name : List ℕ) → d.how ≡ Member name → text_cmp x name ≡ Less → StandsSo d.part d.key (Member x) → ⊥
  lesser x name is low stands =
      let first : part_cmp d.part d.key d.part d.key ≡ Equal = tied_itself place_total d in
      let then : option_cmp text_cmp (Some x) (member_of d.how) ≡ Less = ap (λ w. option_cmp text_cmp (Some x) (member_of w)) is ∙ low in
      none_less-head difference_total d ds h.rise (record { part = d.part; key = d.key; how = Member x }) stands
      (ap (λ o. ordering_then o (option_cmp text_cmp (Some x) (member_of d.how))) first ∙ then)

  before : (p : Part) (k : Option Key) → part_cmp p k d.part d.key ≡ Less → (how : How) → StandsSo p k how → ⊥
  before p k low how stands = none_less-head difference_total d ds h.rise (record { part = p; key = k; how = how }) stands
      (ap (λ o. ordering_then o (option_cmp text_cmp (member_of how) (member_of d.how))) low)

  pub head_is_first : IsFirstDifference m n d
  head_is_first = record {
    differ = first_way (StandsSo d.part d.key) (record_at m d.part d.key) (record_at n d.part d.key) d.how
        (λ way stands. stands_all (AreDifferent m n) (record { part = d.part; key = d.key; how = way }) (d ∷ ds) h.differ stands)
        lesser (h.all d.part d.key) h.differ.0;
    least = λ p k low. same_record (StandsSo p k) (record_at m p k) (record_at n p k) (before p k low) (h.all p k);
  }

-- the head of the list is the first difference of two reports
pub first_of_all : (π ρ : Preference) (t u : Data) (ds : List Difference) → AreDifferences (meaning π t) (meaning ρ u) ds
    → IsDifference (meaning π t) (meaning ρ u) (first_of ds)
first_of_all π ρ t u [] h = equal_meanings π ρ t u 10 (omega arith)
    (λ p k low. same_record (λ how. ⊥) (record_at (meaning π t) p k) (record_at (meaning ρ u) p k) (λ how none. none) (h.all p k))
first_of_all π ρ t u (d ∷ ds) h = head_is_first (meaning π t) (meaning ρ u) d ds h

-- equal meanings have no differences
pub none_of_equal : (m n : Meaning) (ds : List Difference) → AreDifferences m n ds → m ≡ n → ds ≡ []
none_of_equal m n [] h same = refl
none_of_equal m n (d ∷ ds) h same =
    absurd (not_itself (record_at m d.part d.key) d.how (subst (λ x. DifferIn (record_at m d.part d.key) (record_at x d.part d.key) d.how)
    (sym same) h.differ.0))

-- ---- exactly these

-- each way in which two records differ is StandsSo
each_way : (StandsSo : How → Type 0) (a b : Option ObjectRecord) (how : How) → ((way : How) → StandsSo way → DifferIn a b way) → AgreeBut StandsSo a b
    → DifferIn a b how → StandsSo how
each_way StandsSo None None how sound agree h = absurd h
each_way StandsSo (Some a) None how sound agree h = subst StandsSo (sym h) agree
each_way StandsSo None (Some b) how sound agree h = subst StandsSo (sym h) agree
each_way StandsSo (Some a) (Some b) OnlyLeft sound agree h = absurd h
each_way StandsSo (Some a) (Some b) OnlyRight sound agree h = absurd h
each_way StandsSo (Some a) (Some b) OtherClass sound (inl other) h = other
each_way StandsSo (Some a) (Some b) OtherClass sound (inr (class, members)) h = absurd (h class)
each_way StandsSo (Some a) (Some b) (Member name) sound (inl other) h = absurd (sound OtherClass other h.0)
each_way StandsSo (Some a) (Some b) (Member name) sound (inr (class, members)) h = elim (members name) [
  | inl same ↦ absurd (h.1 same)
  | inr is ↦ is
]

-- the list has each difference of the two meanings
pub has_each : (m n : Meaning) (ds : List Difference) → AreDifferences m n ds → (d : Difference) → AreDifferent m n d → Stands d ds
has_each m n ds h d differ =
    each_way (λ how. Stands (record { part = d.part; key = d.key; how = how }) ds) (record_at m d.part d.key) (record_at n d.part d.key) d.how
    (λ way stands. stands_all (AreDifferent m n) (record { part = d.part; key = d.key; how = way }) ds h.differ stands) (h.all d.part d.key) differ

-- there are none exactly if the meanings are equal
pub none_or_same : (π ρ : Preference) (t u : Data) (ds : List Difference) → AreDifferences (meaning π t) (meaning ρ u) ds → (ds ≡ [])
    ↔ (meaning π t ≡ meaning ρ u)
none_or_same π ρ t u ds h =
    (λ none. first_of_all π ρ t u [] (subst (AreDifferences (meaning π t) (meaning ρ u)) none h), none_of_equal (meaning π t) (meaning ρ u) ds h)

-- ---- the differences at the names of members, one after the other

-- the differences of an object in the members with these names
abbrev pub named : Part → Option (Bor Key) → List (Bor (List ℕ)) → List Difference
named p k ss = map (λ how. record { part = p; key = option_copied k; how = how }) (map Member (map (λ s. s.now) ss))

-- those from a position on
abbrev pub named_from : Part → Option (Bor Key) → ℕ → List (Bor (List ℕ)) → List Difference
named_from p k i ss = named p k (drop i ss)

pub one_more : (p : Part) (k : Option (Bor Key)) (ss : List (Bor (List ℕ))) (i : ℕ) (s : Bor (List ℕ)) (before after whole : List Difference) → slice_get ss i
    ≡ Some s → before ++ named_from p k i ss ≡ whole
    → after ≡ before ++ record { part = p; key = option_copied k; how = Member s.now } ∷ [] → after ++ named_from p k (i + 1) ss ≡ whole
one_more p k ss i s before after whole here known is =
    ap (λ ds. ds ++ named_from p k (i + 1) ss) is
    ∙ (append_assoc before (record { part = p; key = option_copied k; how = Member s.now } ∷ []) (named_from p k (i + 1) ss)
    ∙ (ap (λ xs. before ++ named p k xs) (sym (left_there ss i s here)) ∙ known))

pub no_more : (p : Part) (k : Option (Bor Key)) (ss : List (Bor (List ℕ))) (i : ℕ) (before whole : List Difference) → drop i ss ≡ []
    → before ++ named_from p k i ss ≡ whole → before ≡ whole
no_more p k ss i before whole none known = sym (append-nil before) ∙ (ap (λ xs. before ++ named p k xs) (sym none) ∙ known)
