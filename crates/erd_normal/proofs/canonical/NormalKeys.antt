-- The sets and the objects of a report in rising order, and the keys and the `@id`s of those that are built.
use Rattle.erd_normal.proofs.Common.{Ordering, ◌≡◌, ℕ, Bool, true, false, ◌&&◌, List, IsTrue, Some, Equal, sym, refl, ap, ◌∙◌, subst, ap₂, exact_bytes}
use Rattle.erd_normal.proofs.Common.{IsDistinct, option_cmp, eq_by_cmp, Data, string, array, Items, get_item, compact_text, role_of_class, Class, Family, Role}
use Rattle.erd_normal.proofs.Common.{reason, MemberKind, kind, At, string_from_text, list_of_items-place, list_of_items-tree, text_itself, and_then-Some, In}
use Rattle.erd_normal.proofs.Common.{Within-step, not_within, faultless, wanted_within, unrepeated, Within, is_simple_class, entry_itself, is_shape_fault}
use Rattle.erd_normal.proofs.Common.{AreTrees, is_same_json, list_of_items, entry_want, is_compared_set, asked, is_repeated, Want, Member, Object, Reference}
use Rattle.erd_normal.proofs.Common.{no_shape_fault, no_reference_fault, resolves, one_keyed, owned_by, unrepeated_by_cmp, IsAccepted, has_keys, key_cmp}
use Rattle.erd_normal.proofs.Common.{Preference, key_of, is_reference_fault, id_of, owner, compact_cmp, key_named, key_cmp_exact, Key, reference_cmp, zero, suc}
use Rattle.erd_normal.proofs.Common.{◌+◌, [], ◌∷◌, ◌++◌, map, slice_get, codes, option_map, is_eq, arith, on_total, Equal-is, IsTotalOrder, options_total}
use Rattle.erd_normal.proofs.Common.{family, Step, entries_at, NameParts, Placed, placed_from, contests, selections_of_contest, objects, rising_list, name_of}
use Rattle.erd_normal.proofs.Common.{name_cmp, key_cmp_total, name_cmp_total, name_cmp_exact, IsStrictlySortedBy, sorted_map, ItemsHaveFittingNumbers, text_of}
use Rattle.erd_normal.proofs.Common.{values_distinct, elections_distinct, no_identity_fault, values-placed_from, stands, one_named, in_at}
use Rattle.erd_normal.proofs.Common.{distinct_from_one_place, distinct_map, rising_strictly, rank_by_at, compact_cmp_total, rank_of_name, by_key, by_name}
use Rattle.erd_normal.proofs.Common.{In-flat_map, IsTree, values-placed_entries, option_map_or, IsBounded, id_of_selection, selection_with}
use Rattle.erd_normal.proofs.Common.{normal_selection_reference}
use Rattle.erd_normal.proofs.meaning.MatchedMeanings.{has_name}
use Rattle.erd_normal.proofs.texts.CompactTexts.{compact_exact, entry-fitting}
use Rattle.erd_normal.proofs.lists.Lists.{IsPart, part_distinct}
use Rattle.erd_normal.proofs.lists.Matched.{FoundSelection, owner_found}

-- what has no key twice rises by its keys
rises : {K : Type 0} (cmp : K → K → Ordering) → IsTotalOrder cmp → (key : Data → K) (ds : List Data) → IsDistinct (eq_by_cmp (λ a b. cmp (key a) (key b))) ds
    → IsStrictlySortedBy cmp (map key (rising_list (λ a b. cmp (key a) (key b)) ds))
rises cmp total key ds apart =
    sorted_map key (λ a b. cmp (key a) (key b)) cmp (λ x y h. h) (rising_list (λ a b. cmp (key a) (key b)) ds) (rising_strictly (on_total key total) ds apart)

-- ---- sets of references

-- how references say what they name, in one report
pub record Names (π : Preference) (t : Data) : Type 0 where
  -- a reference names an object that has a key
  pub resolves : (f : Family) (r : List ℕ) → has_keys f ≡ true → Within t (asked (Reference f) (string r)) → (k : Key) × (key_named π t f r ≡ Some k)
  -- no other text names the object
  pub one_name : (f : Family) (r s : List ℕ) (k : Key) → has_keys f ≡ true → key_named π t f r ≡ Some k → key_named π t f s ≡ Some k → r ≡ s

-- how the references of an accepted report say what they name
pub names_accepted : (π : Preference) (t : Data) → IsAccepted π t → Names π t
names_accepted π t accepted = record {
  resolves = resolves π t accepted;
  one_name = λ f r s k keyed e g.
      let x = and_then-Some (key_of π) (owner t f r) k e in
      let y = and_then-Some (key_of π) (owner t f s) k g in
      let o = owned_by t f r x.0 x.1 in
      let p = owned_by t f s y.0 y.1 in
      let same : o.0.value ≡ p.0.value =
      ap (λ z. z.value) (one_keyed π t accepted f o.0 p.0 k keyed o.1 p.1 (ap (key_of π) o.2 ∙ x.2) (ap (key_of π) p.2 ∙ y.2)) in
      let ids : Some r ≡ Some s = sym o.3 ∙ ap id_of (sym o.2 ∙ same ∙ p.2) ∙ p.3 in
      cc;
}

pub first_reference : (π : Preference) (t : Data) → IsAccepted π t → (f : Family) (d : Data) (b : Bool)
    → Within t (record { want = Reference f; value = d; repeated = b }) → b ≡ false
first_reference π t accepted f d true w =
    absurd (not_within t (record { want = Reference f; value = d; repeated = true }) (λ x. IsTrue (is_reference_fault t x reason.Repeated)) w
    (no_reference_fault π t accepted w.place reason.Repeated) refl)
first_reference π t accepted f d false w = refl

-- what is asked of an entry of a set of references
pub reference_entry : (t : Data) (f : Family) (r : Bool) (ds : Items) → Within t (asked (Member (kind.Many f) r) (array ds)) → (i : ℕ) (d : Data)
    → get_item i ds ≡ Some d
    → Within t (record { want = Reference f; value = d; repeated = is_repeated ds i d })
reference_entry t f r ds w i d e = Within-step t (asked (Member (kind.Many f) r) (array ds))
    (record { want = Reference f; value = d; repeated = is_repeated ds i d }) (At i) w (rw e)

module _ (π : Preference) (t : Data) (accepted : IsAccepted π t) (f : Family) (keyed : has_keys f ≡ true) (r : Bool) (ds : Items)
    (w : Within t (asked (Member (kind.Many f) r) (array ds))) where
  first_of_references : (i : ℕ) (d : Data) → get_item i ds ≡ Some d → is_repeated ds i d ≡ false
  first_of_references i d e = first_reference π t accepted f d (is_repeated ds i d) (reference_entry t f r ds w i d e)

  -- a reference is a text
  reference_text : (d : Data) → In d (list_of_items ds) → (s : List ℕ) × (d ≡ string s) × Within t (asked (Reference f) (string s))
  reference_text d i =
      let p = list_of_items-place ds d i in
      let w' : Within t (asked (Reference f) d) = subst (λ b. Within t (record { want = Reference f; value = d; repeated = b })) (first_of_references p.0 d p.1)
      (reference_entry t f r ds w p.0 d p.1) in
      let s = string_from_text d (wanted_within t (no_shape_fault π t accepted) (asked (Reference f) d) w') in
      (s.0, s.1, subst (λ x. Within t (asked (Reference f) x)) s.1 w')

  texts_equal : (a b : List ℕ) → Within t (asked (Reference f) (string a)) → Within t (asked (Reference f) (string b)) → option_cmp key_cmp (key_named π t f a)
      (key_named π t f b) ≡ Equal → b ≡ a
  texts_equal a b x y e =
      let names = names_accepted π t accepted in
      let k = names.resolves f a keyed x in
      let l = names.resolves f b keyed y in
      let same : k.0 ≡ l.0 = key_cmp_exact k.0 l.0 (sym (ap₂ (option_cmp key_cmp) k.1 l.1) ∙ e) in
      names.one_name f b a k.0 keyed (l.1 ∙ ap Some (sym same)) k.1

  equal_references : (d e : Data) → In d (list_of_items ds) → In e (list_of_items ds) → reference_cmp π t f d e ≡ Equal → is_same_json e d ≡ true
  equal_references d e i j h =
      let a = reference_text d i in
      let b = reference_text e j in
      let same : b.0 ≡ a.0 = texts_equal a.0 b.0 a.2 b.2 (sym (ap₂ (reference_cmp π t f) a.1 b.1) ∙ h) in
      ap₂ is_same_json (b.1 ∙ ap string same) a.1 ∙ text_itself a.0

  pub references_rise : IsStrictlySortedBy (option_cmp key_cmp) (map (λ d. key_named π t f (text_of d)) (rising_list (reference_cmp π t f) (list_of_items ds)))
  references_rise =
      rises (option_cmp key_cmp) (options_total key_cmp_total) (λ d. key_named π t f (text_of d)) (list_of_items ds)
      (unrepeated_by_cmp (reference_cmp π t f) ds first_of_references equal_references)

-- ---- sets of JSON values

pub first_value : (π : Preference) (t : Data) → IsAccepted π t → (w : Want) (d : Data) (b : Bool) → Within t (record { want = w; value = d; repeated = b })
    → (b ≡ true → is_shape_fault (record { want = w; value = d; repeated = true }) reason.Repeated ≡ true) → b ≡ false
first_value π t accepted w d true inside is = let h = sym (is refl) ∙ faultless t (no_shape_fault π t accepted)
    (record { want = w; value = d; repeated = true }) reason.Repeated inside in h
first_value π t accepted w d false inside is = refl

-- what is asked of an entry of a set of objects
pub value_entry : (t : Data) (k : MemberKind) (r : Bool) (o : Role) (ds : Items) → Within t (asked (Member k r) (array ds)) → entry_want (Member k r)
    ≡ Some (Object o) → (i : ℕ) (d : Data) → get_item i ds ≡ Some d
    → Within t (record { want = Object o; value = d; repeated = is_compared_set (Member k r) && is_repeated ds i d })
value_entry t k r o ds w entries i d e =
    Within-step t (asked (Member k r) (array ds)) (record { want = Object o; value = d; repeated = is_compared_set (Member k r) && is_repeated ds i d })
    (At i) w (rw (entries, e))

-- a set whose entries are of a class with texts and carried members alone, where compact texts tell the entries apart
module _ (π : Preference) (t : Data) (accepted : IsAccepted π t) (k : MemberKind) (r : Bool) (o : Role) (ds : Items)
    (w : Within t (asked (Member k r) (array ds))) (entries : entry_want (Member k r) ≡ Some (Object o))
    (compared : is_compared_set (Member k r) ≡ true) (simple : (c : Class) → role_of_class c ≡ o → is_simple_class c ≡ true) (trees : AreTrees ds)
    (exact : (d e : Data) → In d (list_of_items ds) → In e (list_of_items ds) → compact_text d ≡ compact_text e → d ≡ e) where
  first_of_values : (i : ℕ) (d : Data) → get_item i ds ≡ Some d → is_repeated ds i d ≡ false
  first_of_values i d e =
      first_value π t accepted (Object o) d (is_repeated ds i d)
      (subst (λ b. Within t (record { want = Object o; value = d; repeated = b && is_repeated ds i d })) compared (value_entry t k r o ds w entries i d e))
      (λ h. refl)

  equal_values : (d e : Data) → In d (list_of_items ds) → In e (list_of_items ds) → compact_cmp d e ≡ Equal → is_same_json e d ≡ true
  equal_values d e i j h =
      let p = list_of_items-place ds d i in
      let tree = list_of_items-tree ds d trees i in
      let inside : Within t (asked (Object o) d) = unrepeated t (no_shape_fault π t accepted) (Object o) d
      (is_compared_set (Member k r) && is_repeated ds p.0 d) refl (value_entry t k r o ds w entries p.0 d p.1) in
      let same : d ≡ e = exact d e i j (exact_bytes (compact_text d) (compact_text e) h) in
      ap (λ x. is_same_json x d) (sym same) ∙ entry_itself t (no_shape_fault π t accepted) o d simple tree inside

  pub json_values_distinct : IsDistinct (eq_by_cmp compact_cmp) (list_of_items ds)
  json_values_distinct = unrepeated_by_cmp compact_cmp ds first_of_values equal_values

pub values_rise : (π : Preference) (t : Data) → IsAccepted π t → (k : MemberKind) (r : Bool) (o : Role) → entry_want (Member k r) ≡ Some (Object o)
    → is_compared_set (Member k r) ≡ true → ((c : Class) → role_of_class c ≡ o → is_simple_class c ≡ true)
    → (ds : Items) → Within t (asked (Member k r) (array ds)) → AreTrees ds → ItemsHaveFittingNumbers ds
    → IsStrictlySortedBy compact_cmp (rising_list compact_cmp (list_of_items ds))
values_rise π t accepted k r o entries compared simple ds w trees fits =
    rising_strictly compact_cmp_total (list_of_items ds)
    (json_values_distinct π t accepted k r o ds w entries compared simple trees
    (λ d e i j. compact_exact d e (entry-fitting ds d fits i) (entry-fitting ds e fits j)))

-- ---- in an accepted report no two selections of a contest have one name

pub placed_at : (p : List Step) (n : ℕ) (ds : List Data) (i : ℕ) (o : Placed) → slice_get (placed_from p n ds) i ≡ Some o → o.place ≡ p ++ At (n + i) ∷ []
placed_at p n [] i o e = cc
placed_at p n (d ∷ ds) zero o e =
    let same : n ≡ n + 0 = omega arith in
    let places : Some (p ++ At n ∷ []) ≡ Some o.place = ap (λ x. option_map (λ o. o.place) x) e in
    let place : p ++ At n ∷ [] ≡ o.place = cc in
    sym place ∙ ap (λ m. p ++ At m ∷ []) same
placed_at p n (d ∷ ds) (suc i) o e = let same : n + 1 + i ≡ n + suc i = omega arith in placed_at p (n + 1) ds i o e ∙ ap (λ m. p ++ At m ∷ []) same

one_index : (p : List Step) (m n : ℕ) → p ++ At m ∷ [] ≡ p ++ At n ∷ [] → m ≡ n
one_index [] m n e = cc
one_index (s ∷ p) m n e = let h : p ++ At m ∷ [] ≡ p ++ At n ∷ [] = cc in one_index p m n h

one_place : (p : List Step) (ds : List Data) (i j : ℕ) (o q : Placed) → slice_get (placed_from p 0 ds) i ≡ Some o → slice_get (placed_from p 0 ds) j
    ≡ Some q → o ≡ q → i ≡ j
one_place p ds i j o q a b e =
    let h : 0 + i ≡ 0 + j = one_index p (0 + i) (0 + j) (sym (placed_at p 0 ds i o a) ∙ ap (λ x. x.place) e ∙ placed_at p 0 ds j q b) in
    omega arith

pub selections_distinct : (π : Preference) (t : Data) → IsAccepted π t → (contest : Placed) → In contest (objects family.Contest t)
    → IsDistinct (λ o p. eq_by_cmp (by_name π t) o.value p.value) (selections_of_contest contest)
selections_distinct π t accepted contest c = distinct_from_one_place (λ o p. eq_by_cmp (by_name π t) o.value p.value)
    (selections_of_contest contest) (λ i j o p a b e.
    let h = (in_at (selections_of_contest contest) i o a) in
    let k = (in_at (selections_of_contest contest) j p b) in
    let m = named o h in
    let n = named p k in
    let same : m.0 ≡ n.0 = name_cmp_exact m.0 n.0 ((Equal-is (name_cmp m.0 n.0)).0 (sym (ap₂ (λ x y. is_eq (option_cmp name_cmp x y)) m.1 n.1) ∙ e)) in
    one_place _ (entries_at (codes "ContestSelection") contest.value) i j o p a b (one_named π t accepted contest o p m.0 c h k m.1 (n.1 ∙ ap Some (sym same))))
  where
    named : (o : Placed) → In o (selections_of_contest contest) → (n : NameParts) × (name_of π t o.value ≡ Some n)
    named o h =
        has_name π t accepted o.value
        (record { place = o.place; is = stands π t accepted family.Selection o (In-flat_map selections_of_contest o contest (contests t) c h) })

-- the values of a contest's selections
pub selection_values_distinct : (π : Preference) (t : Data) → IsAccepted π t → (contest : Placed) → In contest (objects family.Contest t)
    → IsDistinct (eq_by_cmp (by_name π t)) (entries_at (codes "ContestSelection") contest.value)
selection_values_distinct π t accepted contest c =
    subst (IsDistinct (eq_by_cmp (by_name π t))) (values-placed_from _ 0 (entries_at (codes "ContestSelection") contest.value))
    (distinct_map (λ o. o.value) (eq_by_cmp (by_name π t)) (selections_of_contest contest) (selections_distinct π t accepted contest c))

-- ---- the sets of an accepted report in rising order: they rise strictly, and positions are ranks

pub by_key_total : (π : Preference) → IsTotalOrder (by_key π)
by_key_total π = on_total (key_of π) (options_total key_cmp_total)

pub by_name_total : (π : Preference) (t : Data) → IsTotalOrder (by_name π t)
by_name_total π t = on_total (name_of π t) (options_total name_cmp_total)

pub reference_cmp_total : (π : Preference) (t : Data) (f : Family) → IsTotalOrder (reference_cmp π t f)
reference_cmp_total π t f = on_total (λ d. key_named π t f (text_of d)) (options_total key_cmp_total)

-- objects of a family: those of an array among them
pub objects_rise : (π : Preference) (t : Data) → IsAccepted π t → (f : Family) → has_keys f ≡ true → (ds : List Data)
    → IsPart ds (map (λ o. o.value) (objects f t)) → IsStrictlySortedBy (option_cmp key_cmp) (map (key_of π) (rising_list (by_key π) ds))
objects_rise π t accepted f keyed ds part =
    rises (option_cmp key_cmp) (options_total key_cmp_total) (key_of π) ds
    (part_distinct (eq_by_cmp (by_key π)) ds (map (λ o. o.value) (objects f t)) part (values_distinct π t (no_identity_fault π t accepted) f keyed))

-- the elections
pub elections_rise : (π : Preference) (t : Data) → IsAccepted π t → IsStrictlySortedBy (option_cmp key_cmp)
    (map (key_of π) (rising_list (by_key π) (entries_at (codes "Election") t)))
elections_rise π t accepted = rises (option_cmp key_cmp) (options_total key_cmp_total) (key_of π) (entries_at (codes "Election") t)
    (elections_distinct π t (no_identity_fault π t accepted))

-- ---- selections of a contest

module _ (π : Preference) (t : Data) (accepted : IsAccepted π t) (contest : Placed) (stands : In contest (objects family.Contest t)) where
  pub selections_rise : IsStrictlySortedBy (option_cmp name_cmp)
      (map (name_of π t) (rising_list (by_name π t) (entries_at (codes "ContestSelection") contest.value)))
  selections_rise =
      rises (option_cmp name_cmp) (options_total name_cmp_total) (name_of π t) (entries_at (codes "ContestSelection") contest.value)
      (selection_values_distinct π t accepted contest stands)

  -- the selection at a position has that rank
  pub selection_ranks : (i : ℕ) (d : Data) → slice_get (rising_list (by_name π t) (entries_at (codes "ContestSelection") contest.value)) i ≡ Some d
      → rank_of_name π t (entries_at (codes "ContestSelection") contest.value) (name_of π t d) ≡ i
  selection_ranks i d e =
      rank_by_at (name_of π t) (option_cmp name_cmp) (options_total name_cmp_total) (entries_at (codes "ContestSelection") contest.value) i d
      (selection_values_distinct π t accepted contest stands) e

-- ---- the selections in the report that is built have canonical ids, by the rank of their contest and their own

-- the selections of a contest, without their places
abbrev pub selection_values : Placed → List Data
selection_values contest = entries_at (codes "ContestSelection") contest.value

pub listed : (contest : Placed) → map (λ o. o.value) (selections_of_contest contest) ≡ selection_values contest
listed contest = values-placed_entries (codes "ContestSelection") contest

module _ (π : Preference) (t : Data) (accepted : IsAccepted π t) (tree : IsTree t) where
  -- ---- `@id` texts

  module _ (bounded : IsBounded t) where
    -- ---- references

    module _ (r d : Data) (owned : owner t family.Selection (text_of r) ≡ Some d) where
      -- the contest and the selection that the reference names
      abbrev named : FoundSelection t (text_of r) d
      named = owner_found t (text_of r) d owned

      pub text_built : text_of (normal_selection_reference π t r) ≡ id_of_selection π t named.contest.value named.selection.value
      text_built =
          ap (λ x. option_map_or (λ (c : Placed). option_map_or (λ (o : Placed). id_of_selection π t c.value o.value) (selection_with (text_of r) c) []) x [])
          named.contest_is
          ∙ ap (λ x. option_map_or (λ (o : Placed). id_of_selection π t named.contest.value o.value) x []) named.selection_is
