-- What a report means at the keys of a part are the records of its objects: each object of an accepted report has a record,
-- and no two of a part have one key.
use Rattle.erd_compare.proofs.Common.{◌≡◌, ℕ, zero, suc, ◌≤◌, Bool, true, false, ◌⊎◌, List, [], ◌∷◌, length, nat_lt, slice_get, Some, None, Option, option_map}
use Rattle.erd_compare.proofs.Common.{find, option_and_then, is_eq, sym, refl, ap, ◌∙◌, subst, inl, inr, arith, tied_itself, slice_get_within, option_cmp, Data}
use Rattle.erd_compare.proofs.Common.{Family, family, Role, role, In, any_at, position_of, has_keys, key_cmp, Preference, key_of, election_key_in, election_in}
use Rattle.erd_compare.proofs.Common.{ObjectRecord, Placed, report_of, elections, objects, has_several, election_of_place, meaning, object_record}
use Rattle.erd_compare.proofs.Common.{record_in_election, placed_record, records_of, election_records, key_cmp_total, find-Some, find-any, option_map-Some}
use Rattle.erd_compare.proofs.Common.{has_identifier, in_at, one_key, no_election_id, options_exact, equal_keys, Key, record_with_key, record_without_key}
use Rattle.erd_compare.proofs.Common.{record_at, RecordMap, IsWholeTree, HasNoElectionId, TellsHeld, AreWays, Ways, view, Judged, role_of_part, objects_in}
use Rattle.erd_compare.proofs.Common.{key_with_role, holder_key_in, is_ranked, TellsAtPositions, HasKeyAt, IsComparable, record_of_class, Part, part, ◌+◌, cond}
use Rattle.erd_compare.proofs.Common.{map, filter, is_lt, Ordering, slice_get-map, IsTotalOrder, AllByRecursion, IsStrictlySortedBy, eq_by_cmp, In-all}
use Rattle.erd_compare.proofs.Common.{all_weakened, rank_of, rising_keys, election_rank_of, rising_list, positioned, rank_in_keys, rising_positions, IsDistinct}
use Rattle.erd_compare.proofs.Common.{distinct_from_one_place, all_rising, rising_strictly, stands_at_rank, KeyPosition, positioned_made, positioned_keys}
use Rattle.erd_compare.proofs.Common.{all_positioned, rising_positioned, rising_election_keys, keys_in_role, key_in_role, rising_in_role}
use Rattle.std.specs.Cmp.Lexicographic.{options_total}
use Rattle.erd_check.specs.Wants.{asked, class_of_object}
use Rattle.erd_check.specs.declared.want.Want.TheVariants.{Object}
use Rattle.erd_check.proofs.Shapes.{ObjectIn, object_in, Within, Within-root}
use Rattle.erd_meaning.proofs.finding.Found.{one_election_key}
use Rattle.erd_meaning.proofs.accepted.DistinctKeys.{election_has_identifier}
use Rattle.erd_meaning.proofs.accepted.Standing.{no_identity_fault, no_shape_fault, election_stands, skeleton, stands}
use Rattle.erd_compare.specs.code.DifferingNames.{IsOnlyAmong}
use Rattle.erd_compare.proofs.differing.Walks.{to_stands}
use Rattle.erd_compare.proofs.whole_trees.WholeTrees.{whole_election, whole_object}
use Rattle.erd_text.proofs.RisingOrders.{count_map, rising-In}
use Rattle.erd_text.proofs.RisingLists.{rising_list_map}

-- ---- the first object with a key

-- the object has this key, or none
abbrev has_key : Preference → Option Key → Placed → Bool
has_key π k o = is_eq (option_cmp key_cmp (key_of π o.value) k)

-- objects with one key, or with none, stand at one position
abbrev AreApart : Preference → List Placed → Type 0
AreApart π os = (i j : ℕ) (o p : Placed) → slice_get os i ≡ Some o → slice_get os j ≡ Some p → key_of π o.value ≡ key_of π p.value → i ≡ j

module _ (π : Preference) (os : List Placed) where
  -- the object at a position is found by its key
  find_here : AreApart π os → (i : ℕ) (o : Placed) → slice_get os i ≡ Some o → find (has_key π (key_of π o.value)) os ≡ Some o
  find_here apart i o at =
      let k = key_of π o.value in
      let found = find-any (has_key π k) os (any_at (has_key π k) o os (in_at os i o at) (ap is_eq (tied_itself (options_total key_cmp_total) k))) in
      let place = position_of os found.0 found.3 in
      let same : place.0 ≡ i = apart place.0 i found.0 o place.1 at (options_exact key_cmp equal_keys (key_of π found.0.value) k found.2) in
      found.1 ∙ (sym place.1 ∙ (ap (slice_get os) same ∙ at))

  -- an object that is found has the key
  found_at : (k : Option Key) (o : Placed) → find (has_key π k) os ≡ Some o → (i : ℕ) × (slice_get os i ≡ Some o) × (key_of π o.value ≡ k)
  found_at k o e =
      let found = find-Some (has_key π k) os o e in
      let place = position_of os o found.0 in
      (place.0, place.1, options_exact key_cmp equal_keys (key_of π o.value) k found.1)

-- ---- the records at keys

-- the map has the record of each object with the role at its key, and nothing at any other key
pub record HoldsRecords (π : Preference) (t : Data) (r : Role) (m : RecordMap) : Type 0 where
  pub at_key : (i : ℕ) (o : Placed) → slice_get (objects_in r t) i ≡ Some o → m (key_with_role π r o.value)
      ≡ option_map (record_in_election (holder_key_in π r t i)) (object_record π t r o.value)
  pub beside : (k : Option Key) → (m k ≡ None) ⊎ ((i : ℕ) × HasKeyAt π t r i k)
  pub one : (i j : ℕ) (k : Option Key) → HasKeyAt π t r i k → HasKeyAt π t r j k → i ≡ j
  pub within : (i : ℕ) (o : Placed) → slice_get (objects_in r t) i ≡ Some o → Within t (asked (Object r) o.value)
  pub whole : (i : ℕ) (o : Placed) → slice_get (objects_in r t) i ≡ Some o → IsWholeTree o.value

-- the records of a family with keys
records_keyed : (π : Preference) (t : Data) (f : Family) (k : Key) → has_keys f ≡ true → records_of π t f k ≡ option_and_then (placed_record π t f)
    (find (has_key π (Some k)) (objects f t))
records_keyed π t family.Selection k keyed = absurd (cc keyed)
records_keyed π t f k keyed = refl

-- the election that holds an object of such a family
election_here : (t : Data) (f : Family) (i : ℕ) (o : Placed) → has_keys f ≡ true → slice_get (objects f t) i ≡ Some o → election_in f t i
    ≡ election_of_place o.place
election_here t family.Selection i o keyed at = absurd (cc keyed)
election_here t f i o keyed at = ap (option_and_then (λ (x : Placed). election_of_place x.place)) at

module _ (π : Preference) (t : Data) (c : IsComparable π t) (f : Family) (keyed : has_keys f ≡ true) where
  kept : (d : Data) → key_with_role π (role.OfFamily f) d ≡ key_of π d
  kept d = rw keyed

  identified : (i : ℕ) (o : Placed) → slice_get (objects f t) i ≡ Some o → (k : Key) × (key_of π o.value ≡ Some k)
  identified i o at = has_identifier π t (no_identity_fault π t c.accepted) f o keyed (in_at (objects f t) i o at)

  apart_in_family : AreApart π (objects f t)
  apart_in_family i j o p at there same =
      let its = identified i o at in
      one_key π t f its.0 i j (no_identity_fault π t c.accepted) (ap (option_and_then (λ (x : Placed). key_with_role π (role.OfFamily f) x.value)) at
      ∙ (kept o.value ∙ its.1))
      (ap (option_and_then (λ (x : Placed). key_with_role π (role.OfFamily f) x.value)) there ∙ (kept p.value ∙ (sym same ∙ its.1)))

  family_at_key : (i : ℕ) (o : Placed) → slice_get (objects f t) i ≡ Some o
      → record_with_key (meaning π t) f (key_with_role π (role.OfFamily f) o.value) ≡ option_map (record_in_election (holder_key_in π (role.OfFamily f) t i))
      (object_record π t (role.OfFamily f) o.value)
  family_at_key i o at =
      let its = identified i o at in
      let found : find (has_key π (Some its.0)) (objects f t) ≡ Some o =
      subst (λ k. find (has_key π k) (objects f t) ≡ Some o) its.1 (find_here π (objects f t) apart_in_family i o at) in
      ap (record_with_key (meaning π t) f) (kept o.value ∙ its.1)
      ∙ (records_keyed π t f its.0 keyed
      ∙ (ap (option_and_then (placed_record π t f)) found
      ∙ ap (λ e. option_map (record_in_election (option_and_then (election_key_in π t) e)) (object_record π t (role.OfFamily f) o.value))
      (sym (election_here t f i o keyed at))))

  family_beside : (k : Option Key) → (record_with_key (meaning π t) f k ≡ None) ⊎ ((i : ℕ) × HasKeyAt π t (role.OfFamily f) i k)
  family_beside None = inl refl
  family_beside (Some k) = at (find (has_key π (Some k)) (objects f t)) refl
    where
      at : (x : Option Placed) → find (has_key π (Some k)) (objects f t) ≡ x → (record_with_key (meaning π t) f (Some k) ≡ None)
          ⊎ ((i : ℕ) × HasKeyAt π t (role.OfFamily f) i (Some k))
      at None is = inl (records_keyed π t f k keyed ∙ ap (option_and_then (placed_record π t f)) is)
      at (Some o) is = let found = found_at π (objects f t) (Some k) o is in
          inr (found.0, record { object = o; stands = found.1; key = kept o.value ∙ found.2 })

  family_records : HoldsRecords π t (role.OfFamily f) (record_with_key (meaning π t) f)
  family_records = record {
    at_key = family_at_key;
    beside = family_beside;
    one = λ i j k h g. apart_in_family i j h.object g.object h.stands g.stands (sym (kept h.object.value) ∙ (h.key ∙ sym (sym (kept g.object.value) ∙ g.key)));
    within = λ i o at. record { place = o.place; is = stands π t c.accepted f o (in_at (objects f t) i o at) };
    whole = λ i o at. whole_object t f c.whole o (in_at (objects f t) i o at);
  }

-- a record that no election holds
unheld : (r : Option ObjectRecord) → r ≡ option_map (record_in_election None) r
unheld None = refl
unheld (Some r) = refl

few : (n : ℕ) → nat_lt 1 n ≡ false → n ≤ 1
few n h = grind arith

module _ (π : Preference) (t : Data) (c : IsComparable π t) where
  apart_elections : AreApart π (elections t)
  apart_elections i j o p at there same = by_key (key_of π o.value) refl
    where
      sole : (b : Bool) → has_several t ≡ b → key_of π o.value ≡ None → i ≡ j
      sole true is none = let its = election_has_identifier π t (no_identity_fault π t c.accepted) is o (in_at (elections t) i o at) in
          let clash : None ≡ Some its.0 = sym none ∙ its.1 in absurd (cc clash)
      sole false is none = omega (arith, few (length (elections t)) is, slice_get_within (elections t) i o at, slice_get_within (elections t) j p there)

      by_key : (k : Option Key) → key_of π o.value ≡ k → i ≡ j
      by_key None is = sole (has_several t) refl is
      by_key (Some k) is = one_election_key π t (no_identity_fault π t c.accepted) i j o p k at there is (sym same ∙ is)

  election_at_key : (i : ℕ) (o : Placed) → slice_get (elections t) i ≡ Some o → election_records π t (key_of π o.value) ≡ option_map (record_in_election None)
      (object_record π t role.Election o.value)
  election_at_key i o at =
      ap (option_and_then (λ (e : Placed). object_record π t role.Election e.value)) (find_here π (elections t) apart_elections i o at)
      ∙ unheld (object_record π t role.Election o.value)

  election_beside : (k : Option Key) → (election_records π t k ≡ None) ⊎ ((i : ℕ) × HasKeyAt π t role.Election i k)
  election_beside k = at (find (has_key π k) (elections t)) refl
    where
      at : (x : Option Placed) → find (has_key π k) (elections t) ≡ x → (election_records π t k ≡ None) ⊎ ((i : ℕ) × HasKeyAt π t role.Election i k)
      at None is = inl (ap (option_and_then (λ (e : Placed). object_record π t role.Election e.value)) is)
      at (Some o) is = let found = found_at π (elections t) k o is in inr (found.0, record { object = o; stands = found.1; key = found.2 })

  elections_records : HoldsRecords π t role.Election (election_records π t)
  elections_records = record {
    at_key = election_at_key;
    beside = election_beside;
    one = λ i j k h g. apart_elections i j h.object g.object h.stands g.stands (h.key ∙ sym g.key);
    within = λ i o at. record { place = o.place; is = election_stands t (skeleton π t c.accepted) o (in_at (elections t) i o at) };
    whole = λ i o at. whole_election t o c.whole (in_at (elections t) i o at);
  }

  -- the report is the only object with its role
  the_report : (i : ℕ) (o : Placed) → slice_get (report_of t ∷ []) i ≡ Some o → (i ≡ 0) × (report_of t ≡ o)
  the_report zero o at = (refl, cc)
  the_report (suc i) o at = cc

  report_beside : (k : Option Key) → (record_without_key (object_record π t role.Report t) k ≡ None) ⊎ ((i : ℕ) × HasKeyAt π t role.Report i k)
  report_beside None = inr (0, record { object = report_of t; stands = refl; key = refl })
  report_beside (Some k) = inl refl

  report_record : HoldsRecords π t role.Report (record_without_key (object_record π t role.Report t))
  report_record = record {
    at_key = λ i o at. unheld (object_record π t role.Report t)
        ∙ ap (λ (x : Placed). option_map (record_in_election None) (object_record π t role.Report x.value)) (the_report i o at).1;
    beside = report_beside;
    one = λ i j k h g. (the_report i h.object h.stands).0 ∙ sym (the_report j g.object g.stands).0;
    within = λ i o at. subst (λ (x : Placed). Within t (asked (Object role.Report) x.value)) (the_report i o at).1 (Within-root t);
    whole = λ i o at. subst (λ (x : Placed). IsWholeTree x.value) (the_report i o at).1 c.whole;
  }

  -- no two objects with a role have the same key
  pub one_object : (r : Role) → is_ranked r ≡ true → (i j : ℕ) (k : Option Key) → HasKeyAt π t r i k → HasKeyAt π t r j k → i ≡ j
  one_object (role.OfFamily f) ranked = (family_records π t c f ranked).one
  one_object role.Election ranked = elections_records.one
  one_object r ranked = λ i j k h g. (the_report i h.object h.stands).0 ∙ sym (the_report j g.object g.stands).0

  pub records_at : (p : Part) → HoldsRecords π t (role_of_part p) (record_at (meaning π t) p)
  records_at part.Report = report_record
  records_at part.Election = elections_records
  records_at p = family_records π t c _ refl

-- ---- each object has a record

own_record : (π : Preference) (t : Data) (c : IsComparable π t) (r : Role) (d : Data) → Within t (asked (Object r) d) → (a : ObjectRecord)
    × (object_record π t r d ≡ Some a) × HasNoElectionId a
own_record π t c r d w =
    let i : ObjectIn t r d = object_in t (no_shape_fault π t c.accepted) r d w in
    let class : class_of_object r d ≡ Some i.class = ap (class_of_object r) i.is_object ∙ i.at.among in
    (record_of_class π t i.class d, ap (option_map (λ x. record_of_class π t x d)) class, no_election_id π t d i.class)

module _ (π : Preference) (t : Data) (c : IsComparable π t) (p : Part) where
  -- the record at the key of the object at a position
  pub record_here : (k : Option Key) (i : ℕ) (h : HasKeyAt π t (role_of_part p) i k)
      → (a : ObjectRecord) × (object_record π t (role_of_part p) h.object.value ≡ Some a) × HasNoElectionId a
      × (record_at (meaning π t) p k ≡ Some (record_in_election (holder_key_in π (role_of_part p) t i) a))
  record_here k i h =
      let holds = records_at π t c p in
      let own = own_record π t c (role_of_part p) h.object.value (holds.within i h.object h.stands) in (
        own.0,
        own.1,
        own.2,
        ap (record_at (meaning π t) p) (sym h.key)
            ∙ (holds.at_key i h.object h.stands ∙ ap (option_map (record_in_election (holder_key_in π (role_of_part p) t i))) own.1),
      )

  -- a key that an object has, has a record
  pub some_record : (k : Option Key) (i : ℕ) → HasKeyAt π t (role_of_part p) i k → (a : ObjectRecord) × (record_at (meaning π t) p k ≡ Some a)
  some_record k i h = let r = record_here k i h in (record_in_election (holder_key_in π (role_of_part p) t i) r.0, r.3)

  -- a key has no record, unless it is among these, among which is each key of an object
  pub only_among : (ks : List (Option Key)) → ((i : ℕ) (k : Option Key) → HasKeyAt π t (role_of_part p) i k → In k ks) → (k : Option Key)
      → IsOnlyAmong (record_at (meaning π t) p) ks k
  only_among ks all k = elim ((records_at π t c p).beside k) [
    | inl none ↦ inl none
    | inr found ↦ inr (to_stands k ks (all found.0 k found.1))
  ]

  -- the value that is found at a position is that of the object there
  value_here : (k : Option Key) (i : ℕ) (d : Data) (h : HasKeyAt π t (role_of_part p) i k) → Some d ≡ option_map (λ o. o.value)
      (slice_get (objects_in (role_of_part p) t) i) → h.object.value ≡ d
  value_here k i d h found = let same : Some d ≡ Some h.object.value = found ∙ ap (option_map (λ (o : Placed). o.value)) h.stands in cc

  -- which is a whole tree
  pub whole_here : (i : ℕ) (d : Data) → Some d ≡ option_map (λ o. o.value) (slice_get (objects_in (role_of_part p) t) i) → IsWholeTree d
  whole_here i d found =
      let o = option_map-Some (λ (o : Placed). o.value) (slice_get (objects_in (role_of_part p) t) i) d (sym found) in
      subst IsWholeTree o.2 ((records_at π t c p).whole i o.0 o.1)

-- ---- two reports

-- what holds of two records holds of equal ones
pub tells_as : (P : Option ObjectRecord → Option ObjectRecord → Type 0) (a b x y : Option ObjectRecord) → a ≡ x → b ≡ y → P x y → P a b
tells_as P a b x y e g h = subst (λ z. P z b) (sym e) (subst (P x) (sym g) h)

-- what is told of the objects at two positions, and of the keys of their elections, is told of their records at a key that
-- both have
pub records_here : (all : Bool) (a b : Judged) (c : IsComparable a.prefer (view a.tree)) (d : IsComparable b.prefer (view b.tree)) (p : Part)
    (i j : ℕ) (one other : Data)
    → Some one ≡ option_map (λ o. o.value) (slice_get (objects_in (role_of_part p) (view a.tree)) i) → Some other ≡ option_map (λ o. o.value)
    (slice_get (objects_in (role_of_part p) (view b.tree)) j) → (own : Ways)
    → AreWays all (object_record a.prefer (view a.tree) (role_of_part p) one) (object_record b.prefer (view b.tree) (role_of_part p) other) own → (held : Ways)
    → TellsHeld all own (holder_key_in a.prefer (role_of_part p) (view a.tree) i) (holder_key_in b.prefer (role_of_part p) (view b.tree) j) held
    → TellsAtPositions all a b p i j held
records_here all a b c d p i j one other left right own told held on k mine its =
    let π = a.prefer in
    let ρ = b.prefer in
    let t = view a.tree in
    let u = view b.tree in
    let x = record_here π t c p k i mine in
    let y = record_here ρ u d p k j its in
    let first = ap (object_record π t (role_of_part p)) (sym (value_here π t c p k i one mine left)) ∙ x.1 in
    let second = ap (object_record ρ u (role_of_part p)) (sym (value_here ρ u d p k j other its right)) ∙ y.1 in
    tells_as (λ r s. AreWays all r s held) (record_at (meaning π t) p k) (record_at (meaning ρ u) p k)
    (Some (record_in_election (holder_key_in π (role_of_part p) t i) x.0))
    (Some (record_in_election (holder_key_in ρ (role_of_part p) u j) y.0)) x.3 y.3
    (on x.0 y.0 x.2 y.2 (tells_as (λ r s. AreWays all r s own) (Some x.0) (Some y.0) (object_record π t (role_of_part p) one)
    (object_record ρ u (role_of_part p) other) (sym first) (sym second) told))

-- ---- the keys of the objects with a role, in rising order: no key stands twice, and each stands at its rank

-- keys are compared, and none comes before each
abbrev pub by_key : Option Key → Option Key → Ordering
by_key = option_cmp key_cmp

pub by_key_total : IsTotalOrder by_key
by_key_total = options_total key_cmp_total

-- ---- keys by position

-- the key of the object at a position is that in the list of keys
pub key_listed : (π : Preference) (t : Data) (r : Role) (i : ℕ) (k : Option Key) → HasKeyAt π t r i k → slice_get (keys_in_role π t r) i ≡ Some k
key_listed π t r i k h = slice_get-map (λ (o : Placed). key_with_role π r o.value) (objects_in r t) i
    ∙ (ap (option_map (λ (o : Placed). key_with_role π r o.value)) h.stands ∙ ap Some h.key)

-- and the other way round
pub listed_key : (π : Preference) (t : Data) (r : Role) (i : ℕ) (k : Option Key) → slice_get (keys_in_role π t r) i ≡ Some k → HasKeyAt π t r i k
listed_key π t r i k e =
    let o = option_map-Some (λ (o : Placed). key_with_role π r o.value) (slice_get (objects_in r t) i) k
    (sym (slice_get-map (λ (o : Placed). key_with_role π r o.value) (objects_in r t) i) ∙ e) in
    record { object = o.0; stands = o.1; key = o.2 }

-- the key that is found at a position is that of the object there
pub key_found : (π : Preference) (t : Data) (r : Role) (i : ℕ) (k : Option Key) → HasKeyAt π t r i k → is_ranked r ≡ true → key_in_role π r t i ≡ k
key_found π t (role.OfFamily f) i k h ranked = ap (option_and_then (λ (x : Placed). key_with_role π (role.OfFamily f) x.value)) h.stands ∙ h.key
key_found π t role.Election i k h ranked = ap (option_and_then (λ (x : Placed). key_with_role π role.Election x.value)) h.stands ∙ h.key
key_found π t r i k h ranked = h.key

-- ---- in rising order

module _ (π : Preference) (t : Data) (r : Role) where
  abbrev keys : List (Option Key)
  keys = keys_in_role π t r

  abbrev rising : List (Option Key)
  rising = rising_in_role π t r

  -- the rising keys, each with the position of its object
  abbrev pub entries : List KeyPosition
  entries = rising_list (λ a b. by_key a.0 b.0) (positioned 0 keys)

  pub entry_keys : map (λ (e : KeyPosition). e.0) entries ≡ rising
  entry_keys = rising_list_map (λ (e : KeyPosition). e.0) by_key (positioned 0 keys) ∙ ap (rising_list by_key) (positioned_keys 0 keys)

  -- the key at a rank is that of the entry
  pub key_at : (n : ℕ) → slice_get rising n ≡ option_map (λ (e : KeyPosition). e.0) (slice_get entries n)
  key_at n = ap (λ ks. slice_get ks n) (sym entry_keys) ∙ slice_get-map (λ (e : KeyPosition). e.0) entries n

  -- the entry at the rank of a key
  pub entry_with : (n : ℕ) (k : Option Key) → slice_get rising n ≡ Some k → (e : KeyPosition) × (slice_get entries n ≡ Some e) × (e.0 ≡ k)
  entry_with n k is = option_map-Some (λ (e : KeyPosition). e.0) (slice_get entries n) k (sym (key_at n) ∙ is)

  all_stand : AllByRecursion (λ (e : KeyPosition). HasKeyAt π t r e.1 e.0) entries
  all_stand =
      all_weakened (λ (e : KeyPosition). slice_get keys e.1 ≡ Some e.0) (λ (e : KeyPosition). HasKeyAt π t r e.1 e.0) entries
      (λ e is. listed_key π t r e.1 e.0 is)
      (all_rising (λ (e : KeyPosition). slice_get keys e.1 ≡ Some e.0) (λ a b. by_key a.0 b.0) (positioned 0 keys)
      (all_positioned keys keys 0 (λ j. let none : j ≡ 0 + j = omega arith in ap (slice_get keys) none)))

  -- it stands there with its key
  pub stands_there : (j : ℕ) (e : KeyPosition) → slice_get entries j ≡ Some e → HasKeyAt π t r e.1 e.0
  stands_there j e is = In-all (λ (x : KeyPosition). HasKeyAt π t r x.1 x.0) e entries all_stand (in_at entries j e is)

  pub all_rise : (i : ℕ) (k : Option Key) → HasKeyAt π t r i k → In k rising
  all_rise i k h = rising-In by_key k keys (in_at keys i k (key_listed π t r i k h))

  -- the key at a rank, by the position that stands there
  pub key_there : is_ranked r ≡ true → (j : ℕ) (e : KeyPosition) → slice_get entries j ≡ Some e → key_in_role π r t e.1 ≡ e.0
  key_there ranked j e is = key_found π t r e.1 e.0 (stands_there j e is) ranked

  -- the keys at the ranks are those of the objects at the rising positions
  pub keys_at : is_ranked r ≡ true → (n : ℕ) → slice_get rising n ≡ option_map (key_in_role π r t) (slice_get (rising_positions keys) n)
  keys_at ranked n =
      key_at n ∙ (at (slice_get entries n) refl ∙ ap (option_map (key_in_role π r t)) (sym (slice_get-map (λ (e : KeyPosition). e.1) entries n)))
    where
      at : (o : Option KeyPosition) → slice_get entries n ≡ o → option_map (λ (e : KeyPosition). e.0) o ≡ option_map (key_in_role π r t)
          (option_map (λ (e : KeyPosition). e.1) o)
      at None is = refl
      at (Some e) is = ap Some (sym (key_there ranked n e is))

  module _ (c : IsComparable π t) (ranked : is_ranked r ≡ true) where
    keys_apart : IsDistinct (eq_by_cmp by_key) keys
    keys_apart =
        distinct_from_one_place (eq_by_cmp by_key) keys (λ i j k l here there same.
        one_object π t c r ranked i j k (listed_key π t r i k here)
        (listed_key π t r j k (there ∙ ap Some (sym (options_exact key_cmp equal_keys k l same)))))

    pub keys_rise : IsStrictlySortedBy by_key rising
    keys_rise = rising_strictly by_key_total keys keys_apart

    pub at_rank : (i : ℕ) (k : Option Key) → HasKeyAt π t r i k → slice_get rising (rank_in_keys keys k) ≡ Some k
    at_rank i k h = stands_at_rank by_key_total keys k keys_apart (in_at keys i k (key_listed π t r i k h))

-- ---- what a report lends

module _ (π : Preference) (t : Data) where
  pub family_positions : (f : Family) → map (λ p. p.1) (rising_keys π t f) ≡ rising_positions (keys_in_role π t (role.OfFamily f))
  family_positions f = ap (map (λ (p : KeyPosition). p.1)) (sym (rising_positioned π t f))

  pub election_positions : map (λ p. p.1) (rising_election_keys π t) ≡ rising_positions (keys_in_role π t role.Election)
  election_positions =
      sym (ap (map (λ (p : KeyPosition). p.1)) (ap (rising_list (λ a b. by_key a.0 b.0)) (positioned_made (λ (e : Placed). key_of π e.value) 0 (elections t))))

  -- as many objects of a family have lesser keys as there are lesser keys
  pub family_rank : (f : Family) (k : Option Key) → has_keys f ≡ true → rank_of π t f k ≡ rank_in_keys (keys_in_role π t (role.OfFamily f)) k
  family_rank f k keyed = sym (
      count_map (λ (o : Placed). cond (has_keys f) (key_of π o.value) None) (λ l. is_lt (by_key l k)) (objects f t)
      ∙ ap (λ b. length (filter (λ (o : Placed). is_lt (by_key (cond b (key_of π o.value) None) k)) (objects f t))) keyed)

  pub election_rank : (k : Option Key) → election_rank_of π t k ≡ rank_in_keys (keys_in_role π t role.Election) k
  election_rank k = sym (count_map (λ (o : Placed). key_of π o.value) (λ l. is_lt (by_key l k)) (elections t))

  pub family_ranks : (f : Family) (o : Option Key) → has_keys f ≡ true
      → option_map (λ k. rank_of π t f (Some k)) o ≡ option_map (λ k. rank_in_keys (keys_in_role π t (role.OfFamily f)) (Some k)) o
  family_ranks f None keyed = refl
  family_ranks f (Some k) keyed = ap Some (family_rank f (Some k) keyed)

  -- the rank of an election with a key
  pub election_ranks : (o : Option Placed) (k : Key) → option_and_then (λ e. key_of π e.value) o ≡ Some k
      → option_map (λ e. election_rank_of π t (key_of π e.value)) o ≡ option_map (λ l. rank_in_keys (keys_in_role π t role.Election) (Some l))
      (option_and_then (λ e. key_of π e.value) o)
  election_ranks None k is = cc
  election_ranks (Some e) k is =
      ap (λ l. Some (election_rank_of π t l)) is
      ∙ (ap Some (election_rank (Some k)) ∙ sym (ap (option_map (λ l. rank_in_keys (keys_in_role π t role.Election) (Some l))) is))
