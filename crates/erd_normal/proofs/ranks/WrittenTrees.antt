-- The objects of each election in the order of their keys, and the tree that is written of them.
use Rattle.erd_normal.proofs.Common.{◌≡◌, ℕ, zero, suc, ◌+◌, ◌<◌, ◌≤◌, Bool, true, false, cond, List, [], ◌∷◌, ◌++◌, map, length, if◌then◌else◌, ◌==◌}
use Rattle.erd_normal.proofs.Common.{slice_get, Some, None, codes, filter, Option, option_map, flat_map, option_and_then, bytes_eq, unwrap_or, sym, refl, ap}
use Rattle.erd_normal.proofs.Common.{◌∙◌, append-nil, arith, ne_eqb, Decides-eqb, length-map, filter-append, slice_get_past, options_total, enumerate_from}
use Rattle.erd_normal.proofs.Common.{option_cmp, option_map_or, Data, Items, no_items, item, Family, family, Step, At, Name, list_of_items, entries_at}
use Rattle.erd_normal.proofs.Common.{IsAccepted, has_keys, key_cmp, Preference, key_of, key_in, rising_keys, Placed, placed_from, placed_entries, report_of}
use Rattle.erd_normal.proofs.Common.{elections, objects, election_of_place, rising_list, key_cmp_total, option_map-Some, skeleton, values-placed_entries}
use Rattle.erd_normal.proofs.Common.{election_entries, Skeleton, by_first, rising_list_map, rising_election_keys, Key, in_order_of_keys, rising_objects}
use Rattle.erd_normal.proofs.Common.{rising_elections, holding_election, objects_in_election, by_key, In-filter, in_at, ap₂, role, class_of_object}
use Rattle.erd_normal.proofs.Common.{normal_object_with, in_envelope, map_from, written_report_value, view, Judged}
use Rattle.erd_meaning.specs.code.Spots.{member_name}
use Rattle.erd_text.proofs.StableRising.{map_after}
use Rattle.erd_normal.proofs.ranks.SelectionRanks.{next, positions, stands, values_kept, Next}

-- ---- the objects of one election among the sorted objects of a family: they are the objects that it holds, in the order of
-- their keys

-- the position of the election that an object stands in, or 0
abbrev pub placed_election : Placed → ℕ
placed_election o = unwrap_or (election_of_place o.place) 0

abbrev pub is_in : ℕ → Placed → Bool
is_in i o = placed_election o == i

election_is : (t : Data) (f : Family) (j : ℕ) (o : Placed) → has_keys f ≡ true → slice_get (objects f t) j ≡ Some o → holding_election t f j ≡ placed_election o
election_is t family.Selection j o keyed at = cc
election_is t d j o keyed at = ap (λ x. unwrap_or (option_and_then (λ (o : Placed). election_of_place o.place) x) 0) at

module _ (π : Preference) (t : Data) (f : Family) (keyed : has_keys f ≡ true) where
  -- the objects of a family that has keys, in order
  pub in_order : rising_objects π t f ≡ in_order_of_keys π (objects f t)
  in_order = ap (λ b. if b then in_order_of_keys π (objects f t) else []) keyed

  -- and those of an election
  pub values_in_election : (i : ℕ) → map (λ (o : ℕ × Placed). o.1.value) (objects_in_election π t f i) ≡ rising_list (by_key π)
      (map (λ o. o.value) (filter (is_in i) (objects f t)))
  values_in_election i =
      let key : (Placed → Option Key) = λ o. key_of π o.value in
      let in_this : (ℕ → Bool) = λ j. holding_election t f j == i in
      ap (λ os. map (λ (o : ℕ × Placed). o.1.value) (filter (λ o. in_this o.0) os)) in_order
      ∙ (map_after (λ (o : ℕ × Placed). o.1) (λ (o : Placed). o.value) (filter (λ o. in_this o.0) (in_order_of_keys π (objects f t)))
      ∙ (ap (map (λ (o : Placed). o.value)) (values_kept (option_cmp key_cmp) key (objects f t) (options_total key_cmp_total) in_this (is_in i)
      (λ j o e. ap (λ n. n == i) (election_is t f j o keyed e)))
      ∙ rising_list_map (λ (o : Placed). o.value) (by_key π) (filter (is_in i) (objects f t))))

-- an object that stands in an election is that at its position, and its family has keys
pub in_election_there : (π : Preference) (t : Data) (f : Family) (i k : ℕ) (o : ℕ × Placed) → slice_get (objects_in_election π t f i) k ≡ Some o
    → (has_keys f ≡ true) × (slice_get (objects f t) o.0 ≡ Some o.1)
in_election_there π t f i k o =
    (elim (has_keys f) as (λ b. has_keys f ≡ b
    → slice_get (filter (λ (o : ℕ × Placed). holding_election t f o.0 == i) (if b then in_order_of_keys π (objects f t) else [])) k ≡ Some o
    → (has_keys f ≡ true) × (slice_get (objects f t) o.0 ≡ Some o.1)) [
      | true ↦ λ keyed e.
          let inside =
          (In-filter (λ (o : ℕ × Placed). holding_election t f o.0 == i) o (in_order_of_keys π (objects f t))
          (in_at (filter (λ (o : ℕ × Placed). holding_election t f o.0 == i) (in_order_of_keys π (objects f t))) k o e)).0 in
          (keyed, stands (option_cmp key_cmp) (λ (o : Placed). key_of π o.value) (objects f t) o inside)
      | false ↦ λ none e. cc
    ]) refl

-- ---- an object that is found at a position

-- what is seen of it
pub found_value : (x : Option Placed) (d : Data) (o : Placed) → Some d ≡ option_map (λ (o : Placed). o.value) x → x ≡ Some o → d ≡ o.value
found_value None d o e is = cc
found_value (Some p) d o e is = let same : d ≡ p.value = cc in let one : p ≡ o = cc in same ∙ ap (λ (q : Placed). q.value) one

-- its key
pub found_key : (π : Preference) (t : Data) (f : Family) (i : ℕ) (o : Placed) → has_keys f ≡ true → slice_get (objects f t) i ≡ Some o
    → key_in π f t i ≡ key_of π o.value
found_key π t f i o keyed at =
    ap (option_and_then (λ (o : Placed). if has_keys f then key_of π o.value else None)) at ∙ ap (λ b. if b then key_of π o.value else None) keyed

pub seen_key : (π : Preference) (x : Option Placed) (d : Data) → option_map (λ (o : Placed). o.value) x ≡ Some d
    → option_and_then (λ (o : Placed). key_of π o.value) x ≡ key_of π d
seen_key π x d e = let o = option_map-Some (λ (o : Placed). o.value) x d e in ap (option_and_then (λ (o : Placed). key_of π o.value)) o.1 ∙ ap (key_of π) o.2

-- what is made of it
pub seen_value : {B : Type 0} (f : Data → B) (none : B) (x : Option Placed) (d : Data) → option_map (λ (o : Placed). o.value) x ≡ Some d
    → option_map_or (λ (o : Placed). f o.value) x none ≡ f d
seen_value f none x d e = let o = option_map-Some (λ (o : Placed). o.value) x d e in ap (λ x. option_map_or (λ (o : Placed). f o.value) x none) o.1 ∙ ap f o.2

pub unseen_value : {B : Type 0} (f : Data → List B) (x : Option Placed) → None ≡ option_map (λ (o : Placed). o.value) x
    → [] ≡ option_map_or (λ (o : Placed). f o.value) x []
unseen_value f None e = refl
unseen_value f (Some o) e = cc

-- one is found below the end
pub found_below : (os : List Placed) (i : ℕ) → i < length os → None ≡ option_map (λ (o : Placed). o.value) (slice_get os i) → ⊥
found_below [] i low e = absurd (omega arith)
found_below (o ∷ os) zero low e = cc
found_below (o ∷ os) (suc i) low e = found_below os i (omega arith) e

-- ---- which objects stand in an election

-- entries of one election are kept all, or none
one_election : (i n : ℕ) (p : List Step) → ((k : ℕ) (d : Data) → placed_election (record { place = p ++ At k ∷ []; value = d }) ≡ n) → (k : ℕ) (ds : List Data)
    → filter (is_in i) (placed_from p k ds) ≡ cond (n == i) (placed_from p k ds) []
one_election i n p its k [] = elim (n == i) as (λ b. placed_from p k [] ≡ cond b (placed_from p k []) []) [ true ↦ refl | false ↦ refl ]
one_election i n p its k (d ∷ ds) =
    let o : Placed = record { place = p ++ At k ∷ []; value = d } in
    let rest : List Placed = placed_from p (k + 1) ds in
    ap (λ m. cond (m == i) (o ∷ filter (is_in i) rest) (filter (is_in i) rest)) (its k d)
    ∙ ap (λ os. cond (n == i) (o ∷ os) os) (one_election i n p its (k + 1) ds)
    ∙ elim (n == i) as (λ b. cond b (o ∷ cond b rest []) (cond b rest []) ≡ cond b (o ∷ rest) []) [ true ↦ refl | false ↦ refl ]

-- the objects of the election at position n, and those of later ones
from_one : (name : List ℕ) (i n : ℕ) (e : Data) (es : List Data)
    → filter (is_in i) (flat_map (placed_entries name) (placed_from (Name (codes "Election") ∷ []) n (e ∷ es)))
    ≡ cond (n == i) (placed_from (Name (codes "Election") ∷ At n ∷ Name name ∷ []) 0 (entries_at name e)) [] ++ filter (is_in i)
    (flat_map (placed_entries name) (placed_from (Name (codes "Election") ∷ []) (n + 1) es))
from_one name i n e es =
    let p : List Step = Name (codes "Election") ∷ At n ∷ Name name ∷ [] in
    let rest : List Placed = flat_map (placed_entries name) (placed_from (Name (codes "Election") ∷ []) (n + 1) es) in
    filter-append (is_in i) (placed_from p 0 (entries_at name e)) rest ∙ ap (λ os. os ++ filter (is_in i) rest)
    (one_election i n p (λ k d. refl) 0 (entries_at name e))

-- those before have none
none_before : (name : List ℕ) (i n : ℕ) (es : List Data) → i < n
    → filter (is_in i) (flat_map (placed_entries name) (placed_from (Name (codes "Election") ∷ []) n es)) ≡ []
none_before name i n [] low = refl
none_before name i n (e ∷ es) low = from_one name i n e es ∙ rw (ne_eqb n i (λ same. absurd (omega (arith, same))))
    (none_before name i (n + 1) es (omega arith))

held_by : (name : List ℕ) (i n j : ℕ) (es : List Data) → i ≡ n + j
    → filter (is_in i) (flat_map (placed_entries name) (placed_from (Name (codes "Election") ∷ []) n es))
    ≡ option_map_or (placed_entries name) (slice_get (placed_from (Name (codes "Election") ∷ []) n es) j) []
held_by name i n j [] is = refl
held_by name i n zero (e ∷ es) is =
    let same : n ≡ i = omega arith in
    from_one name i n e es ∙ rw ((Decides-eqb n i).1 same, none_before name i (n + 1) es (omega arith)) (append-nil _)
held_by name i n (suc j) (e ∷ es) is = from_one name i n e es ∙ rw (ne_eqb n i (λ same. absurd (omega (arith, same, is))))
    (held_by name i (n + 1) j es (omega (arith, is)))

-- the objects that an election holds
pub in_elections_kept : (t : Data) (name : List ℕ) (i : ℕ) → filter (is_in i) (flat_map (placed_entries name) (elections t))
    ≡ option_map_or (placed_entries name) (slice_get (elections t) i) []
in_elections_kept t name i = held_by name i 0 i (entries_at (codes "Election") t) (let count : i ≡ 0 + i = omega arith in count)

-- and those of the report
pub in_report_kept : (t : Data) (name : List ℕ) → bytes_eq name (codes "Election") ≡ false → (i : ℕ) → filter (is_in i) (placed_entries name (report_of t))
    ≡ cond (0 == i) (placed_entries name (report_of t)) []
in_report_kept t name other i = one_election i 0 (Name name ∷ []) (λ k d. rw other refl) 0 (entries_at name t)

-- ---- no object stands in an election that is not there

none_listed : {A B : Type 0} (g : A → B) (xs : List A) → map g xs ≡ [] → xs ≡ []
none_listed g [] e = refl
none_listed g (x ∷ xs) e = cc

module _ (t : Data) (s : Skeleton t) (i : ℕ) (high : length (elections t) ≤ i) where
  some_election : (es : Items) → ¬ (es ≡ no_items) → 0 < length (list_of_items es)
  some_election no_items filled = absurd (filled refl)
  some_election (item d es) filled = omega arith

  later_than_none : (0 == i) ≡ false
  later_than_none =
      let some = some_election s.es s.filled in
      let many : length (elections t) ≡ length (list_of_items s.es) =
      sym (length-map (elections t) (λ (e : Placed). e.value)) ∙ ap length (values-placed_entries (codes "Election") (report_of t) ∙ election_entries t s) in
      ne_eqb 0 i (λ same. absurd (omega (arith, same, some, many, high)))

  none_in_report : (name : List ℕ) → bytes_eq name (codes "Election") ≡ false → filter (is_in i) (placed_entries name (report_of t)) ≡ []
  none_in_report name other = in_report_kept t name other i ∙ ap (λ b. cond b (placed_entries name (report_of t)) []) later_than_none

  none_in_elections : (name : List ℕ) → filter (is_in i) (flat_map (placed_entries name) (elections t)) ≡ []
  none_in_elections name = in_elections_kept t name i ∙ ap (λ o. option_map_or (placed_entries name) o []) (slice_get_past (elections t) i high)

  none_held : (f : Family) → has_keys f ≡ true → filter (is_in i) (objects f t) ≡ []
  none_held family.Candidate keyed = none_in_elections (codes "Candidate")
  none_held family.Contest keyed = none_in_elections (codes "Contest")
  none_held family.Style keyed = none_in_elections (codes "BallotStyle")
  none_held family.Selection keyed = cc
  none_held f keyed = none_in_report (member_name f) refl

pub none_in_election : (π : Preference) (t : Data) (f : Family) → IsAccepted π t → has_keys f ≡ true → (i : ℕ) → length (elections t) ≤ i
    → objects_in_election π t f i ≡ []
none_in_election π t f accepted keyed i high =
    none_listed (λ (o : ℕ × Placed). o.1.value) (objects_in_election π t f i)
    (values_in_election π t f keyed i ∙ ap (λ os. rising_list (by_key π) (map (λ (o : Placed). o.value) os))
    (none_held t (skeleton π t accepted) i high f keyed))

-- ---- the positions that a report lends

-- those of the objects of a family
pub lent_positions : (π : Preference) (t : Data) (f : Family) → has_keys f ≡ true → map (λ (p : Option Key × ℕ). p.1) (rising_keys π t f)
    ≡ map (λ (o : ℕ × Placed). o.0) (in_order_of_keys π (objects f t))
lent_positions π t f keyed =
    ap (λ b. map (λ (p : Option Key × ℕ). p.1)
    (rising_list (by_first (option_cmp key_cmp)) (map (λ (p : ℕ × Placed). (if b then key_of π p.1.value else None, p.0))
    (enumerate_from 0 (objects f t))))) keyed
    ∙ positions (option_cmp key_cmp) (λ (o : Placed). key_of π o.value) (objects f t)

-- those of the elections
pub lent_elections : (r s : Judged) → r ≡ s → map (λ (p : Option Key × ℕ). p.1) (rising_election_keys r.prefer (view r.tree)) ≡ map (λ (e : ℕ × Placed). e.0)
    (rising_elections s.prefer (view s.tree))
lent_elections r s same =
    positions (option_cmp key_cmp) (λ (o : Placed). key_of r.prefer o.value) (elections (view r.tree))
    ∙ ap (λ (j : Judged). map (λ (e : ℕ × Placed). e.0) (rising_elections j.prefer (view j.tree))) same

-- the election that comes next
pub next_election : (r s : Judged) (places : List ℕ) (k : ℕ) → places ≡ map (λ (p : Option Key × ℕ). p.1) (rising_election_keys r.prefer (view r.tree))
    → r ≡ s → k < length places → Next (rising_elections s.prefer (view s.tree)) (elections (view s.tree)) places k
next_election r s places k are same low =
    let es = rising_elections s.prefer (view s.tree) in
    next es (elections (view s.tree)) places k (are ∙ lent_elections r s same) low
    (λ p e. stands (option_cmp key_cmp) (λ (o : Placed). key_of s.prefer o.value) (elections (view s.tree)) p (in_at es k p e))

-- ---- the tree as it is written is the tree that is built for an accepted report

-- the report as it is written
abbrev pub written_tree : Preference → Data → Data
written_tree π t = in_envelope (normal_object_with (written_report_value π t) (class_of_object role.Report t) t)

-- ---- lists and members

-- where what becomes of each is the same, by its place
pub map_by_place : {A B : Type 0} (f : ℕ → A → B) (g : A → B) (n : ℕ) (xs : List A) → ((i : ℕ) (x : A) → slice_get xs i ≡ Some x → f (i + n) x ≡ g x)
    → map_from f n xs ≡ map g xs
map_by_place f g n [] each = refl
map_by_place f g n (x ∷ xs) each =
    ap₂ (λ y ys. y ∷ ys) (let none : n ≡ 0 + n = omega arith in ap (λ m. f m x) none ∙ each zero x refl)
    (map_by_place f g (n + 1) xs (λ i y e. let same : i + (n + 1) ≡ suc i + n = omega arith in ap (λ m. f m y) same ∙ each (suc i) y e))
