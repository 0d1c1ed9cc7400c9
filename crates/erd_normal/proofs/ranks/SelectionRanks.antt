-- Entries in the order of their keys, and the selections of contests in the order of their names, with their ranks.
use Rattle.erd_normal.proofs.Common.{◌≡◌, ℕ, zero, suc, ◌+◌, ◌<◌, Bool, true, false, cond, List, [], ◌∷◌, map, length, get_or, slice_get, Some, filter}
use Rattle.erd_normal.proofs.Common.{Ordering, sym, refl, ap, ◌∙◌, subst, arith, on_total, IsTotalOrder, enumerate_from, In, rising_list, by_first}
use Rattle.erd_normal.proofs.Common.{rising_list_map, In-rising, ◌^◌, ◌≤◌, ◌++◌, take, None, codes, Option, option_map, flat_map, option_and_then, append-nil}
use Rattle.erd_normal.proofs.Common.{length-append, length-map, take_more, slice_get-map, slice_get_within, get_or_from_slice_get, Data, view, Value, family}
use Rattle.erd_normal.proofs.Common.{entries_at, Preference, NameParts, Placed, contests, objects, IsBounded, name_of, option_map-Some, values-placed_flat}
use Rattle.erd_normal.proofs.Common.{name_in, AreNamedFrom, drop, replicate, option_copied, length-take, Bor, same_Some, options_total, AllByRecursion}
use Rattle.erd_normal.proofs.Common.{option_cmp, eq_by_cmp, Name, IsAccepted, selections_of_contest, name_cmp, positioned, rank_by, positions_by}
use Rattle.erd_normal.proofs.Common.{name_cmp_total, drop_all, values-placed_from, in_at, distinct_map, rank_map, rank_of_name, by_name, lent_name_cmp}
use Rattle.erd_normal.proofs.Common.{rising_selections, AreSelectionRanks}
use Rattle.erd_normal.proofs.lists.Lists.{filter_rising, numbered_stands, in_part}
use Rattle.erd_text.proofs.StableRising.{map_after}
use Rattle.std.proofs.lemmas.Grind.{flat_map-append}
use Rattle.std.proofs.lemmas.List.Folds.{length-flat_map-take, flat_map-map}
use Rattle.erd_meaning.proofs.selections.NamesTold.{Numbered}
use Rattle.erd_normal.proofs.ranks.RankedReferences.{numbered_at}
use Rattle.erd_meaning.proofs.selections.ContestSelections.{get_first, get_later}
use Rattle.erd_check.proofs.Positions.{left_there}
use Rattle.erd_meaning.specs.NumberedNames.{RankedParts}
use Rattle.erd_meaning.specs.Places.{places_put}
use Rattle.erd_meaning.specs.RankedNames.{ranked_name_cmp}
use Rattle.erd_meaning.proofs.rising.OrdersMade.{all_low, ranks_are}
use Rattle.erd_meaning.proofs.selections.PositionedKeys.{positioned-append, positioned_made}
use Rattle.erd_meaning.proofs.selections.RankedReports.{ranked_name_of, ranked_names_alike}
use Rattle.erd_normal.proofs.canonical.NormalKeys.{selection_values_distinct}
use Rattle.erd_meaning.specs.code.RankedOrders.{ranked_name_cmp_total}

-- ---- entries of a list in the order of their keys, each with its position

-- without their positions, the entries are left
without_positions : {A : Type 0} (n : ℕ) (xs : List A) → map (λ (p : ℕ × A). p.1) (enumerate_from n xs) ≡ xs
without_positions n [] = refl
without_positions n (x ∷ xs) = ap (λ ys. x ∷ ys) (without_positions (n + 1) xs)

-- what is kept by a test of positions is what a test of entries keeps, if the tests agree
kept_by_position : {A : Type 0} (q : ℕ → Bool) (r : A → Bool) (n : ℕ) (xs : List A) → ((i : ℕ) (x : A) → slice_get xs i ≡ Some x → q (n + i) ≡ r x)
    → map (λ (p : ℕ × A). p.1) (filter (λ p. q p.0) (enumerate_from n xs)) ≡ filter r xs
kept_by_position q r n [] each = refl
kept_by_position {A} q r n (x ∷ xs) each =
    let first : n ≡ n + 0 = omega arith in
    let later : List (ℕ × A) = filter (λ p. q p.0) (enumerate_from (n + 1) xs) in
    let more : map (λ (p : ℕ × A). p.1) later ≡ filter r xs =
    kept_by_position q r (n + 1) xs (λ i y e. let next : n + 1 + i ≡ n + suc i = omega arith in ap q next ∙ each (suc i) y e) in
    ap (λ b. map (λ (p : ℕ × A). p.1) (cond b ((n, x) ∷ later) later)) (ap q first ∙ each 0 x refl)
    ∙ elim (r x) as (λ b. map (λ (p : ℕ × A). p.1) (cond b ((n, x) ∷ later) later) ≡ cond b (x ∷ filter r xs) (filter r xs))
    [ true ↦ ap (λ ys. x ∷ ys) more | false ↦ more ]

module _ {A K : Type 0} (cmp : K → K → Ordering) (key : A → K) (xs : List A) where
  abbrev pub by_keys : A → A → Ordering
  by_keys a b = cmp (key a) (key b)

  abbrev pub entries : List (ℕ × A)
  entries = rising_list (λ a b. by_keys a.1 b.1) (enumerate_from 0 xs)

  -- their positions are those that stand with the keys
  pub positions : map (λ (p : K × ℕ). p.1) (rising_list (λ a b. cmp a.0 b.0) (map (λ (p : ℕ × A). (key p.1, p.0)) (enumerate_from 0 xs)))
      ≡ map (λ (p : ℕ × A). p.0) entries
  positions =
      ap (map (λ (p : K × ℕ). p.1)) (sym (rising_list_map (λ (p : ℕ × A). (key p.1, p.0)) (by_first cmp) (enumerate_from 0 xs)))
      ∙ sym (map_after (λ (p : ℕ × A). (key p.1, p.0)) (λ (p : K × ℕ). p.1) entries)

  -- without positions, they are the list in order
  pub values : map (λ (p : ℕ × A). p.1) entries ≡ rising_list by_keys xs
  values = rising_list_map (λ (p : ℕ × A). p.1) by_keys (enumerate_from 0 xs) ∙ ap (rising_list by_keys) (without_positions 0 xs)

  -- each stands at its position
  pub stands : (p : ℕ × A) → In p entries → slice_get xs p.0 ≡ Some p.1
  stands p inside =
      let place = numbered_stands 0 xs p ((In-rising (λ (a b : ℕ × A). by_keys a.1 b.1) p (enumerate_from 0 xs) inside)) in
      let count : place.0 + 0 ≡ place.0 = omega arith in
      ap (slice_get xs) (place.1 ∙ count) ∙ place.2

  -- those whose positions pass a test are those that pass it, in order
  pub values_kept : IsTotalOrder cmp → (q : ℕ → Bool) (r : A → Bool) → ((i : ℕ) (x : A) → slice_get xs i ≡ Some x → q i ≡ r x)
      → map (λ (p : ℕ × A). p.1) (filter (λ p. q p.0) entries) ≡ rising_list by_keys (filter r xs)
  values_kept total q r each =
      let kept : (ℕ × A → Bool) = λ p. q p.0 in
      ap (map (λ (p : ℕ × A). p.1)) (filter_rising (on_total (λ (p : ℕ × A). key p.1) total) kept (enumerate_from 0 xs))
      ∙ (rising_list_map (λ (p : ℕ × A). p.1) by_keys (filter kept (enumerate_from 0 xs))
      ∙ ap (rising_list by_keys) (kept_by_position q r 0 xs (λ i x e. let count : 0 + i ≡ i = omega arith in ap q count ∙ each i x e)))

-- ---- one entry after another

-- the entry at place k of a list that is in order, where these are the positions of its entries
pub record Next {A : Type 0} (ps : List (ℕ × A)) (xs : List A) (places : List ℕ) (k : ℕ) : Type 0 where
  pub entry : A
  pub at : slice_get ps k ≡ Some (get_or places k 0, entry)
  pub there : slice_get xs (get_or places k 0) ≡ Some entry

entry_there : {A : Type 0} (ps : List (ℕ × A)) (k : ℕ) → k < length (map (λ (p : ℕ × A). p.0) ps) → (x : A)
    × (slice_get ps k ≡ Some (get_or (map (λ (p : ℕ × A). p.0) ps) k 0, x))
entry_there [] k low = absurd (omega arith)
entry_there (p ∷ ps) zero low = (p.1, refl)
entry_there (p ∷ ps) (suc k) low = entry_there ps k (omega arith)

pub next : {A : Type 0} (ps : List (ℕ × A)) (xs : List A) (places : List ℕ) (k : ℕ) → places ≡ map (λ (p : ℕ × A). p.0) ps → k < length places
    → ((p : ℕ × A) → slice_get ps k ≡ Some p → slice_get xs p.0 ≡ Some p.1) → Next ps xs places k
next {A} ps xs places k are low stands =
    let e = entry_there ps k (subst (λ is. k < length is) are low) in
    let at : slice_get ps k ≡ Some (get_or places k 0, e.0) = e.1 ∙ ap (λ is. Some (get_or is k 0, e.0)) (sym are) in
    record { entry = e.0; at = at; there = stands (get_or places k 0, e.0) at }

-- ---- the selections of the contests of a report and their names, one contest after another

-- what stands in one of several lists, among all of them
part_at : {A B : Type 0} (f : A → List B) (xs : List A) (k : ℕ) (x : A) → k < length xs → x ≡ get_or xs k x → (j : ℕ) (y : B) → slice_get (f x) j ≡ Some y
    → slice_get (flat_map f xs) (length (flat_map f (take k xs)) + j) ≡ Some y
part_at f [] k x low here j y at = absurd (omega arith)
part_at f (z ∷ xs) zero x low here j y at =
    let there : slice_get (f z) j ≡ Some y = subst (λ w. slice_get (f w) j ≡ Some y) here at in
    let count : 0 + j ≡ j = omega arith in
    ap (slice_get (flat_map f (z ∷ xs))) count ∙ (get_first (f z) (flat_map f xs) j (slice_get_within (f z) j y there) ∙ there)
part_at f (z ∷ xs) (suc k) x low here j y at =
    let before = flat_map f (take k xs) in
    let long : length (f z ++ before) ≡ length (f z) + length before = length-append (f z) before in
    let count : length (f z ++ before) + j ≡ length (f z) + (length before + j) = omega (arith, long) in
    get_later (f z) (flat_map f xs) (length (f z ++ before) + j) (length before + j) count ∙ part_at f xs k x (omega arith) here j y at

-- one list more
pub flat_more : {A B : Type 0} (f : A → List B) (xs : List A) (k : ℕ) (x : A) → k < length xs → x ≡ get_or xs k x → flat_map f (take (k + 1) xs)
    ≡ flat_map f (take k xs) ++ f x
flat_more f xs k x low here =
    ap (flat_map f) (take_more xs k x low) ∙ (flat_map-append f (take k xs) (get_or xs k x ∷ [])
    ∙ (ap (λ ys. flat_map f (take k xs) ++ ys) (append-nil (f (get_or xs k x))) ∙ ap (λ y. flat_map f (take k xs) ++ f y) (sym here)))

-- where the next list begins
pub starts_after : {A B : Type 0} (f : A → List B) (xs : List A) (k : ℕ) (x : A) → k < length xs → x ≡ get_or xs k x → length (flat_map f (take (k + 1) xs))
    ≡ length (flat_map f (take k xs)) + length (f x)
starts_after f xs k x low here = ap length (flat_more f xs k x low here) ∙ length-append (flat_map f (take k xs)) (f x)

-- and where it ends
pub ends_within : {A B : Type 0} (f : A → List B) (xs : List A) (k : ℕ) (x : A) → k < length xs → x ≡ get_or xs k x → length (flat_map f (take k xs)) + length
    (f x) ≤ length (flat_map f xs)
ends_within f xs k x low here = subst (λ y. length (flat_map f (take k xs)) + length (f y) ≤ length (flat_map f xs)) (sym here)
    (length-flat_map-take f xs k x low)

module _ (π : Preference) (t : Data) where
  second : (c : ℕ) (o : Option NameParts) → option_map (λ (s : ℕ × NameParts). s.1) (option_map (λ n. (c, n)) o) ≡ o
  second c None = refl
  second c (Some n) = refl

  -- the name of the selection at a position
  name_is : (i : ℕ) (d : Data) → slice_get (map (λ o. o.value) (objects family.Selection t)) i ≡ Some d → name_in π t i ≡ name_of π t d
  name_is i d at =
      let o = option_map-Some (λ (o : Placed). o.value) (slice_get (objects family.Selection t) i) d
      (sym (slice_get-map (λ (o : Placed). o.value) (objects family.Selection t) i) ∙ at) in
      let s = numbered_at t i o.0 o.1 in
      ap (λ x. option_map (λ (s : ℕ × NameParts). s.1) (option_and_then {T = Numbered} (λ s. option_map (λ n. (s.0, n)) (name_of π t s.1.value)) x)) s.1
      ∙ (second s.0 (name_of π t o.0.value) ∙ ap (name_of π t) o.2)

  pub named_from : {V : Type 0} (value : V → Data) (vs : List V) → map (λ o. o.value) (objects family.Selection t)
      ≡ flat_map (λ v. entries_at (codes "ContestSelection") (value v)) vs
      → (k : ℕ) (v : V) → k < length vs → v ≡ get_or vs k v
      → AreNamedFrom π t (length (flat_map (λ v. entries_at (codes "ContestSelection") (value v)) (take k vs)))
      (entries_at (codes "ContestSelection") (value v))
  named_from {V} value vs all k v low here j d at =
      let selections : V → List Data = λ v. entries_at (codes "ContestSelection") (value v) in
      let i = length (flat_map selections (take k vs)) + j in
      name_is i d (ap (λ ds. slice_get ds i) all ∙ part_at selections vs k v low here j d at)

-- ---- the selections of the contests

-- the contests, without their places, and the selections of one
abbrev pub contest_values : Data → List Data
contest_values t = map (λ o. o.value) (contests t)

abbrev pub selections_of : Data → List Data
selections_of d = entries_at (codes "ContestSelection") d

-- what stands at a position
pub value_there : (ds : List Data) (i : ℕ) (d : Data) → slice_get ds i ≡ Some d → d ≡ get_or ds i d
value_there ds i d e = sym (get_or_from_slice_get ds i d d e)

module _ (t : Data) where
  selections_are : map (λ o. o.value) (objects family.Selection t) ≡ flat_map selections_of (contest_values t)
  selections_are = values-placed_flat (codes "ContestSelection") (contests t)

  module _ (k start : ℕ) (d : Data) (vs : List Value) (low : k < length (contest_values t)) (here : d ≡ get_or (contest_values t) k d)
      (begins : start ≡ length (flat_map selections_of (take k (contest_values t)))) (inside : map view vs ≡ selections_of d) where
    pub named_in_turn : (π : Preference) → AreNamedFrom π t start (map view vs)
    named_in_turn π =
        subst (λ n. AreNamedFrom π t n (map view vs)) (sym begins)
        (subst (AreNamedFrom π t (length (flat_map selections_of (take k (contest_values t))))) (sym inside)
        (named_from π t (λ d. d) (contest_values t) selections_are k d low here))

    pub few_in_turn : IsBounded t → start + length vs < 2 ^ 64
    few_in_turn bounded =
        let many : length vs ≡ length (selections_of d) = sym (length-map vs view) ∙ ap length inside in
        let all : length (objects family.Selection t) ≡ length (flat_map selections_of (contest_values t)) =
        sym (length-map (objects family.Selection t) (λ (o : Placed). o.value)) ∙ ap length selections_are in
        let end = ends_within selections_of (contest_values t) k d low here in
        let few = bounded.few family.Selection in
        omega (arith, many, all, end, few, begins)

-- ---- positions by one key and by another

-- where the values compare alike by both, their positions have one order
positions_alike : {A K L : Type 0} (cmp : K → K → Ordering) (other : L → L → Ordering) (key : A → K) (name : A → L)
    → ((a b : A) → cmp (key a) (key b) ≡ other (name a) (name b)) → (xs : List A) → positions_by cmp (map key xs) ≡ positions_by other (map name xs)
positions_alike {A} {K} {L} cmp other key name alike xs =
    ap (λ ps. map (λ (p : K × ℕ). p.1) (rising_list (by_first cmp) ps)) (positioned_made key 0 xs) ∙ (positions cmp key xs
    ∙ (ap (λ (c : ℕ × A → ℕ × A → Ordering). map (λ (p : ℕ × A). p.0) (rising_list c (enumerate_from 0 xs))) (λ i a b. alike a.1 b.1 i)
    ∙ (sym (positions other name xs)
    ∙ sym (ap (λ ps. map (λ (p : L × ℕ). p.1) (rising_list (by_first other) ps)) (positioned_made name 0 xs)))))

-- one more key with its position
pub one_placed : {K : Type 0} (ks : List K) (i : ℕ) (k : K) (seen : List (K × ℕ)) → slice_get ks i ≡ Some k → seen ≡ positioned 0 (take i ks)
    → seen ++ (k, i) ∷ [] ≡ positioned 0 (take (i + 1) ks)
one_placed {K} ks i k seen here before =
    let low = slice_get_within ks i k here in
    let long : i ≡ 0 + length (take i ks) = omega (arith, low, length-take {A = K}) in
    ap (λ (ps : List (K × ℕ)). ps ++ (k, i) ∷ []) before ∙ (ap (λ n. positioned 0 (take i ks) ++ (k, n) ∷ []) long ∙ (sym (positioned-append 0 (take i ks) k)
    ∙ ap (positioned 0) (sym (take_more ks i k low ∙ ap (λ (l : K). take i ks ++ l ∷ []) (get_or_from_slice_get ks i k k here)))))

-- ---- names with ranks

-- a borrowed name with a position
abbrev pub LentName : Type 0
LentName = Option (Bor RankedParts) × ℕ

abbrev pub see : LentName → Option RankedParts × ℕ
see p = (option_copied p.0, p.1)

pub lent_total : IsTotalOrder lent_name_cmp
lent_total = options_total (on_total (λ (m : Bor RankedParts). m.now) ranked_name_cmp_total)

lent_alike : (a b : Option (Bor RankedParts)) → lent_name_cmp a b ≡ option_cmp ranked_name_cmp (option_copied a) (option_copied b)
lent_alike None None = refl
lent_alike None (Some n) = refl
lent_alike (Some m) None = refl
lent_alike (Some m) (Some n) = refl

module _ (π : Preference) (t : Data) where
  -- the positions that stand with the sorted names
  pub sorted_names : (names sorted : List LentName) (ds : List Data) → map see names ≡ positioned 0 (map (ranked_name_of π t) ds)
      → sorted ≡ rising_list (λ a b. lent_name_cmp a.0 b.0) names
      → map (λ (p : LentName). p.1) sorted ≡ positions_by (option_cmp name_cmp) (map (name_of π t) ds)
  sorted_names names sorted ds placed is =
      ap (map (λ (p : LentName). p.1)) (is ∙ ap (λ (c : LentName → LentName → Ordering). rising_list c names) (λ i a b. lent_alike a.0 b.0 i))
      ∙ (map_after see (λ (p : Option RankedParts × ℕ). p.1) (rising_list (λ a b. option_cmp ranked_name_cmp (see a).0 (see b).0) names)
      ∙ (ap (map (λ (p : Option RankedParts × ℕ). p.1)) (rising_list_map see (by_first (option_cmp ranked_name_cmp)) names
      ∙ ap (rising_list (by_first (option_cmp ranked_name_cmp))) placed)
      ∙ positions_alike (option_cmp ranked_name_cmp) (option_cmp name_cmp) (ranked_name_of π t) (name_of π t) (ranked_names_alike π t) ds))

  -- ---- one contest

  -- the names of the selections of a contest, and their ranks
  abbrev names_in : Data → List (Option NameParts)
  names_in contest = map (name_of π t) (entries_at (codes "ContestSelection") contest)

  abbrev pub ranks_in : Data → List ℕ
  ranks_in contest = map (rank_by (option_cmp name_cmp) (names_in contest)) (names_in contest)

  pub low_in_contest : (contest : Data) → AllByRecursion (λ i. i < length (rising_selections π t contest)) (rising_selections π t contest)
  low_in_contest contest = all_low (option_cmp name_cmp) (options_total name_cmp_total) (names_in contest)

  -- the selection at a place, by its position
  module _ (contest : Data) where
    abbrev pub inside : List Data
    inside = entries_at (codes "ContestSelection") contest

    abbrev pub in_turn : List (ℕ × Data)
    in_turn = entries (option_cmp name_cmp) (name_of π t) inside

    pub turns : rising_selections π t contest ≡ map (λ (p : ℕ × Data). p.0) in_turn
    turns = ap (λ ps. map (λ (p : Option NameParts × ℕ). p.1) (rising_list (by_first (option_cmp name_cmp)) ps)) (positioned_made (name_of π t) 0 inside)
        ∙ positions (option_cmp name_cmp) (name_of π t) inside

    pub next_selection : (places : List ℕ) (k : ℕ) → places ≡ rising_selections π t contest → k < length places → Next in_turn inside places k
    next_selection places k are low = next in_turn inside places k (are ∙ turns) low
        (λ p e. stands (option_cmp name_cmp) (name_of π t) inside p (in_at in_turn k p e))

    pub selections_left : (k i : ℕ) (d : Data) → slice_get in_turn k ≡ Some (i, d) → drop k (rising_list (by_name π t) inside)
        ≡ d ∷ drop (k + 1) (rising_list (by_name π t) inside)
    selections_left k i d e =
        let sorted = values (option_cmp name_cmp) (name_of π t) inside in
        left_there (rising_list (by_name π t) inside) k d (ap (λ xs. slice_get xs k) (sym sorted)
        ∙ (slice_get-map (λ (p : ℕ × Data). p.1) in_turn k ∙ ap (option_map (λ (p : ℕ × Data). p.1)) e))

    pub none_left : (places : List ℕ) (k : ℕ) → places ≡ rising_selections π t contest → length places ≤ k → drop k (rising_list (by_name π t) inside) ≡ []
    none_left places k are end =
        let sorted = values (option_cmp name_cmp) (name_of π t) inside in
        let one = ap length (are ∙ turns) ∙ length-map in_turn (λ (p : ℕ × Data). p.0) in
        let other = ap length (sym sorted) ∙ length-map in_turn (λ (p : ℕ × Data). p.1) in
        drop_all k (rising_list (by_name π t) inside) (omega (arith, end, one, other))

  -- the places of the positions are the ranks
  pub places_are_ranks : IsAccepted π t → (contest : Placed) → In contest (objects family.Contest t)
      → places_put 0 (rising_selections π t contest.value) (replicate (length (rising_selections π t contest.value)) 0) ≡ ranks_in contest.value
  places_are_ranks accepted contest has =
      let ds = entries_at (codes "ContestSelection") contest.value in
      ranks_are (option_cmp name_cmp) (options_total name_cmp_total) (names_in contest.value)
      (distinct_map (name_of π t) (eq_by_cmp (option_cmp name_cmp)) ds (selection_values_distinct π t accepted contest has))

  as_many : (contest : Placed) → length (ranks_in contest.value) ≡ length (selections_of_contest contest)
  as_many contest =
      let ds = entries_at (codes "ContestSelection") contest.value in
      length-map (names_in contest.value) (rank_by (option_cmp name_cmp) (names_in contest.value)) ∙ (length-map ds (name_of π t)
      ∙ (sym (ap length (values-placed_from (contest.place ++ Name (codes "ContestSelection") ∷ []) 0 ds))
      ∙ length-map (selections_of_contest contest) (λ o. o.value)))

  name_at : (contest : Placed) (m : ℕ) (o : Placed) → slice_get (selections_of_contest contest) m ≡ Some o → slice_get (names_in contest.value) m
      ≡ Some (name_of π t o.value)
  name_at contest m o at =
      let ds = entries_at (codes "ContestSelection") contest.value in
      slice_get-map (name_of π t) ds m ∙ ap (option_map (name_of π t))
      (ap (λ xs. slice_get xs m) (sym (values-placed_from (contest.place ++ Name (codes "ContestSelection") ∷ []) 0 ds))
      ∙ (slice_get-map (λ (o : Placed). o.value) (selections_of_contest contest) m ∙ ap (option_map (λ o. o.value)) at))

  contest_rank : (contest : Placed) (m : ℕ) (o : Placed) → slice_get (selections_of_contest contest) m ≡ Some o
      → slice_get (ranks_in contest.value) m ≡ Some (rank_of_name π t (entries_at (codes "ContestSelection") contest.value) (name_of π t o.value))
  contest_rank contest m o at =
      let ds = entries_at (codes "ContestSelection") contest.value in
      slice_get-map (rank_by (option_cmp name_cmp) (names_in contest.value)) (names_in contest.value) m
      ∙ (ap (option_map (rank_by (option_cmp name_cmp) (names_in contest.value))) (name_at contest m o at)
      ∙ ap Some (rank_map (name_of π t) (λ name. name) (option_cmp name_cmp) (name_of π t o.value) ds))

  -- ---- the report

  pub selections_ranked : (ranks : List ℕ) → ranks ≡ flat_map ranks_in (map (λ o. o.value) (contests t)) → AreSelectionRanks π t ranks
  selections_ranked ranks is i c contest o numbered at =
      let h = in_part (λ x. ranks_in x.value) selections_of_contest as_many (contests t) 0 i c o numbered in
      let after : c ≡ 0 + h.index = h.after in
      let index : h.index ≡ c = omega arith in
      let one : h.one ≡ contest = same_Some h.one contest (sym h.at ∙ (ap (slice_get (contests t)) index ∙ at)) in
      ap (λ ms. slice_get ms i) (is ∙ flat_map-map ranks_in (λ (o : Placed). o.value) (contests t)) ∙ (h.same
      ∙ (ap (λ x. slice_get (ranks_in x.value) h.inner) one
      ∙ contest_rank contest h.inner o (subst (λ x. slice_get (selections_of_contest x) h.inner ≡ Some o) one h.there)))
