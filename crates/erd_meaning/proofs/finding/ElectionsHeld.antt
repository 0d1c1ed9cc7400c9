-- The elections of a report by position: their values, their keys, and which one holds an object.
use Rattle.erd_meaning.proofs.Common.{◌≡◌, ℕ, ◌<◌, List, [], ◌∷◌, map, length, slice_get, Some, None, codes, Option, option_map, option_and_then, is_lt, sym}
use Rattle.erd_meaning.proofs.Common.{refl, ap, ◌∙◌, arith, length-map, slice_get-map, map-map, option_cmp, Data, no_items, view, Value, Family, family, Step}
use Rattle.erd_meaning.proofs.Common.{Name, list_of_items_exact, ShapeFault, NoneOf, entries_at, key_cmp, Preference, key_of, election_rank_of, election_key_in}
use Rattle.erd_meaning.proofs.Common.{election_in, Placed, objects, placed_from, elections, rank_in_keys, election_keys, Key}
use Rattle.erd_meaning.specs.code.ObjectWalk.{holder_at}
use Rattle.erd_meaning.proofs.accepted.Standing.{election_entries, skeleton_of_shape, values-placed_from}
use Rattle.erd_meaning.proofs.meanings.HeldValues.{mapped_then}
use Rattle.erd_text.proofs.RisingOrders.{count_map}

-- ---- by position

-- the rank of the election at a position
pub election_rank : (π : Preference) (t : Data) (ranks : List ℕ) (i : ℕ) → ranks ≡ map (rank_in_keys (election_keys π t)) (election_keys π t)
    → slice_get ranks i ≡ option_map (λ e. election_rank_of π t (key_of π e.value)) (slice_get (elections t) i)
election_rank π t ranks i are =
    ap (λ ns. slice_get ns i) (are ∙ map-map (rank_in_keys (election_keys π t)) (λ (e : Placed). key_of π e.value) (elections t))
    ∙ slice_get-map (λ (e : Placed). rank_in_keys (election_keys π t) (key_of π e.value)) (elections t) i
    ∙ ap (λ (rank : Placed → ℕ). option_map rank (slice_get (elections t) i))
    (λ j e. count_map (λ (d : Placed). key_of π d.value) (λ l. is_lt (option_cmp key_cmp l (key_of π e.value))) (elections t) j)

-- there are as many objects as values in the array
pub as_many : (p : List Step) (vs : List Value) {ds : List Data} → map view vs ≡ ds → length vs ≡ length (placed_from p 0 ds)
as_many p vs {ds} e =
    sym (length-map vs view) ∙ ap length (e ∙ sym (values-placed_from p 0 ds)) ∙ length-map (placed_from p 0 ds) (λ (o : Placed). o.value)

pub election_value : (t : Data) (vs : List Value) (i : ℕ) → map view vs ≡ entries_at (codes "Election") t
    → option_map view (slice_get vs i) ≡ option_map (λ o. o.value) (slice_get (elections t) i)
election_value t vs i e =
    sym (slice_get-map view vs i) ∙ ap (λ (ds : List Data). slice_get ds i)
    (e ∙ sym (values-placed_from (Name (codes "Election") ∷ []) 0 (entries_at (codes "Election") t)))
    ∙ slice_get-map (λ (o : Placed). o.value) (elections t) i

-- a report without a fault of the shape has an election
pub some_election : (t : Data) → NoneOf (ShapeFault t) → (vs : List Value) → map view vs ≡ entries_at (codes "Election") t → 0 < length vs
some_election t none [] e = let s = skeleton_of_shape t none in absurd (s.filled (list_of_items_exact s.es no_items (sym (election_entries t s) ∙ sym e)))
some_election t none (v ∷ vs) e = omega arith

pub election_key_is : (π : Preference) (t : Data) (i : ℕ) → option_and_then (λ k. k) (slice_get (election_keys π t) i) ≡ election_key_in π t i
election_key_is π t i =
    ap (λ (o : Option (Option Key)). option_and_then (λ k. k) o) (slice_get-map (λ (e : Placed). key_of π e.value) (elections t) i)
    ∙ mapped_then (λ k. k) (λ (e : Placed). key_of π e.value) (slice_get (elections t) i)

-- ---- which election holds an object

none : (o : Option Placed) → option_and_then {U = ℕ} (λ p. None) o ≡ None
none None = refl
none (Some p) = refl

pub held : (f : Family) (t : Data) (i : ℕ) → option_and_then (λ o. holder_at f o.place) (slice_get (objects f t) i) ≡ election_in f t i
held family.Selection t i = none (slice_get (objects family.Selection t) i)
held f t i = refl
