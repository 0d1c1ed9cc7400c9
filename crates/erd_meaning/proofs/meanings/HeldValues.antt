-- The objects of a family without their places, each with the key of the election that holds it.
use Rattle.erd_meaning.proofs.Common.{◌≡◌, ℕ, suc, ◌+◌, false, List, [], ◌∷◌, ◌++◌, map, if◌then◌else◌, slice_get, Some, None, codes, Option, option_map}
use Rattle.erd_meaning.proofs.Common.{flat_map, option_and_then, bytes_eq, sym, refl, ap, ◌∙◌, ap₂, arith, map-append, slice_get-map, Data, Family, role, At}
use Rattle.erd_meaning.proofs.Common.{Name, entries_at, Preference, key_of, election_key_in, election_key_of, ObjectRecord, Placed, placed_from, placed_entries}
use Rattle.erd_meaning.proofs.Common.{report_of, elections, objects, object_record, record_in_election, Key}
use Rattle.erd_meaning.proofs.accepted.Standing.{values-placed_entries}

-- the key of the election that holds an object, if one does and has a key, and the value of the object
abbrev pub Held : Type 0
Held = Option Key × Data

abbrev pub held_of : Preference → Data → Placed → Held
held_of π t o = (election_key_of π t o, o.value)

-- the objects of a family
abbrev pub held_values : Preference → Family → Data → List Held
held_values π f t = map (held_of π t) (objects f t)

-- what one of them means
abbrev pub held_record : Preference → Data → Family → Held → Option ObjectRecord
held_record π t f h = option_map (record_in_election h.0) (object_record π t (role.OfFamily f) h.1)

-- what stands in an array of this name of the election
abbrev pub held_by : Preference → List ℕ → Data → List Held
held_by π name e = map (λ d. (key_of π e, d)) (entries_at name e)

pub mapped_then : {A B C : Type 0} (g : B → Option C) (f : A → B) (o : Option A) → option_and_then g (option_map f o) ≡ option_and_then (λ x. g (f x)) o
mapped_then g f o = grind arith

module _ (π : Preference) (t : Data) where
  election_key_found : (i : ℕ) (e : Data) → slice_get (entries_at (codes "Election") t) i ≡ Some e → election_key_in π t i ≡ key_of π e
  election_key_found i e found =
      let value : Placed → Data = λ o. o.value in
      sym (mapped_then (key_of π) value (slice_get (elections t) i)) ∙ ap (option_and_then (key_of π))
      (sym (slice_get-map value (elections t) i) ∙ ap (λ (ds : List Data). slice_get ds i) (values-placed_entries (codes "Election") (report_of t)) ∙ found)

  in_one : (n j : ℕ) (name : List ℕ) (k : Option Key) → election_key_in π t n ≡ k → (ds : List Data)
      → map (held_of π t) (placed_from (Name (codes "Election") ∷ At n ∷ Name name ∷ []) j ds) ≡ map (λ d. (k, d)) ds
  in_one n j name k is [] = refl
  in_one n j name k is (d ∷ ds) = ap₂ ◌∷◌ (ap (λ l. (l, d)) is) (in_one n (j + 1) name k is ds)

  in_each : (name : List ℕ) (n : ℕ) (es : List Data) → ((i : ℕ) (e : Data) → slice_get es i ≡ Some e → election_key_in π t (n + i) ≡ key_of π e)
      → map (held_of π t) (flat_map (placed_entries name) (placed_from (Name (codes "Election") ∷ []) n es)) ≡ flat_map (held_by π name) es
  in_each name n [] keys = refl
  in_each name n (e ∷ es) keys =
      let place = Name (codes "Election") ∷ At n ∷ Name name ∷ [] in
      let rest = flat_map (placed_entries name) (placed_from (Name (codes "Election") ∷ []) (n + 1) es) in
      let first : n ≡ n + 0 = omega arith in
      map-append (held_of π t) (placed_from place 0 (entries_at name e)) rest
      ∙ ap₂ ◌++◌ (in_one n 0 name (key_of π e) (ap (election_key_in π t) first ∙ keys 0 e refl) (entries_at name e))
      (in_each name (n + 1) es (λ i d found. let next : n + 1 + i ≡ n + suc i = omega arith in ap (election_key_in π t) next ∙ keys (suc i) d found))

  -- the objects in arrays of elections, one election after another
  pub held_in_elections : (name : List ℕ) → map (held_of π t) (flat_map (placed_entries name) (elections t)) ≡ flat_map (held_by π name)
      (entries_at (codes "Election") t)
  held_in_elections name =
      in_each name 0 (entries_at (codes "Election") t) (λ i e found. let same : 0 + i ≡ i = omega arith in
      ap (election_key_in π t) same ∙ election_key_found i e found)

  in_none : (name : List ℕ) → bytes_eq name (codes "Election") ≡ false → (j : ℕ) (ds : List Data) → map (held_of π t) (placed_from (Name name ∷ []) j ds)
      ≡ map (λ d. (None, d)) ds
  in_none name other j [] = refl
  in_none name other j (d ∷ ds) = ap₂ ◌∷◌ (ap (λ b. (option_and_then (election_key_in π t) (if b then Some j else None), d)) other)
      (in_none name other (j + 1) ds)

  -- no election holds the objects in an array of the report itself
  pub held_in_none : (name : List ℕ) → bytes_eq name (codes "Election") ≡ false → map (held_of π t) (placed_entries name (report_of t))
      ≡ map (λ d. (None, d)) (entries_at name t)
  held_in_none name other = in_none name other 0 (entries_at name t)
