-- In which election an object stands, where in it, and the key of that election.
use Rattle.erd_meaning.proofs.Common.{◌≡◌, ℕ, zero, suc, ◌+◌, List, [], ◌∷◌, ◌++◌, slice_get, Some, codes, flat_map, option_and_then, sym, refl, ap, ◌∙◌, inl}
use Rattle.erd_meaning.proofs.Common.{inr, arith, Data, Step, At, Name, entries_at, Preference, key_of, election_key_in, election_key_of, Placed, placed_from}
use Rattle.erd_meaning.proofs.Common.{placed_entries, elections, election_of_place, In, In-flat_map_from}

-- an object that stands in the array of this name of an election
pub record HeldObject (t : Data) (name : List ℕ) (o : Placed) : Type 0 where
  pub election : Placed
  pub stands : In election (elections t)
  pub holds : In o (placed_entries name election)
  pub index : ℕ
  pub found : slice_get (elections t) index ≡ Some election
  pub entry : ℕ
  pub place : o.place ≡ Name (codes "Election") ∷ At index ∷ Name name ∷ At entry ∷ []

-- the position of an entry is the last step of its place
entry_placed : (p : List Step) (i : ℕ) (ds : List Data) (o : Placed) → In o (placed_from p i ds) → (j : ℕ) × (slice_get (placed_from p i ds) j ≡ Some o)
    × (o.place ≡ p ++ At (i + j) ∷ [])
entry_placed p i [] o h = elim h [ ]
entry_placed p i (d ∷ ds) o h = elim h [
  | inl e ↦ let s : i ≡ i + 0 = omega arith in (zero, ap Some e, sym (ap (λ x. x.place) e) ∙ ap (λ n. p ++ At n ∷ []) s)
  | inr m ↦ let r = entry_placed p (i + 1) ds o m in let s : i + 1 + r.0 ≡ i + suc r.0 = omega arith in (suc r.0, r.1, r.2 ∙ ap (λ n. p ++ At n ∷ []) s)
]

-- the same of the entries of an array from its first on
entry_at : (p : List Step) (ds : List Data) (o : Placed) → In o (placed_from p 0 ds) → (j : ℕ) × (slice_get (placed_from p 0 ds) j ≡ Some o)
    × (o.place ≡ p ++ At j ∷ [])
entry_at p ds o h = let r = entry_placed p 0 ds o h in let s : 0 + r.0 ≡ r.0 = omega arith in (r.0, r.1, r.2 ∙ ap (λ n. p ++ At n ∷ []) s)

-- what stands in an array of an election is held by it
held_in : (t : Data) (name : List ℕ) (e o : Placed) → In e (elections t) → In o (placed_entries name e) → (held : HeldObject t name o) × (held.election ≡ e)
held_in t name e o h k =
    let i = entry_at (Name (codes "Election") ∷ []) (entries_at (codes "Election") t) e h in
    let j = entry_at (e.place ++ Name name ∷ []) (entries_at name e.value) o k in (
      record {
        election = e;
        stands = h;
        holds = k;
        index = i.0;
        found = i.1;
        entry = j.0;
        place = j.2 ∙ ap (λ p. (p ++ Name name ∷ []) ++ At j.0 ∷ []) i.2;
      },
      refl,
    )

pub held_object : (t : Data) (name : List ℕ) (o : Placed) → In o (flat_map (placed_entries name) (elections t)) → HeldObject t name o
held_object t name o h = let e = In-flat_map_from (placed_entries name) (elections t) o h in (held_in t name e.0 o e.1 e.2).0

-- ---- the keys of elections

-- the key of its election
pub held_key : (π : Preference) (t : Data) (name : List ℕ) (o : Placed) (h : HeldObject t name o) → election_key_of π t o ≡ key_of π h.election.value
held_key π t name o h =
    ap (λ p. option_and_then (election_key_in π t) (election_of_place p)) h.place ∙ ap (option_and_then (λ e. key_of π e.value)) h.found

-- the same, where the election is known
pub held_key_in : (π : Preference) (t : Data) (name : List ℕ) (e o : Placed) → In e (elections t) → In o (placed_entries name e)
    → election_key_of π t o ≡ key_of π e.value
held_key_in π t name e o h k = let x = held_in t name e o h k in held_key π t name o x.0 ∙ ap (λ (d : Placed). key_of π d.value) x.1
