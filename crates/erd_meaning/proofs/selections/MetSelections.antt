-- Meeting selections, some and then more.
use Rattle.erd_meaning.proofs.Common.{◌≡◌, ℕ, ◌+◌, ◌<◌, ◌≤◌, List, [], ◌∷◌, ◌++◌, map, length, get_or, drop, codes, Option, flat_map, sym, refl, ap, ◌∙◌, ap₂}
use Rattle.erd_meaning.proofs.Common.{arith, length-append, at_drop_more, at_drop_all, Data, view, Value, Step, Name, entries_at, NameParts, Placed}
use Rattle.erd_meaning.proofs.Common.{placed_from, placed_entries, contests, numbered_selections_of, numbered_from, NamesMet, named_one, named_all}
use Rattle.erd_meaning.proofs.identity.MetObjects.{entry}
use Rattle.erd_meaning.proofs.selections.ContestSelections.{numbered_from-append}

pub named_all_append : (name : Data → Option NameParts) (m : NamesMet) (xs ys : List (ℕ × Placed)) → named_all name m (xs ++ ys)
    ≡ named_all name (named_all name m xs) ys
named_all_append name m [] ys = refl
named_all_append name m (x ∷ xs) ys = named_all_append name (named_one name m x) xs ys

-- ---- the contests of an election

-- the selections of contests, of which the first of all has a number, from the contest at a position on
abbrev pub of_contests_from : ℕ → List Step → ℕ → List Value → List (ℕ × Placed)
of_contests_from first p i vs = numbered_from (first + i) (placed_from p i (map view vs))

-- one contest after another
pub named_inside : (name : Data → Option NameParts) (first : ℕ) (p : List Step) (vs : List Value) (i : ℕ) (v : Value) (m n whole : NamesMet) → i < length vs
    → v ≡ get_or vs i v → named_all name m (of_contests_from first p i (drop i vs)) ≡ whole
    → n ≡ named_all name m (numbered_selections_of (first + i, entry p i v)) → named_all name n (of_contests_from first p (i + 1) (drop (i + 1) vs)) ≡ whole
named_inside name first p vs i v m n whole inside is before more =
    let left = λ (ws : List Value). named_all name m (of_contests_from first p i ws) in
    let later = placed_from p (i + 1) (map view (drop (i + 1) vs)) in
    let rest = numbered_from (first + i + 1) later in
    let next : first + (i + 1) ≡ first + i + 1 = omega arith in
    let here : left (drop i vs) ≡ left (v ∷ drop (i + 1) vs) = at_drop_more left vs i v inside ∙ ap (λ w. left (w ∷ drop (i + 1) vs)) (sym is) in
    ap (λ k. named_all name n (numbered_from k later)) next ∙ ap (λ k. named_all name k rest) more
    ∙ sym (named_all_append name m (numbered_selections_of (first + i, entry p i v)) rest) ∙ sym here ∙ before

pub all_named : (name : Data → Option NameParts) (first : ℕ) (p : List Step) (vs : List Value) (i : ℕ) (m whole : NamesMet) → length vs ≤ i
    → named_all name m (of_contests_from first p i (drop i vs)) ≡ whole → m ≡ whole
all_named name first p vs i m whole over before =
    let left = λ (ws : List Value). named_all name m (of_contests_from first p i ws) in
    sym (at_drop_all left vs i over) ∙ before

-- ---- the elections

abbrev pub contests_of : Placed → List Placed
contests_of e = placed_entries (codes "Contest") e

-- the contests of elections, from the election at a position on
abbrev pub contests_from : List Step → ℕ → List Value → List Placed
contests_from p i vs = flat_map contests_of (placed_from p i (map view vs))

-- how far the walk has come, where the contests of the elections that are left begin with this number
pub record ElectionsLeft (name : Data → Option NameParts) (p : List Step) (vs : List Value) (start m : NamesMet) (i number : ℕ) : Type 0 where
  pub named : named_all name m (numbered_from number (contests_from p i (drop i vs))) ≡ named_all name start (numbered_from 0 (contests_from p 0 vs))
  pub counted : number + length (contests_from p i (drop i vs)) ≡ length (contests_from p 0 vs)

first_left : {A : Type 0} (f : List Placed → A) (p : List Step) (vs : List Value) (i : ℕ) (v : Value) → i < length vs → v ≡ get_or vs i v
    → f (contests_from p i (drop i vs)) ≡ f (contests_of (entry p i v) ++ contests_from p (i + 1) (drop (i + 1) vs))
first_left f p vs i v inside is =
    let left = λ (ws : List Value). f (contests_from p i ws) in
    at_drop_more left vs i v inside ∙ ap (λ w. left (w ∷ drop (i + 1) vs)) (sym is)

-- the contests of an election are counted among those that are left
pub within_all : (name : Data → Option NameParts) (p : List Step) (vs : List Value) (start m : NamesMet) (i number : ℕ) (v : Value)
    → i < length vs → v ≡ get_or vs i v → ElectionsLeft name p vs start m i number → number + length (contests_of (entry p i v)) ≤ length (contests_from p 0 vs)
within_all name p vs start m i number v inside is left =
    let here = contests_of (entry p i v) in
    let later = contests_from p (i + 1) (drop (i + 1) vs) in
    let more : length (contests_from p i (drop i vs)) ≡ length here + length later = first_left length p vs i v inside is ∙ length-append here later in
    let counted : number + length (contests_from p i (drop i vs)) ≡ length (contests_from p 0 vs) = left.counted in
    omega arith

pub election_left : (name : Data → Option NameParts) (p : List Step) (vs : List Value) (start m n : NamesMet) (i number next : ℕ) (v : Value)
    → i < length vs → v ≡ get_or vs i v → ElectionsLeft name p vs start m i number → next ≡ number + length (contests_of (entry p i v))
    → n ≡ named_all name m (numbered_from number (contests_of (entry p i v))) → ElectionsLeft name p vs start n (i + 1) next
election_left name p vs start m n i number next v inside is left after met =
    let here = contests_of (entry p i v) in
    let later = contests_from p (i + 1) (drop (i + 1) vs) in
    let more : length (contests_from p i (drop i vs)) ≡ length here + length later = first_left length p vs i v inside is ∙ length-append here later in
    let counted : number + length (contests_from p i (drop i vs)) ≡ length (contests_from p 0 vs) = left.counted in
    record {
      named =
          ap₂ (λ k j. named_all name k (numbered_from j later)) met after
          ∙ sym (named_all_append name m (numbered_from number here) (numbered_from (number + length here) later))
          ∙ ap (named_all name m) (sym (numbered_from-append number here later))
          ∙ sym (first_left (λ cs. named_all name m (numbered_from number cs)) p vs i v inside is) ∙ left.named;
      counted = omega (arith, after);
    }

pub none_left : (name : Data → Option NameParts) (p : List Step) (vs : List Value) (start m : NamesMet) (i number : ℕ) → length vs ≤ i
    → ElectionsLeft name p vs start m i number → m ≡ named_all name start (numbered_from 0 (contests_from p 0 vs))
none_left name p vs start m i number over left =
    sym (at_drop_all (λ (ws : List Value). named_all name m (numbered_from number (contests_from p i ws))) vs i over) ∙ left.named

-- before the first
pub all_left : (name : Data → Option NameParts) (p : List Step) (vs : List Value) (start : NamesMet) → ElectionsLeft name p vs start start 0 0
all_left name p vs start = record { named = refl; counted = omega arith }

-- the contests of a report
pub contests_are : (t : Data) (vs : List Value) → map view vs ≡ entries_at (codes "Election") t → contests_from (Name (codes "Election") ∷ []) 0 vs ≡ contests t
contests_are t vs e = ap (λ ds. flat_map contests_of (placed_from (Name (codes "Election") ∷ []) 0 ds)) e
