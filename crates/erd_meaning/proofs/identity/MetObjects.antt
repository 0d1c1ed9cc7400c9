-- Collecting and meeting objects, some and then more.
use Rattle.erd_meaning.proofs.Common.{◌≡◌, ℕ, ◌+◌, ◌<◌, Bool, List, [], ◌∷◌, ◌++◌, map, length, get_or, drop, flat_map, sym, refl, ap, ◌∙◌, append_assoc}
use Rattle.erd_meaning.proofs.Common.{map-append, at_drop_more, codes, view, Value, family, Contest, Selection, Step, At, Preference, Placed, placed_from}
use Rattle.erd_meaning.proofs.Common.{placed_entries, selections_of_contest, Located, located_one, located_election, located, contest_located, election_located}
use Rattle.erd_meaning.proofs.Common.{ObjectsMet, met_one, met_all}
use Rattle.erd_meaning.specs.code.CollectedWalks.{found}
use Rattle.erd_meaning.specs.code.ObjectWalk.{nothing_met}
use Rattle.erd_meaning.specs.declared.objects.collected.Found.{Found}

pub met_all_append : (m : ObjectsMet) (xs ys : List Located) → met_all m (xs ++ ys) ≡ met_all (met_all m xs) ys
met_all_append m [] ys = refl
met_all_append m (x ∷ xs) ys = met_all_append (met_one m x) xs ys

-- a value in an array, with its place
abbrev pub entry : List Step → ℕ → Value → Placed
entry p i v = record { place = p ++ At i ∷ []; value = view v }

-- one value after another, each with what is inside it
pub found_inside : (f : Placed → List Located) (p : List Step) (vs : List Value) (i : ℕ) (v : Value) (earlier later whole : List Located) → i < length vs
    → v ≡ get_or vs i v → earlier ++ flat_map f (placed_from p i (map view (drop i vs))) ≡ whole → later ≡ earlier ++ f (entry p i v)
    → later ++ flat_map f (placed_from p (i + 1) (map view (drop (i + 1) vs))) ≡ whole
found_inside f p vs i v earlier later whole inside is before more =
    let left = λ (ws : List Value). earlier ++ flat_map f (placed_from p i (map view ws)) in
    let rest = flat_map f (placed_from p (i + 1) (map view (drop (i + 1) vs))) in
    let first : left (drop i vs) ≡ left (v ∷ drop (i + 1) vs) = at_drop_more left vs i v inside ∙ ap (λ w. left (w ∷ drop (i + 1) vs)) (sym is) in
    ap (λ k. k ++ rest) more ∙ append_assoc earlier (f (entry p i v)) rest ∙ sym first ∙ before

-- a contest, and then its selections
pub contest_collected : (π : Preference) (o : Placed) (m k n : List Located) → k ≡ m ++ located_one π Contest o ∷ []
    → n ≡ k ++ located π Selection (selections_of_contest o) → n ≡ m ++ contest_located π o
contest_collected π o m k n first rest =
    let later = located π Selection (selections_of_contest o) in
    rest ∙ ap (λ j. j ++ later) first ∙ append_assoc m (located_one π Contest o ∷ []) later

-- an election, and then the objects inside it
pub election_collected : (π : Preference) (needed : Bool) (e : Placed) (m k a b n : List Located) → k ≡ m ++ located_election π needed e ∷ []
    → a ≡ k ++ located π family.Style (placed_entries (codes "BallotStyle") e) → b ≡ a ++ located π family.Candidate (placed_entries (codes "Candidate") e)
    → n ≡ b ++ flat_map (contest_located π) (placed_entries (codes "Contest") e) → n ≡ m ++ election_located π needed e
election_collected π needed e m k a b n first styles candidates contests =
    let one = located_election π needed e ∷ [] in
    let s = located π family.Style (placed_entries (codes "BallotStyle") e) in
    let c = located π family.Candidate (placed_entries (codes "Candidate") e) in
    let o = flat_map (contest_located π) (placed_entries (codes "Contest") e) in
    let all : n ≡ ((m ++ one ++ s) ++ c) ++ o = contests ∙ ap (λ j. j ++ o) (candidates ∙ ap (λ j. j ++ c) (styles ∙ ap (λ j. j ++ s) first)) in
    all ∙ append_assoc (m ++ one ++ s) c o ∙ append_assoc (m ++ one) s (c ++ o) ∙ append_assoc m one (s ++ (c ++ o))

-- the tables after one more
pub filled_next : (before after : ObjectsMet) (xs : List Found) (x : Found) → before ≡ met_all nothing_met (map found xs) → after ≡ met_one before (found x)
    → after ≡ met_all nothing_met (map found (xs ++ x ∷ []))
filled_next before after xs x all one =
    one ∙ ap (λ m. met_one m (found x)) all ∙ sym (met_all_append nothing_met (map found xs) (found x ∷ []))
    ∙ ap (met_all nothing_met) (sym (map-append found xs (x ∷ [])))
