-- What the indexes hash of what the program meets in a report is what the definition says that they hash of the report.
use Rattle.erd_meaning.proofs.Common.{◌≡◌, Bool, List, [], ◌∷◌, ◌++◌, map, codes, flat_map, refl, sym, ap, ◌∙◌, ap₂, map-append, map-map, Data, Family}
use Rattle.erd_meaning.proofs.Common.{Preference, Placed, report_of, elections, placed_entries, selections_of_contest, has_several, Located, located}
use Rattle.erd_meaning.proofs.Common.{contest_located, inside_election, election_located, shared_located, all_located, all_met, family}
use Rattle.erd_meaning.specs.SaltWrites.{Hashed, all_hashed, hashed_election, hashed_in_contest, hashed_in_election, hashed_object, hashed_objects}
use Rattle.erd_meaning.specs.SaltWrites.{hashed_outside}
use Rattle.erd_meaning.specs.code.HashedMet.{hashed}

abbrev hashed_at : Located → Hashed
hashed_at x = hashed x.met

objects_at : (π : Preference) (f : Family) (os : List Placed) → map hashed_at (located π f os) ≡ hashed_objects π f os
objects_at π f [] = refl
objects_at π f (o ∷ os) = ap (λ hs. hashed_object π f o ∷ hs) (objects_at π f os)

-- What is hashed of lists is hashed of all of them together.
inside_each : {A : Type 0} (lists : A → List Located) (hashes : A → List Hashed) → ((x : A) → map hashed_at (lists x) ≡ hashes x)
    → (xs : List A) → map hashed_at (flat_map lists xs) ≡ flat_map hashes xs
inside_each lists hashes same [] = refl
inside_each lists hashes same (x ∷ xs) = map-append hashed_at (lists x) (flat_map lists xs) ∙ ap₂ ◌++◌ (same x) (inside_each lists hashes same xs)

both : (xs ys : List Located) (hs ks : List Hashed) → map hashed_at xs ≡ hs → map hashed_at ys ≡ ks → map hashed_at (xs ++ ys) ≡ hs ++ ks
both xs ys hs ks a b = map-append hashed_at xs ys ∙ ap₂ ◌++◌ a b

contest_at : (π : Preference) (o : Placed) → map hashed_at (contest_located π o) ≡ hashed_in_contest π o
contest_at π o = ap (λ hs. hashed_object π family.Contest o ∷ hs) (objects_at π family.Selection (selections_of_contest o))

election_at : (π : Preference) (needed : Bool) (e : Placed) → map hashed_at (election_located π needed e) ≡ hashed_in_election π e
election_at π needed e =
    ap (λ hs. hashed_election π e ∷ hs)
    (both _ _ _ _ (objects_at π family.Style (placed_entries (codes "BallotStyle") e))
    (both _ _ _ _ (objects_at π family.Candidate (placed_entries (codes "Candidate") e))
    (inside_each (contest_located π) (hashed_in_contest π) (contest_at π) (placed_entries (codes "Contest") e))))

outside_at : (π : Preference) (r : Placed) → map hashed_at (shared_located π r) ≡ hashed_outside π r
outside_at π r =
    both _ _ _ _ (objects_at π family.Unit (placed_entries (codes "GpUnit") r))
    (both _ _ _ _ (objects_at π family.Header (placed_entries (codes "Header") r))
    (both _ _ _ _ (objects_at π family.Office (placed_entries (codes "Office") r))
    (both _ _ _ _ (objects_at π family.Party (placed_entries (codes "Party") r)) (objects_at π family.Person (placed_entries (codes "Person") r)))))

pub hashed_report : (π : Preference) (t : Data) → map hashed (all_met π t) ≡ all_hashed π t
hashed_report π t =
    map-map hashed (λ (x : Located). x.met) (all_located π t)
    ∙ both _ _ _ _ (inside_each (election_located π (has_several t)) (hashed_in_election π) (election_at π (has_several t)) (elections t))
    (outside_at π (report_of t))
