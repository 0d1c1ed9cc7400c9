-- Reports with several elections: positions, keys and references across them, by computation.
use Rattle.erd_meaning.proofs.Common.{◌++◌, ◌≡◌, ℕ, true, false, List, [], ◌∷◌, map, Some, None, codes, Option, option_map, refl, serde_json_on_literals, Data}
use Rattle.erd_meaning.proofs.Common.{family, role, SelectionOfOtherContest, At, Name, tree_of, one_unit, two_elections, three_contests, fault_at, Preference}
use Rattle.erd_meaning.proofs.Common.{key_in, rising_keys, election_key_in, election_in, selection_in, has_several, needs_key, election_of_place, Key}
use Rattle.erd_meaning.proofs.examples.RecordExamples.{local_key}
use Rattle.erd_meaning.proofs.references.ReferenceWalks.{reference_faults}

-- ---- keys

-- only if there are several elections does each need a key
keys_needed : (has_several (tree_of one_unit) ≡ false) × (needs_key (tree_of one_unit) role.Election ≡ false)
    × (has_several (tree_of two_elections) ≡ true) × (needs_key (tree_of two_elections) role.Election ≡ true)
unfolding serde_json_on_literals
keys_needed = (refl, refl, refl, refl)

-- the keys of the elections at the first three positions
abbrev keys_at : Preference → Data → List (Option Key)
keys_at π t = map (election_key_in π t) (0 ∷ 1 ∷ 2 ∷ [])

keys_of_two : keys_at None (tree_of two_elections) ≡ Some (local_key (codes "E2")) ∷ Some (local_key (codes "E1")) ∷ None ∷ []
unfolding serde_json_on_literals
keys_of_two = refl

-- an election has no key without identifiers, nor with an empty array of them
keyless : keys_at None (tree_of (codes "{\"Election\":[{},{\"ExternalIdentifier\":[]}]}")) ≡ None ∷ None ∷ None ∷ []
unfolding serde_json_on_literals
keyless = refl

abbrev of_two_types : Data
of_two_types = tree_of (codes "{\"Election\":[{\"ExternalIdentifier\":[{\"Type\":\"local-level\",\"Value\":\"E2\"},{\"Type\":\"fips\",\"Value\":\"1\"}]}"
    ++ codes ",{\"ExternalIdentifier\":[{\"Type\":\"local-level\",\"Value\":\"E1\"},{\"Type\":\"fips\",\"Value\":\"2\"}]}]}")

abbrev fips : List ℕ → Key
fips value = record { kind = codes "fips"; other = []; value = value }

-- the keys follow the preference
keys_under : (keys_at None of_two_types ≡ Some (fips (codes "1")) ∷ Some (fips (codes "2")) ∷ None ∷ [])
    × (keys_at (Some (codes "local-level")) of_two_types ≡ Some (local_key (codes "E2")) ∷ Some (local_key (codes "E1")) ∷ None ∷ [])
unfolding serde_json_on_literals
keys_under = (refl, refl)

-- ---- positions

-- contests are counted through the elections, and each has the position of its own; one contest is in the first election, two
-- are in the second
contests_in_elections : (map (key_in None family.Contest (tree_of three_contests)) (0 ∷ 1 ∷ 2 ∷ 3 ∷ []) ≡ Some (local_key (codes "C2"))
    ∷ Some (local_key (codes "C3")) ∷ Some (local_key (codes "C1")) ∷ None ∷ [])
    × (map (election_in family.Contest (tree_of three_contests)) (0 ∷ 1 ∷ 2 ∷ 3 ∷ []) ≡ Some 0 ∷ Some 1 ∷ Some 1 ∷ None ∷ [])
    × (keys_at None (tree_of three_contests) ≡ Some (local_key (codes "E2")) ∷ Some (local_key (codes "E1")) ∷ None ∷ [])
unfolding serde_json_on_literals
contests_in_elections = (refl, refl, refl)

-- in the order of their keys, each with its position
contests_rise : rising_keys None (tree_of three_contests) family.Contest ≡ (Some (local_key (codes "C1")), 2) ∷ (Some (local_key (codes "C2")), 0)
    ∷ (Some (local_key (codes "C3")), 1) ∷ []
unfolding serde_json_on_literals
contests_rise = refl

-- a unit is in no election
unit_in_none : election_in family.Unit (tree_of three_contests) 0 ≡ None
unfolding serde_json_on_literals
unit_in_none = refl

-- the election at a place, inside it, and elsewhere
places : map election_of_place (
    (Name (codes "Election") ∷ At 1 ∷ []) ∷ (Name (codes "Election") ∷ At 1 ∷ Name (codes "Contest") ∷ At 0 ∷ []) ∷ (Name (codes "Election") ∷ [])
    ∷ (Name (codes "GpUnit") ∷ At 1 ∷ []) ∷ (At 1 ∷ Name (codes "Election") ∷ []) ∷ [] ∷ []) ≡ Some 1 ∷ Some 1 ∷ None ∷ None ∷ None ∷ None ∷ []
places = refl

-- an election without contests between two that have some, each with lines for write-ins
abbrev write_ins : Data
write_ins = tree_of (codes "{\"Election\":[{\"Contest\":[{},{\"ContestSelection\":[{\"@type\":\"ElectionResults.CandidateSelection\",\"IsWriteIn\":true}]}]}"
    ++ codes ",{},{\"Contest\":[{\"ContestSelection\":[{\"@type\":\"ElectionResults.CandidateSelection\",\"IsWriteIn\":true}"
    ++ codes ",{\"@type\":\"ElectionResults.CandidateSelection\"}]}]}]}")

-- the contests of selections are counted through the elections too; a selection is asked for by its contest
selections_in_contests : (map (λ i. option_map (λ s. s.0) (selection_in None write_ins i)) (0 ∷ 1 ∷ 2 ∷ 3 ∷ []) ≡ Some 1 ∷ Some 2 ∷ Some 2 ∷ None ∷ [])
    × (map (election_in family.Contest write_ins) (0 ∷ 1 ∷ 2 ∷ []) ≡ Some 0 ∷ Some 0 ∷ Some 2 ∷ []) × (election_in family.Selection write_ins 0 ≡ None)
unfolding serde_json_on_literals
selections_in_contests = (refl, refl, refl)

-- ---- references

-- a style in one election, with a contest and its selections in another, and a selection of a third contest
abbrev across : Data
across = tree_of (codes "{\"@type\":\"ElectionResults.ElectionReport\",\"Election\":[{\"@type\":\"ElectionResults.Election\""
    ++ codes ",\"BallotStyle\":[{\"@type\":\"ElectionResults.BallotStyle\",\"OrderedContent\":[{\"@type\":\"ElectionResults.OrderedContest\""
    ++ codes ",\"ContestId\":\"c1\",\"OrderedContestSelectionIds\":[\"s1\",\"s2\"]}]}]},{\"@type\":\"ElectionResults.Election\""
    ++ codes ",\"Contest\":[{\"@id\":\"c1\",\"ContestSelection\":[{\"@id\":\"s1\"}]}]},{\"@type\":\"ElectionResults.Election\",\"Contest\":[{\"@id\":\"c2\""
    ++ codes ",\"ContestSelection\":[{\"@id\":\"s2\"}]}]}]}")

-- only the last is a fault
references_across : reference_faults across
    ≡ fault_at (Name (codes "Election") ∷ At 0 ∷ Name (codes "BallotStyle") ∷ At 0 ∷ Name (codes "OrderedContent") ∷ At 0
    ∷ Name (codes "OrderedContestSelectionIds") ∷ At 1 ∷ []) SelectionOfOtherContest ∷ []
unfolding serde_json_on_literals
references_across = refl
