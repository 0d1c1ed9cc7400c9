-- Whole reports that are accepted, and others that are refused with the list of all their faults, by computation.
use Rattle.erd_meaning.proofs.Common.{◌≡◌, ℕ, List, length, None, refl, serde_json_on_literals, tree_of, small_ballot, small_ballot_canonical, one_unit}
use Rattle.erd_meaning.proofs.Common.{two_elections, three_contests, IsAccepted, [], ◌∷◌, ◌++◌, codes, Data, ListsAll, Fault, Reason, NoIdentifier}
use Rattle.erd_meaning.proofs.Common.{SelectionOfOtherContest, TwinIdentifier, TwinSelection, Unresolved, WrongFamily, Step, At, Name, tree_sound}
use Rattle.erd_meaning.proofs.Common.{no_fault_listed, small_ballot_with, header_node, contest_node, election, with_election_member, report_of_two}
use Rattle.erd_meaning.proofs.Common.{two_elections_with, fault_at, IsFault}
use Rattle.erd_check.proofs.WholeExamples.{IsFaultless, one_unit_is_faultless, small_ballot_is_faultless, small_ballot_canonical_is_faultless}
use Rattle.erd_check.proofs.WholeExamples.{three_contests_is_faultless, two_elections_is_faultless, faulty, faulty_faults, faulty_has_all, no_election}
use Rattle.erd_check.proofs.WholeExamples.{no_election_faults, no_election_has_all}
use Rattle.erd_meaning.proofs.identity.IdentityFaults.{identity_told}
use Rattle.erd_meaning.proofs.refused.Refused.{accepted_by_lists, refused_by_shape, refused_by_identity, refused_by_references, refused_by_selections}
use Rattle.erd_meaning.proofs.references.ReferenceWalks.{reference_faults}
use Rattle.erd_meaning.proofs.selections.NamesTold.{selections_told}

accepted_by_tests : (text : List ℕ) → IsFaultless text → length (identity_told None (tree_of text)) ≡ 0 → length (reference_faults (tree_of text)) ≡ 0
    → length (selections_told None (tree_of text)) ≡ 0 → IsAccepted None (tree_of text)
accepted_by_tests text faultless identity references selections =
    accepted_by_lists None (tree_of text) faultless.tree faultless.none identity references selections

pub one_unit_is_accepted : IsAccepted None (tree_of one_unit)
unfolding serde_json_on_literals
one_unit_is_accepted = accepted_by_tests one_unit one_unit_is_faultless refl refl refl

pub small_ballot_is_accepted : IsAccepted None (tree_of small_ballot)
unfolding serde_json_on_literals
small_ballot_is_accepted = accepted_by_tests small_ballot small_ballot_is_faultless refl refl refl

pub small_ballot_canonical_is_accepted : IsAccepted None (tree_of small_ballot_canonical)
unfolding serde_json_on_literals
small_ballot_canonical_is_accepted = accepted_by_tests small_ballot_canonical small_ballot_canonical_is_faultless refl refl refl

pub two_elections_is_accepted : IsAccepted None (tree_of two_elections)
unfolding serde_json_on_literals
two_elections_is_accepted = accepted_by_tests two_elections two_elections_is_faultless refl refl refl

pub three_contests_is_accepted : IsAccepted None (tree_of three_contests)
unfolding serde_json_on_literals
three_contests_is_accepted = accepted_by_tests three_contests three_contests_is_faultless refl refl refl

-- ---- the shape: a report with no election, and one with many faults

no_election_refused : ListsAll (IsFault None (tree_of no_election)) no_election_faults
no_election_refused = refused_by_shape None (tree_of no_election) no_election_has_all

faulty_refused : ListsAll (IsFault None (tree_of faulty)) faulty_faults
faulty_refused = refused_by_shape None (tree_of faulty) faulty_has_all

-- ---- identity: two candidates with one key

abbrev twin_candidates : Data
twin_candidates = tree_of (small_ballot_with (codes "K1") (header_node ++ codes "," ++ contest_node))

-- the second of them
abbrev twin_candidate : Fault
twin_candidate = fault_at (Name (codes "Election") ∷ At 0 ∷ Name (codes "Candidate") ∷ At 1 ∷ []) TwinIdentifier

twin_candidates_refused : ListsAll (IsFault None twin_candidates) (twin_candidate ∷ [])
unfolding serde_json_on_literals
twin_candidates_refused =
    refused_by_identity None twin_candidates twin_candidate [] (no_fault_listed twin_candidates refl refl) refl

-- ---- identity: two elections without identifiers, and two with one key

-- the election at this position, with this fault
abbrev election_fault : ℕ → Reason → Fault
election_fault i r = fault_at (Name (codes "Election") ∷ At i ∷ []) r

abbrev keyless_elections : Data
keyless_elections = tree_of (report_of_two election election)

keyless_elections_refused : ListsAll (IsFault None keyless_elections) (election_fault 0 NoIdentifier ∷ election_fault 1 NoIdentifier ∷ [])
unfolding serde_json_on_literals
keyless_elections_refused =
    refused_by_identity None keyless_elections (election_fault 0 NoIdentifier) (election_fault 1 NoIdentifier ∷ [])
    (no_fault_listed keyless_elections refl refl) refl

abbrev twin_elections : Data
twin_elections = tree_of (two_elections_with (codes "E1") (codes "E1"))

twin_elections_refused : ListsAll (IsFault None twin_elections) (election_fault 1 TwinIdentifier ∷ [])
unfolding serde_json_on_literals
twin_elections_refused =
    refused_by_identity None twin_elections (election_fault 1 TwinIdentifier) [] (no_fault_listed twin_elections refl refl) refl

-- ---- references: a contest on the ballot with a selection of another contest, one of its own, a header and nothing

abbrev strange_node : List ℕ
strange_node = codes "{\"@type\":\"ElectionResults.OrderedContest\",\"ContestId\":\"a12\",\"OrderedContestSelectionIds\":[\"a9\",\"a13\",\"a4\",\"none\"]}"

abbrev strange_entries : Data
strange_entries = tree_of (small_ballot_with (codes "K3") strange_node)

abbrev strange_entry : ℕ → List Step
strange_entry i = Name (codes "Election") ∷ At 0 ∷ Name (codes "BallotStyle") ∷ At 0 ∷ Name (codes "OrderedContent") ∷ At 0
    ∷ Name (codes "OrderedContestSelectionIds") ∷ At i ∷ []

abbrev of_other_contest : Fault
of_other_contest = fault_at (strange_entry 0) SelectionOfOtherContest

abbrev more_strange_entries : List Fault
more_strange_entries = fault_at (strange_entry 2) WrongFamily ∷ fault_at (strange_entry 3) Unresolved ∷ []

strange_entries_refused : ListsAll (IsFault None strange_entries) (of_other_contest ∷ more_strange_entries)
unfolding serde_json_on_literals
strange_entries_refused =
    refused_by_references None strange_entries of_other_contest more_strange_entries (tree_sound strange_entries refl)
    (no_fault_listed strange_entries refl refl) refl refl

-- ---- selections: a contest with two lines for write-ins

abbrev two_write_ins : Data
two_write_ins = tree_of (with_election_member (codes "\"Contest\":[{\"@id\":\"c1\",\"@type\":\"ElectionResults.CandidateContest\",\"Name\":\"Mayor\""
    ++ codes ",\"ElectionDistrictId\":\"u7\",\"VotesAllowed\":2,\"ExternalIdentifier\":[{\"@type\":\"ElectionResults.ExternalIdentifier\""
    ++ codes ",\"Type\":\"local-level\",\"Value\":\"C1\"}],\"ContestSelection\":[{\"@id\":\"s1\",\"@type\":\"ElectionResults.CandidateSelection\""
    ++ codes ",\"IsWriteIn\":true},{\"@id\":\"s2\",\"@type\":\"ElectionResults.CandidateSelection\",\"IsWriteIn\":true}]}]"))

-- the second of them
abbrev second_write_in : Fault
second_write_in = fault_at (Name (codes "Election") ∷ At 0 ∷ Name (codes "Contest") ∷ At 0 ∷ Name (codes "ContestSelection") ∷ At 1 ∷ []) TwinSelection

two_write_ins_refused : ListsAll (IsFault None two_write_ins) (second_write_in ∷ [])
unfolding serde_json_on_literals
two_write_ins_refused =
    refused_by_selections None two_write_ins second_write_in [] (tree_sound two_write_ins refl) (no_fault_listed two_write_ins refl refl)
    refl refl refl
