-- The words of ballots in another report, by computation.
use Rattle.erd_shown.proofs.Common.{◌≡◌, ℕ, true, List, [], ◌∷◌, ◌++◌, Some, None, codes, refl, Data, tree_of, local_key, family}
unfoldable use Rattle.erd_shown.proofs.Common.{digits, serde_json_on_literals}
use Rattle.erd_shown.specs.BallotDifferences.{AreBallotDifferences, StyleFound}
use Rattle.erd_shown.specs.BallotWords.{words_text}
use Rattle.erd_shown.specs.Reworded.{is_reworded}
use Rattle.erd_shown.specs.declared.rows.Row.TheVariants.{Both}

-- the start of an object of the class with this `@id`
abbrev start : List ℕ → List ℕ → List ℕ
start id class = codes "{\"@id\":\"" ++ id ++ codes "\",\"@type\":\"ElectionResults." ++ class ++ codes "\","

-- its identifiers
abbrev code : List ℕ → List ℕ
code value =
    codes "\"ExternalIdentifier\":[{\"@type\":\"ElectionResults.ExternalIdentifier\",\"Type\":\"local-level\",\"Value\":\"" ++ value ++ codes "\"}],"

abbrev style : List ℕ
style =
    codes "{\"@type\":\"ElectionResults.BallotStyle\"," ++ code (codes "S1") ++ codes "\"GpUnitIds\":[\"u\"],"
    ++ codes "\"OrderedContent\":[{\"@type\":\"ElectionResults.OrderedContest\",\"ContestId\":\"c\"}]}"

-- the selection of the contest
abbrev held : List ℕ
held = codes "\"ContestSelection\":[{\"@id\":\"s\",\"@type\":\"ElectionResults.CandidateSelection\",\"CandidateIds\":[\"k\"]}],"

-- a report with one ballot, which lists one contest for a candidate of a party, with these members of theirs
abbrev report_with : List ℕ → List ℕ → List ℕ → List ℕ → Data
report_with candidate contest unit party =
    tree_of
    (codes "{\"@type\":\"ElectionResults.ElectionReport\",\"Election\":[{\"@type\":\"ElectionResults.Election\",\"BallotStyle\":["
    ++ style
    ++ codes "],\"Candidate\":["
    ++ start (codes "k") (codes "Candidate")
    ++ code (codes "K1")
    ++ codes "\"PartyId\":\"p\","
    ++ candidate
    ++ codes "}],\"Contest\":["
    ++ start (codes "c") (codes "CandidateContest")
    ++ held
    ++ code (codes "C1")
    ++ codes "\"ElectionDistrictId\":\"u\",\"Name\":\"Mayor\","
    ++ contest
    ++ codes "}]}],\"GpUnit\":["
    ++ start (codes "u") (codes "ReportingUnit")
    ++ code (codes "U1")
    ++ unit
    ++ codes "}],\"Party\":["
    ++ start (codes "p") (codes "Party")
    ++ code (codes "P1")
    ++ party
    ++ codes "}]}")

abbrev bo : List ℕ
bo = codes "\"BallotName\":\"Bo\""

abbrev one_vote : List ℕ
one_vote = codes "\"VotesAllowed\":1"

abbrev first : List ℕ
first = codes "\"Name\":\"First\""

abbrev blue : List ℕ
blue = codes "\"Name\":\"Blue\""

abbrev one : Data
one = report_with bo one_vote first blue

abbrev differs : List StyleFound
differs = record { key = Some (local_key (codes "S1")); left = Some 0; right = Some 0 } ∷ []

-- what a ballot prints of a candidate: the party by its key, a carried member, and no date
candidate_there : words_text None one family.Candidate
    (tree_of (start (codes "k") (codes "Candidate") ++ bo ++ codes ",\"FileDate\":\"2026-01-01\",\"Motto\":\"On\",\"PartyId\":\"p\"}"))
    ≡ codes "{\"BallotName\":\"Bo\",\"Motto\":\"On\",\"PartyId\":[\"local-level\",\"\",\"P1\"]}"
unfolding serde_json_on_literals
candidate_there = refl

-- the name of a candidate
other_name : AreBallotDifferences None one None (report_with (codes "\"BallotName\":\"Bob\"") one_vote first blue) differs
unfolding digits serde_json_on_literals
other_name = record { rows = Both 0 0 ∷ []; are_rows = record { left_lines = refl; right_lines = refl; so = (refl, tt) }; tells = refl }

-- a date that no ballot prints
other_date : AreBallotDifferences None one None (report_with (bo ++ codes ",\"FileDate\":\"2026-01-01\"") one_vote first blue) []
unfolding digits serde_json_on_literals
other_date = record { rows = Both 0 0 ∷ []; are_rows = record { left_lines = refl; right_lines = refl; so = (refl, tt) }; tells = refl }

-- the number of votes
other_votes : AreBallotDifferences None one None (report_with bo (codes "\"VotesAllowed\":2") first blue) differs
unfolding digits serde_json_on_literals
other_votes = record { rows = Both 0 0 ∷ []; are_rows = record { left_lines = refl; right_lines = refl; so = (refl, tt) }; tells = refl }

-- the name of the precinct whose voters get the ballot
other_unit : AreBallotDifferences None one None (report_with bo one_vote (codes "\"Name\":\"Second\"") blue) differs
unfolding digits serde_json_on_literals
other_unit = record { rows = Both 0 0 ∷ []; are_rows = record { left_lines = refl; right_lines = refl; so = (refl, tt) }; tells = refl }

-- the name of the party of a candidate
other_party : AreBallotDifferences None one None (report_with bo one_vote first (codes "\"Name\":\"Green\"")) differs
unfolding digits serde_json_on_literals
other_party = record { rows = Both 0 0 ∷ []; are_rows = record { left_lines = refl; right_lines = refl; so = (refl, tt) }; tells = refl }

-- a person whose `@id` is empty: no candidate without a `PersonId` is this one
abbrev with_person : List ℕ → Data
with_person name =
    report_with bo one_vote first
    (blue ++ codes "}],\"Person\":[" ++ start [] (codes "Person") ++ code (codes "N1") ++ codes "\"FullName\":\"" ++ name ++ codes "\"")

other_person : AreBallotDifferences None (with_person (codes "Ann")) None (with_person (codes "Eve")) []
unfolding digits serde_json_on_literals
other_person = record { rows = Both 0 0 ∷ []; are_rows = record { left_lines = refl; right_lines = refl; so = (refl, tt) }; tells = refl }

-- but the other report has other words of this person
person_reworded : is_reworded None (with_person (codes "Ann")) None (with_person (codes "Eve")) family.Person
    (tree_of (start [] (codes "Person") ++ code (codes "N1") ++ codes "\"FullName\":\"Ann\"}")) ≡ true
unfolding serde_json_on_literals
person_reworded = refl
