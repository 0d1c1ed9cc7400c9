-- The list of what ballots print, by computation.
use Rattle.erd_shown.proofs.Common.{◌≡◌, ℕ, List, [], ◌∷◌, ◌++◌, map, None, codes, refl, Data, compact_text, tree_of}
unfoldable use Rattle.erd_shown.proofs.Common.{digits, serde_json_on_literals}
use Rattle.erd_shown.specs.WordList.{worded_data, worded_objects}

-- the start of an object of the class with this `@id`, and its identifier
abbrev start : List ℕ → List ℕ → List ℕ → List ℕ
start id class value =
    codes "{\"@id\":\"" ++ id ++ codes "\",\"@type\":\"ElectionResults." ++ class
    ++ codes "\",\"ExternalIdentifier\":[{\"@type\":\"ElectionResults.ExternalIdentifier\",\"Type\":\"local-level\",\"Value\":\"" ++ value
    ++ codes "\"}],"

-- a sole election without identifiers, with a contest for a candidate and a write-in line, whose name is the lesser one
abbrev election : List ℕ
election =
    codes "{\"@type\":\"ElectionResults.Election\",\"Candidate\":["
    ++ start (codes "k") (codes "Candidate") (codes "K1")
    ++ codes "\"BallotName\":\"Ann\",\"FileDate\":\"2026-01-01\",\"PartyId\":\"p\"}],\"Contest\":["
    ++ codes "{\"@id\":\"c\",\"@type\":\"ElectionResults.CandidateContest\",\"ContestSelection\":["
    ++ codes "{\"@id\":\"s\",\"@type\":\"ElectionResults.CandidateSelection\",\"CandidateIds\":[\"k\"]},"
    ++ codes "{\"@id\":\"w\",\"@type\":\"ElectionResults.CandidateSelection\",\"IsWriteIn\":true}],"
    ++ codes "\"ExternalIdentifier\":[{\"@type\":\"ElectionResults.ExternalIdentifier\",\"Type\":\"local-level\",\"Value\":\"C1\"}],"
    ++ codes "\"Name\":\"Mayor\",\"NumberRunoff\":2,\"OfficeIds\":[\"o\"],\"VotesAllowed\":1}],"
    ++ codes "\"ElectionScopeId\":\"u\",\"EndDate\":\"2026-11-03\",\"Name\":\"General\",\"StartDate\":\"2026-11-03\",\"Type\":\"general\"}"

-- a report with two units, whose keys fall, and an object of each other part
abbrev report : Data
report =
    tree_of
    (codes "{\"@type\":\"ElectionResults.ElectionReport\",\"Election\":["
    ++ election
    ++ codes "],\"GpUnit\":["
    ++ start (codes "v") (codes "ReportingUnit") (codes "U2")
    ++ codes "\"IsMailOnly\":true,\"Type\":\"precinct\"},"
    ++ start (codes "u") (codes "ReportingUnit") (codes "U1")
    ++ codes "\"ComposingGpUnitIds\":[\"v\"],\"Name\":\"Ames\",\"Type\":\"city\"}],\"Header\":["
    ++ start (codes "h") (codes "Header") (codes "H1")
    ++ codes "\"Name\":\"City\"}],\"Office\":["
    ++ start (codes "o") (codes "Office") (codes "O1")
    ++ codes "\"ElectionDistrictId\":\"u\",\"IsPartisan\":false,\"Motto\":\"On\",\"Name\":\"Mayor\",\"OfficeHolderPersonIds\":[\"q\"]}],\"Party\":["
    ++ start (codes "p") (codes "Party") (codes "P1")
    ++ codes "\"Name\":\"Blue\"}],\"Person\":["
    ++ start (codes "q") (codes "Person") (codes "Q1")
    ++ codes "\"FullName\":\"Ann Ames\"}]}")

-- the texts of all entries
abbrev entries : List (List ℕ)
entries = map (λ o. compact_text (worded_data None report o)) (worded_objects None report)

entries_there : entries
    ≡ (codes "{\"class\":\"ElectionResults.ReportingUnit\",\"key\":[\"local-level\",\"\",\"U1\"],\"part\":\"unit\",\"words\":"
    ++ codes "{\"ComposingGpUnitIds\":[[\"local-level\",\"\",\"U2\"]],\"Name\":\"Ames\",\"Type\":\"city\"}}")
    ∷ codes "{\"class\":\"ElectionResults.ReportingUnit\",\"key\":[\"local-level\",\"\",\"U2\"],\"part\":\"unit\",\"words\":{\"Type\":\"precinct\"}}"
    ∷ codes "{\"class\":\"ElectionResults.Party\",\"key\":[\"local-level\",\"\",\"P1\"],\"part\":\"party\",\"words\":{\"Name\":\"Blue\"}}"
    ∷ codes "{\"class\":\"ElectionResults.Person\",\"key\":[\"local-level\",\"\",\"Q1\"],\"part\":\"person\",\"words\":{\"FullName\":\"Ann Ames\"}}"
    ∷ (codes "{\"class\":\"ElectionResults.Office\",\"key\":[\"local-level\",\"\",\"O1\"],\"part\":\"office\",\"words\":"
    ++ codes "{\"ElectionDistrictId\":[\"local-level\",\"\",\"U1\"],\"IsPartisan\":false,\"Motto\":\"On\",\"Name\":\"Mayor\"}}")
    ∷ codes "{\"class\":\"ElectionResults.Header\",\"key\":[\"local-level\",\"\",\"H1\"],\"part\":\"header\",\"words\":{\"Name\":\"City\"}}"
    ∷ (codes "{\"class\":\"ElectionResults.Election\",\"key\":null,\"part\":\"election\",\"words\":{\"ElectionScopeId\":[\"local-level\",\"\",\"U1\"],"
    ++ codes "\"EndDate\":\"2026-11-03\",\"Name\":\"General\",\"StartDate\":\"2026-11-03\",\"Type\":\"general\"}}")
    ∷ (codes "{\"class\":\"ElectionResults.Candidate\",\"key\":[\"local-level\",\"\",\"K1\"],\"part\":\"candidate\",\"words\":"
    ++ codes "{\"BallotName\":\"Ann\",\"PartyId\":[\"local-level\",\"\",\"P1\"]}}")
    ∷ (codes "{\"class\":\"ElectionResults.CandidateContest\",\"key\":[\"local-level\",\"\",\"C1\"],\"part\":\"contest\",\"selections\":["
    ++ codes "{\"name\":[\"ElectionResults.CandidateSelection\",[],true,null,null,null],\"words\":{\"IsWriteIn\":true}},"
    ++ codes "{\"name\":[\"ElectionResults.CandidateSelection\",[[\"local-level\",\"\",\"K1\"]],false,null,null,null],"
    ++ codes "\"words\":{\"CandidateIds\":[[\"local-level\",\"\",\"K1\"]]}}],"
    ++ codes "\"words\":{\"Name\":\"Mayor\",\"OfficeIds\":[[\"local-level\",\"\",\"O1\"]],\"VotesAllowed\":1}}")
    ∷ []
unfolding digits serde_json_on_literals
entries_there = refl
