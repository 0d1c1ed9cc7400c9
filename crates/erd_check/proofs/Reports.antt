-- Reports for the worked examples: the small ballot, its canonical form, a report of one unit in parts that examples edit, and
-- reports of two elections.
use Rattle.erd_check.proofs.Common.{ℕ, List, ◌++◌, codes, unwrap_or, Data, null, read}

-- what a text is as JSON
abbrev pub tree_of : List ℕ → Data
tree_of text = unwrap_or (read text) null

-- two units, a party, a person, an office, a header, three candidates, two contests with five selections, one ballot style:
-- with this value in the identifier of the candidate `a7`, and this order of the ballot
abbrev pub small_ballot_with : List ℕ → List ℕ → List ℕ
small_ballot_with value content =
    codes "{\"Status\":\"pre-election\",\"@type\":\"ElectionResults.ElectionReport\",\"GeneratedDate\":\"2026-08-01T09:00:00Z\",\"Issuer\":\"Vendor A\""
    ++ codes ",\"GpUnit\":[{\"@id\":\"a2\",\"@type\":\"ElectionResults.ReportingUnit\""
    ++ codes ",\"ExternalIdentifier\":[{\"@type\":\"ElectionResults.ExternalIdentifier\",\"Type\":\"local-level\",\"Value\":\"U2\"}]"
    ++ codes ",\"Type\":\"precinct\"},{\"@id\":\"a1\",\"@type\":\"ElectionResults.ReportingUnit\""
    ++ codes ",\"ExternalIdentifier\":[{\"@type\":\"ElectionResults.ExternalIdentifier\",\"Type\":\"local-level\",\"Value\":\"U1\"}]"
    ++ codes ",\"Type\":\"county\",\"ComposingGpUnitIds\":[\"a2\"]}],\"Party\":[{\"@id\":\"a3\",\"@type\":\"ElectionResults.Party\""
    ++ codes ",\"ExternalIdentifier\":[{\"@type\":\"ElectionResults.ExternalIdentifier\",\"Type\":\"local-level\",\"Value\":\"P1\"}]"
    ++ codes ",\"Name\":\"Blue\"}],\"Person\":[{\"@id\":\"a16\",\"@type\":\"ElectionResults.Person\""
    ++ codes ",\"ExternalIdentifier\":[{\"@type\":\"ElectionResults.ExternalIdentifier\",\"Type\":\"local-level\",\"Value\":\"Q1\"}]"
    ++ codes ",\"FullName\":\"Ann Ash\"}],\"Office\":[{\"@id\":\"a17\",\"@type\":\"ElectionResults.Office\""
    ++ codes ",\"ExternalIdentifier\":[{\"@type\":\"ElectionResults.ExternalIdentifier\",\"Type\":\"local-level\",\"Value\":\"O1\"}]"
    ++ codes ",\"Name\":\"Governor\"}],\"Header\":[{\"@id\":\"a4\",\"@type\":\"ElectionResults.Header\""
    ++ codes ",\"ExternalIdentifier\":[{\"@type\":\"ElectionResults.ExternalIdentifier\",\"Type\":\"local-level\",\"Value\":\"H1\"}]"
    ++ codes ",\"Name\":\"State\"}],\"Election\":[{\"@type\":\"ElectionResults.Election\",\"Name\":\"Test\",\"Type\":\"general\""
    ++ codes ",\"StartDate\":\"2026-11-03\",\"EndDate\":\"2026-11-03\",\"ElectionScopeId\":\"a1\",\"Candidate\":[{\"@id\":\"a7\""
    ++ codes ",\"@type\":\"ElectionResults.Candidate\",\"ExternalIdentifier\":[{\"@type\":\"ElectionResults.ExternalIdentifier\""
    ++ codes ",\"Type\":\"local-level\",\"Value\":\"" ++ value ++ codes "\"}],\"BallotName\":\"Cy\",\"PartyId\":\"a3\"},{\"@id\":\"a5\""
    ++ codes ",\"@type\":\"ElectionResults.Candidate\",\"ExternalIdentifier\":[{\"@type\":\"ElectionResults.ExternalIdentifier\""
    ++ codes ",\"Type\":\"local-level\",\"Value\":\"K1\"}],\"BallotName\":\"Ann\",\"PersonId\":\"a16\"},{\"@id\":\"a6\""
    ++ codes ",\"@type\":\"ElectionResults.Candidate\",\"ExternalIdentifier\":[{\"@type\":\"ElectionResults.ExternalIdentifier\""
    ++ codes ",\"Type\":\"local-level\",\"Value\":\"K2\"}],\"BallotName\":\"Bo\"}],\"Contest\":[{\"@id\":\"a8\""
    ++ codes ",\"@type\":\"ElectionResults.CandidateContest\",\"ExternalIdentifier\":[{\"@type\":\"ElectionResults.ExternalIdentifier\""
    ++ codes ",\"Type\":\"local-level\",\"Value\":\"C1\"}],\"Name\":\"Governor\",\"ElectionDistrictId\":\"a1\",\"VotesAllowed\":1"
    ++ codes ",\"OfficeIds\":[\"a17\"],\"ContestSelection\":[{\"@id\":\"a9\",\"@type\":\"ElectionResults.CandidateSelection\""
    ++ codes ",\"CandidateIds\":[\"a6\",\"a5\"]},{\"@id\":\"a10\",\"@type\":\"ElectionResults.CandidateSelection\",\"CandidateIds\":[\"a7\"]}"
    ++ codes ",{\"@id\":\"a11\",\"@type\":\"ElectionResults.CandidateSelection\",\"IsWriteIn\":true}]},{\"@id\":\"a12\""
    ++ codes ",\"@type\":\"ElectionResults.BallotMeasureContest\",\"ExternalIdentifier\":[{\"@type\":\"ElectionResults.ExternalIdentifier\""
    ++ codes ",\"Type\":\"local-level\",\"Value\":\"C2\"}],\"Name\":\"Bonds\",\"ElectionDistrictId\":\"a1\",\"ContestSelection\":[{\"@id\":\"a13\""
    ++ codes ",\"@type\":\"ElectionResults.BallotMeasureSelection\",\"Selection\":{\"@type\":\"ElectionResults.InternationalizedText\""
    ++ codes ",\"Text\":[{\"@type\":\"ElectionResults.LanguageString\",\"Language\":\"en\",\"Content\":\"Yes\"}"
    ++ codes ",{\"@type\":\"ElectionResults.LanguageString\",\"Language\":\"es\",\"Content\":\"Si\"}]}},{\"@id\":\"a14\""
    ++ codes ",\"@type\":\"ElectionResults.BallotMeasureSelection\",\"Selection\":\"No\"}]}]"
    ++ codes ",\"BallotStyle\":[{\"@type\":\"ElectionResults.BallotStyle\""
    ++ codes ",\"ExternalIdentifier\":[{\"@type\":\"ElectionResults.ExternalIdentifier\",\"Type\":\"local-level\",\"Value\":\"S1\"}]"
    ++ codes ",\"GpUnitIds\":[\"a2\"],\"OrderedContent\":[" ++ content ++ codes "]}]}]}"

-- the header of the ballot, with the first contest and its three selections
abbrev pub header_node : List ℕ
header_node = codes "{\"@type\":\"ElectionResults.OrderedHeader\",\"HeaderId\":\"a4\",\"OrderedContent\":[{\"@type\":\"ElectionResults.OrderedContest\""
    ++ codes ",\"ContestId\":\"a8\",\"OrderedContestSelectionIds\":[\"a10\",\"a9\",\"a11\"]}]}"

-- the second contest of the ballot
abbrev pub contest_node : List ℕ
contest_node = codes "{\"@type\":\"ElectionResults.OrderedContest\",\"ContestId\":\"a12\"}"

-- the small ballot
abbrev pub small_ballot : List ℕ
small_ballot = small_ballot_with (codes "K3") (header_node ++ codes "," ++ contest_node)

-- its canonical form
abbrev pub small_ballot_canonical : List ℕ
small_ballot_canonical = codes "{\"@type\":\"ElectionResults.ElectionReport\",\"Election\":[{\"@type\":\"ElectionResults.Election\""
    ++ codes ",\"BallotStyle\":[{\"@type\":\"ElectionResults.BallotStyle\",\"ExternalIdentifier\":[{\"@type\":\"ElectionResults.ExternalIdentifier\""
    ++ codes ",\"Type\":\"local-level\",\"Value\":\"S1\"}],\"GpUnitIds\":[\"gp2\"],\"OrderedContent\":[{\"@type\":\"ElectionResults.OrderedHeader\""
    ++ codes ",\"HeaderId\":\"hd1\",\"OrderedContent\":[{\"@type\":\"ElectionResults.OrderedContest\",\"ContestId\":\"co1\""
    ++ codes ",\"OrderedContestSelectionIds\":[\"cs1-3\",\"cs1-2\",\"cs1-1\"]}]},{\"@type\":\"ElectionResults.OrderedContest\",\"ContestId\":\"co2\"}]}]"
    ++ codes ",\"Candidate\":[{\"@id\":\"ca1\",\"@type\":\"ElectionResults.Candidate\",\"BallotName\":\"Ann\""
    ++ codes ",\"ExternalIdentifier\":[{\"@type\":\"ElectionResults.ExternalIdentifier\",\"Type\":\"local-level\",\"Value\":\"K1\"}],\"PersonId\":\"pe1\"}"
    ++ codes ",{\"@id\":\"ca2\",\"@type\":\"ElectionResults.Candidate\",\"BallotName\":\"Bo\""
    ++ codes ",\"ExternalIdentifier\":[{\"@type\":\"ElectionResults.ExternalIdentifier\",\"Type\":\"local-level\",\"Value\":\"K2\"}]},{\"@id\":\"ca3\""
    ++ codes ",\"@type\":\"ElectionResults.Candidate\",\"BallotName\":\"Cy\",\"ExternalIdentifier\":[{\"@type\":\"ElectionResults.ExternalIdentifier\""
    ++ codes ",\"Type\":\"local-level\",\"Value\":\"K3\"}],\"PartyId\":\"pa1\"}],\"Contest\":[{\"@id\":\"co1\""
    ++ codes ",\"@type\":\"ElectionResults.CandidateContest\",\"ContestSelection\":[{\"@id\":\"cs1-1\",\"@type\":\"ElectionResults.CandidateSelection\""
    ++ codes ",\"IsWriteIn\":true},{\"@id\":\"cs1-2\",\"@type\":\"ElectionResults.CandidateSelection\",\"CandidateIds\":[\"ca1\",\"ca2\"]}"
    ++ codes ",{\"@id\":\"cs1-3\",\"@type\":\"ElectionResults.CandidateSelection\",\"CandidateIds\":[\"ca3\"]}],\"ElectionDistrictId\":\"gp1\""
    ++ codes ",\"ExternalIdentifier\":[{\"@type\":\"ElectionResults.ExternalIdentifier\",\"Type\":\"local-level\",\"Value\":\"C1\"}],\"Name\":\"Governor\""
    ++ codes ",\"OfficeIds\":[\"of1\"],\"VotesAllowed\":1},{\"@id\":\"co2\",\"@type\":\"ElectionResults.BallotMeasureContest\""
    ++ codes ",\"ContestSelection\":[{\"@id\":\"cs2-1\",\"@type\":\"ElectionResults.BallotMeasureSelection\",\"Selection\":\"No\"},{\"@id\":\"cs2-2\""
    ++ codes ",\"@type\":\"ElectionResults.BallotMeasureSelection\",\"Selection\":{\"@type\":\"ElectionResults.InternationalizedText\""
    ++ codes ",\"Text\":[{\"@type\":\"ElectionResults.LanguageString\",\"Content\":\"Si\",\"Language\":\"es\"}"
    ++ codes ",{\"@type\":\"ElectionResults.LanguageString\",\"Content\":\"Yes\",\"Language\":\"en\"}]}}],\"ElectionDistrictId\":\"gp1\""
    ++ codes ",\"ExternalIdentifier\":[{\"@type\":\"ElectionResults.ExternalIdentifier\",\"Type\":\"local-level\",\"Value\":\"C2\"}],\"Name\":\"Bonds\"}]"
    ++ codes ",\"ElectionScopeId\":\"gp1\",\"EndDate\":\"2026-11-03\",\"Name\":\"Test\",\"StartDate\":\"2026-11-03\",\"Type\":\"general\"}]"
    ++ codes ",\"Format\":\"summary-contest\",\"GeneratedDate\":\"2000-01-01T00:00:00Z\",\"GpUnit\":[{\"@id\":\"gp1\""
    ++ codes ",\"@type\":\"ElectionResults.ReportingUnit\",\"ComposingGpUnitIds\":[\"gp2\"]"
    ++ codes ",\"ExternalIdentifier\":[{\"@type\":\"ElectionResults.ExternalIdentifier\",\"Type\":\"local-level\",\"Value\":\"U1\"}],\"Type\":\"county\"}"
    ++ codes ",{\"@id\":\"gp2\",\"@type\":\"ElectionResults.ReportingUnit\",\"ExternalIdentifier\":[{\"@type\":\"ElectionResults.ExternalIdentifier\""
    ++ codes ",\"Type\":\"local-level\",\"Value\":\"U2\"}],\"Type\":\"precinct\"}],\"Header\":[{\"@id\":\"hd1\",\"@type\":\"ElectionResults.Header\""
    ++ codes ",\"ExternalIdentifier\":[{\"@type\":\"ElectionResults.ExternalIdentifier\",\"Type\":\"local-level\",\"Value\":\"H1\"}],\"Name\":\"State\"}]"
    ++ codes ",\"Issuer\":\"canonical\",\"IssuerAbbreviation\":\"canonical\",\"Office\":[{\"@id\":\"of1\",\"@type\":\"ElectionResults.Office\""
    ++ codes ",\"ExternalIdentifier\":[{\"@type\":\"ElectionResults.ExternalIdentifier\",\"Type\":\"local-level\",\"Value\":\"O1\"}]"
    ++ codes ",\"Name\":\"Governor\"}],\"Party\":[{\"@id\":\"pa1\",\"@type\":\"ElectionResults.Party\""
    ++ codes ",\"ExternalIdentifier\":[{\"@type\":\"ElectionResults.ExternalIdentifier\",\"Type\":\"local-level\",\"Value\":\"P1\"}],\"Name\":\"Blue\"}]"
    ++ codes ",\"Person\":[{\"@id\":\"pe1\",\"@type\":\"ElectionResults.Person\",\"ExternalIdentifier\":[{\"@type\":\"ElectionResults.ExternalIdentifier\""
    ++ codes ",\"Type\":\"local-level\",\"Value\":\"Q1\"}],\"FullName\":\"Ann Ash\"}],\"SequenceEnd\":1,\"SequenceStart\":1,\"Status\":\"pre-election\""
    ++ codes ",\"VendorApplicationId\":\"canonical\"}"

-- a report with these members beside `@type`, of one unit and one election with these members
abbrev pub one_unit_report : List ℕ → List ℕ → List ℕ → List ℕ
one_unit_report report unit election =
    codes "{\"@type\":\"ElectionResults.ElectionReport\"," ++ report ++ codes ",\"GpUnit\":[{\"@id\":\"u7\"," ++ unit ++ codes "}],\"Election\":[{"
    ++ election ++ codes "}]}"

-- the members of the report of one unit
abbrev pub status : List ℕ
status = codes "\"Status\":\"pre-election\""

-- those of its unit
abbrev pub unit : List ℕ
unit = codes "\"@type\":\"ElectionResults.ReportingUnit\",\"Type\":\"county\",\"ExternalIdentifier\":[{\"@type\":\"ElectionResults.ExternalIdentifier\""
    ++ codes ",\"Type\":\"local-level\",\"Value\":\"U1\"}]"

-- those of its election
abbrev pub election : List ℕ
election = codes "\"@type\":\"ElectionResults.Election\",\"Name\":\"Test\",\"Type\":\"general\",\"StartDate\":\"2026-11-03\",\"EndDate\":\"2026-11-03\""
    ++ codes ",\"ElectionScopeId\":\"u7\""

-- the report of one unit
abbrev pub one_unit : List ℕ
one_unit = one_unit_report status unit election

-- with more members in the report, in its unit, in its election
abbrev pub with_report_member : List ℕ → List ℕ
with_report_member more = one_unit_report (status ++ codes "," ++ more) unit election

abbrev pub with_unit_member : List ℕ → List ℕ
with_unit_member more = one_unit_report status (unit ++ codes "," ++ more) election

abbrev pub with_election_member : List ℕ → List ℕ
with_election_member more = one_unit_report status unit (election ++ codes "," ++ more)

-- ---- several elections

-- the member for one identifier of the type `local-level` with this value
abbrev pub identifier : List ℕ → List ℕ
identifier value = codes "\"ExternalIdentifier\":[{\"@type\":\"ElectionResults.ExternalIdentifier\",\"Type\":\"local-level\",\"Value\":\""
    ++ value ++ codes "\"}]"

-- the members of an election with another name than that of the report of one unit
abbrev pub other_election : List ℕ
other_election = codes "\"@type\":\"ElectionResults.Election\",\"Name\":\"Other\",\"Type\":\"general\",\"StartDate\":\"2026-11-03\""
    ++ codes ",\"EndDate\":\"2026-11-03\",\"ElectionScopeId\":\"u7\""

-- the report of one unit with two elections, which have these members
abbrev pub report_of_two : List ℕ → List ℕ → List ℕ
report_of_two first second = one_unit_report status unit (first ++ codes "},{" ++ second)

-- with these values of their identifiers
abbrev pub two_elections_with : List ℕ → List ℕ → List ℕ
two_elections_with first second = report_of_two (election ++ codes "," ++ identifier first) (other_election ++ codes "," ++ identifier second)

-- the election with the greater key first
abbrev pub two_elections : List ℕ
two_elections = two_elections_with (codes "E2") (codes "E1")

-- a contest with this `@id` and this value of its identifier
abbrev pub party_contest : List ℕ → List ℕ → List ℕ
party_contest id value = codes "{\"@id\":\"" ++ id ++ codes "\",\"@type\":\"ElectionResults.PartyContest\",\"Name\":\"N\",\"ElectionDistrictId\":\"u7\","
    ++ identifier value ++ codes "}"

-- the same two elections: one contest in the first, and two in the second, the one with the greater key first
abbrev pub three_contests : List ℕ
three_contests =
    report_of_two (election ++ codes "," ++ identifier (codes "E2") ++ codes ",\"Contest\":[" ++ party_contest (codes "c2") (codes "C2") ++ codes "]")
    (other_election ++ codes "," ++ identifier (codes "E1") ++ codes ",\"Contest\":[" ++ party_contest (codes "c3") (codes "C3") ++ codes ","
    ++ party_contest (codes "c1") (codes "C1") ++ codes "]")
