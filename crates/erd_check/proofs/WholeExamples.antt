-- The shape of small reports and of edits of them, by computation: what is asked at places, each fault, and whole reports.
use Rattle.erd_check.proofs.Common.{◌≡◌, ℕ, true, false, List, [], ◌∷◌, map, Some, None, codes, Option, option_map, refl, serde_json_on_literals, family, role}
use Rattle.erd_check.proofs.Common.{kind, Step, At, Name, asked_at, Want, ClassText, Member, Object, Reference, Status, length, subst, ListsAll, Fault}
use Rattle.erd_check.proofs.Common.{CarriedIdentity, ElectionCount, MissingMember, NotPreElection, NotWhole, OutsideProfile, UnknownReference, WrongKind}
use Rattle.erd_check.proofs.Common.{ShapeFault, NoneOf, fault_at, IsTree, zero, suc, Bool, ◌++◌, depth, read, Reason, EmptyArray, Repeated, WrongClassText}
use Rattle.erd_check.proofs.Common.{is_same_json, Carried}
use Rattle.erd_check.proofs.Reports.{tree_of, small_ballot, one_unit_report, status, election, with_report_member, with_unit_member, one_unit}
use Rattle.erd_check.proofs.Reports.{small_ballot_canonical, three_contests, two_elections, unit, with_election_member}
use Rattle.erd_check.proofs.Deciding.{is_tree, tree_sound, faults_found, faults_listed, no_fault_listed}

abbrev wants_at : List ℕ → List (List Step) → List (Option Want)
wants_at text places = let t = tree_of text in map (λ p. option_map (λ a. a.want) (asked_at t p)) places

-- the report, its status, a keyed array and its entries, a reference in a set, a member that no object has
at_the_top : wants_at small_ballot ([] ∷ (Name (codes "Status") ∷ []) ∷ (Name (codes "GpUnit") ∷ []) ∷ (Name (codes "GpUnit") ∷ At 1 ∷ [])
    ∷ (Name (codes "GpUnit") ∷ At 1 ∷ Name (codes "ComposingGpUnitIds") ∷ At 0 ∷ []) ∷ (Name (codes "GpUnit") ∷ At 0 ∷ Name (codes "ComposingGpUnitIds") ∷ [])
    ∷ (Name (codes "GpUnit") ∷ At 2 ∷ []) ∷ [])
    ≡ Some (Object role.Report) ∷ Some Status ∷ Some (Member (kind.Keyed family.Unit) false) ∷ Some (Object (role.OfFamily family.Unit))
    ∷ Some (Reference family.Unit) ∷ None ∷ None ∷ []
unfolding serde_json_on_literals
at_the_top = refl

inside_an_identifier : wants_at small_ballot ((Name (codes "Party") ∷ At 0 ∷ Name (codes "ExternalIdentifier") ∷ At 0 ∷ [])
    ∷ (Name (codes "Party") ∷ At 0 ∷ Name (codes "ExternalIdentifier") ∷ At 0 ∷ Name (codes "@type") ∷ [])
    ∷ (Name (codes "Party") ∷ At 0 ∷ Name (codes "ExternalIdentifier") ∷ At 0 ∷ Name (codes "Value") ∷ [])
    ∷ (Name (codes "Party") ∷ At 0 ∷ Name (codes "@id") ∷ []) ∷ (Name (codes "Party") ∷ At 0 ∷ Name (codes "@type") ∷ []) ∷ [])
    ≡ Some (Object role.Identifier) ∷ Some (ClassText role.Identifier) ∷ Some (Member kind.Word false) ∷ Some (Member kind.Identity false)
    ∷ Some (ClassText (role.OfFamily family.Party)) ∷ []
unfolding serde_json_on_literals
inside_an_identifier = refl

-- a label as a text has nothing inside; one with translations is an InternationalizedText
inside_a_label : wants_at small_ballot
    ((Name (codes "Election") ∷ At 0 ∷ Name (codes "Contest") ∷ At 1 ∷ Name (codes "ContestSelection") ∷ At 1 ∷ Name (codes "Selection") ∷ [])
    ∷ (Name (codes "Election") ∷ At 0 ∷ Name (codes "Contest") ∷ At 1 ∷ Name (codes "ContestSelection") ∷ At 1 ∷ Name (codes "Selection")
    ∷ Name (codes "Text") ∷ [])
    ∷ (Name (codes "Election") ∷ At 0 ∷ Name (codes "Contest") ∷ At 1 ∷ Name (codes "ContestSelection") ∷ At 0 ∷ Name (codes "Selection") ∷ [])
    ∷ (Name (codes "Election") ∷ At 0 ∷ Name (codes "Contest") ∷ At 1 ∷ Name (codes "ContestSelection") ∷ At 0 ∷ Name (codes "Selection")
    ∷ Name (codes "@type") ∷ [])
    ∷ (Name (codes "Election") ∷ At 0 ∷ Name (codes "Contest") ∷ At 1 ∷ Name (codes "ContestSelection") ∷ At 0 ∷ Name (codes "Selection") ∷ Name (codes "Text")
    ∷ []) ∷ (Name (codes "Election") ∷ At 0 ∷ Name (codes "Contest") ∷ At 1 ∷ Name (codes "ContestSelection") ∷ At 0 ∷ Name (codes "Selection")
    ∷ Name (codes "Text") ∷ At 1 ∷ [])
    ∷ (Name (codes "Election") ∷ At 0 ∷ Name (codes "Contest") ∷ At 1 ∷ Name (codes "ContestSelection") ∷ At 0 ∷ Name (codes "Selection") ∷ Name (codes "Text")
    ∷ At 1 ∷ Name (codes "Content") ∷ []) ∷ [])
    ≡ Some (Member kind.Label false) ∷ None ∷ Some (Member kind.Label false) ∷ Some (ClassText role.Label) ∷ Some (Member kind.Languages true)
    ∷ Some (Object role.Language) ∷ Some (Member kind.Word false) ∷ []
unfolding serde_json_on_literals
inside_a_label = refl

inside_headers : wants_at small_ballot ((Name (codes "Election") ∷ At 0 ∷ Name (codes "BallotStyle") ∷ At 0 ∷ Name (codes "OrderedContent") ∷ [])
    ∷ (Name (codes "Election") ∷ At 0 ∷ Name (codes "BallotStyle") ∷ At 0 ∷ Name (codes "OrderedContent") ∷ At 0 ∷ [])
    ∷ (Name (codes "Election") ∷ At 0 ∷ Name (codes "BallotStyle") ∷ At 0 ∷ Name (codes "OrderedContent") ∷ At 0 ∷ Name (codes "HeaderId") ∷ [])
    ∷ (Name (codes "Election") ∷ At 0 ∷ Name (codes "BallotStyle") ∷ At 0 ∷ Name (codes "OrderedContent") ∷ At 0
    ∷ Name (codes "OrderedContent") ∷ At 0 ∷ [])
    ∷ (Name (codes "Election") ∷ At 0 ∷ Name (codes "BallotStyle") ∷ At 0 ∷ Name (codes "OrderedContent") ∷ At 0 ∷ Name (codes "OrderedContent") ∷ At 0
    ∷ Name (codes "ContestId") ∷ [])
    ∷ (Name (codes "Election") ∷ At 0 ∷ Name (codes "BallotStyle") ∷ At 0 ∷ Name (codes "OrderedContent") ∷ At 0 ∷ Name (codes "OrderedContent") ∷ At 0
    ∷ Name (codes "OrderedContestSelectionIds") ∷ [])
    ∷ (Name (codes "Election") ∷ At 0 ∷ Name (codes "BallotStyle") ∷ At 0 ∷ Name (codes "OrderedContent") ∷ At 0 ∷ Name (codes "OrderedContent") ∷ At 0
    ∷ Name (codes "OrderedContestSelectionIds") ∷ At 2 ∷ []) ∷ [])
    ≡ Some (Member kind.Content false) ∷ Some (Object role.Content) ∷ Some (Reference family.Header) ∷ Some (Object role.Content)
    ∷ Some (Reference family.Contest) ∷ Some (Member kind.Ordered false) ∷ Some (Reference family.Selection) ∷ []
unfolding serde_json_on_literals
inside_headers = refl

-- inside a carried value everything is carried, `@type` and known names too, but for names of identities and references
inside_a_carried_value : wants_at (with_unit_member (codes "\"ContactInformation\":{\"@type\":1,\"Name\":[\"1 Main\",{\"@id\":\"x\"}],\"OwnerIds\":[\"u7\"]}"))
    ((Name (codes "GpUnit") ∷ At 0 ∷ Name (codes "ContactInformation") ∷ [])
    ∷ (Name (codes "GpUnit") ∷ At 0 ∷ Name (codes "ContactInformation") ∷ Name (codes "@type") ∷ [])
    ∷ (Name (codes "GpUnit") ∷ At 0 ∷ Name (codes "ContactInformation") ∷ Name (codes "Name") ∷ At 0 ∷ [])
    ∷ (Name (codes "GpUnit") ∷ At 0 ∷ Name (codes "ContactInformation") ∷ Name (codes "Name") ∷ At 1 ∷ Name (codes "@id") ∷ [])
    ∷ (Name (codes "GpUnit") ∷ At 0 ∷ Name (codes "ContactInformation") ∷ Name (codes "OwnerIds") ∷ [])
    ∷ (Name (codes "GpUnit") ∷ At 0 ∷ Name (codes "ContactInformation") ∷ Name (codes "OwnerIds") ∷ At 0 ∷ []) ∷ [])
    ≡ Some Carried ∷ Some Carried ∷ Some Carried ∷ Some (Member kind.StrangeIdentity false) ∷ Some (Member kind.StrangeIdentity false) ∷ None ∷ []
unfolding serde_json_on_literals
inside_a_carried_value = refl

-- where the class is wrong `@type` alone is asked for; nothing below outside members, strange names and values of a wrong kind
below_a_fault : (wants_at (one_unit_report status (codes "\"@type\":\"ElectionResults.ReportingDevice\",\"Type\":1") election)
    ((Name (codes "GpUnit") ∷ At 0 ∷ Name (codes "@type") ∷ []) ∷ (Name (codes "GpUnit") ∷ At 0 ∷ Name (codes "Type") ∷ [])
    ∷ (Name (codes "GpUnit") ∷ At 0 ∷ Name (codes "@id") ∷ []) ∷ []) ≡ Some (ClassText (role.OfFamily family.Unit)) ∷ None ∷ None ∷ [])
    × (wants_at (with_unit_member (codes "\"PartyRegistration\":[{\"a\":1.5}],\"Name\":[1.5],\"AuthorityIds\":{\"a\":1.5}"))
    ((Name (codes "GpUnit") ∷ At 0 ∷ Name (codes "PartyRegistration") ∷ []) ∷ (Name (codes "GpUnit") ∷ At 0 ∷ Name (codes "PartyRegistration") ∷ At 0 ∷ [])
    ∷ (Name (codes "GpUnit") ∷ At 0 ∷ Name (codes "Name") ∷ At 0 ∷ [])
    ∷ (Name (codes "GpUnit") ∷ At 0 ∷ Name (codes "AuthorityIds") ∷ Name (codes "a") ∷ []) ∷ [])
    ≡ Some (Member kind.Outside false) ∷ None ∷ None ∷ None ∷ [])
    × (wants_at (with_report_member (codes "\"FooIds\":[1.5]")) ((Name (codes "FooIds") ∷ []) ∷ (Name (codes "FooIds") ∷ At 0 ∷ []) ∷ [])
    ≡ Some (Member kind.StrangeReference false) ∷ None ∷ [])
unfolding serde_json_on_literals
below_a_fault = (refl, refl, refl)

-- ---- reports without a fault

-- the text is that of a tree without a fault of the shape
pub record IsFaultless (text : List ℕ) : Type 0 where
  pub tree : IsTree (tree_of text)
  pub none : NoneOf (ShapeFault (tree_of text))

faultless_by_tests : (text : List ℕ) → is_tree (tree_of text) ≡ true → length (faults_found (tree_of text)) ≡ 0 → IsFaultless text
faultless_by_tests text is empty = record { tree = tree_sound (tree_of text) is; none = no_fault_listed (tree_of text) is empty }

pub one_unit_is_faultless : IsFaultless one_unit
unfolding serde_json_on_literals
one_unit_is_faultless = faultless_by_tests one_unit refl refl

pub small_ballot_is_faultless : IsFaultless small_ballot
unfolding serde_json_on_literals
small_ballot_is_faultless = faultless_by_tests small_ballot refl refl

pub small_ballot_canonical_is_faultless : IsFaultless small_ballot_canonical
unfolding serde_json_on_literals
small_ballot_canonical_is_faultless = faultless_by_tests small_ballot_canonical refl refl

pub two_elections_is_faultless : IsFaultless two_elections
unfolding serde_json_on_literals
two_elections_is_faultless = faultless_by_tests two_elections refl refl

pub three_contests_is_faultless : IsFaultless three_contests
unfolding serde_json_on_literals
three_contests_is_faultless = faultless_by_tests three_contests refl refl

-- ---- reports with faults

listed_by_tests : (text : List ℕ) (faults : List Fault) → is_tree (tree_of text) ≡ true → faults_found (tree_of text) ≡ faults
    → ListsAll (ShapeFault (tree_of text)) faults
listed_by_tests text faults is found = subst (ListsAll (ShapeFault (tree_of text))) found (faults_listed (tree_of text) (tree_sound (tree_of text) is))

-- no election at all
abbrev pub no_election : List ℕ
no_election = codes "{\"@type\":\"ElectionResults.ElectionReport\",\"Status\":\"pre-election\",\"Election\":[]}"

abbrev pub no_election_faults : List Fault
no_election_faults = fault_at (Name (codes "Election") ∷ []) ElectionCount ∷ []

pub no_election_has_all : ListsAll (ShapeFault (tree_of no_election)) no_election_faults
unfolding serde_json_on_literals
no_election_has_all = listed_by_tests no_election no_election_faults refl refl

-- a status after the election, a strange reference, a unit without its type, an election without its scope, and more
abbrev pub faulty : List ℕ
faulty =
    one_unit_report (codes "\"Status\":\"certified\",\"FooId\":\"u7\"")
    (codes "\"@type\":\"ElectionResults.ReportingUnit\",\"PartyRegistration\":[{}],\"Note\":1.5,\"AuthorityIds\":[\"u7\",1]")
    (codes "\"@id\":\"e\",\"@type\":\"ElectionResults.Election\",\"Name\":\"Test\",\"Type\":\"general\",\"StartDate\":\"2026-11-03\""
    ++ codes ",\"EndDate\":\"2026-11-03\"")

-- all that it has, by place, then by reason
abbrev pub faulty_faults : List Fault
faulty_faults =
    fault_at (Name (codes "Election") ∷ At 0 ∷ []) (MissingMember (codes "ElectionScopeId"))
    ∷ fault_at (Name (codes "Election") ∷ At 0 ∷ Name (codes "@id") ∷ []) CarriedIdentity ∷ fault_at (Name (codes "FooId") ∷ []) UnknownReference
    ∷ fault_at (Name (codes "GpUnit") ∷ At 0 ∷ []) (MissingMember (codes "Type"))
    ∷ fault_at (Name (codes "GpUnit") ∷ At 0 ∷ Name (codes "AuthorityIds") ∷ At 1 ∷ []) WrongKind
    ∷ fault_at (Name (codes "GpUnit") ∷ At 0 ∷ Name (codes "Note") ∷ []) NotWhole
    ∷ fault_at (Name (codes "GpUnit") ∷ At 0 ∷ Name (codes "PartyRegistration") ∷ []) OutsideProfile ∷ fault_at (Name (codes "Status") ∷ []) NotPreElection ∷ []

pub faulty_has_all : ListsAll (ShapeFault (tree_of faulty)) faulty_faults
unfolding serde_json_on_literals
faulty_has_all = listed_by_tests faulty faulty_faults refl refl

-- ---- each fault of the shape as a fact and as its absence, on edits of the report of one unit, by computation

-- the text has this fault of the shape
abbrev Has : List ℕ → List Step → Reason → Type 0
Has text p r = ShapeFault (tree_of text) p r

-- it has not
abbrev HasNot : List ℕ → List Step → Reason → Type 0
HasNot text p r = ¬ ShapeFault (tree_of text) p r

untrue : false ≡ true → ⊥
untrue h = absurd (cc h)

-- a text in place of an array, a number in place of a text; the array's entry is not sought
wrong_kind : Has (with_unit_member (codes "\"AuthorityIds\":\"u7\"")) (Name (codes "GpUnit") ∷ At 0 ∷ Name (codes "AuthorityIds") ∷ []) WrongKind
    × Has (with_unit_member (codes "\"AuthorityIds\":[1,1]")) (Name (codes "GpUnit") ∷ At 0 ∷ Name (codes "AuthorityIds") ∷ At 1 ∷ []) WrongKind
    × HasNot (with_unit_member (codes "\"AuthorityIds\":[1,1]")) (Name (codes "GpUnit") ∷ At 0 ∷ Name (codes "AuthorityIds") ∷ At 1 ∷ []) Repeated
    × Has (codes "[]") [] WrongKind × HasNot one_unit [] WrongKind × HasNot one_unit (Name (codes "GpUnit") ∷ At 0 ∷ Name (codes "Type") ∷ []) WrongKind
unfolding serde_json_on_literals
wrong_kind = (refl, refl, untrue, refl, untrue, untrue)

-- a missing `@type` is told alone
missing_member : Has (codes "{\"@type\":\"ElectionResults.ElectionReport\"}") [] (MissingMember (codes "Election"))
    × HasNot (codes "{\"@type\":\"ElectionResults.ElectionReport\"}") [] (MissingMember (codes "GpUnit"))
    × Has (codes "{}") [] (MissingMember (codes "@type")) × HasNot (codes "{}") [] (MissingMember (codes "Status"))
    × HasNot (codes "{\"@type\":7}") [] (MissingMember (codes "@type")) × HasNot one_unit (Name (codes "GpUnit") ∷ At 0 ∷ []) (MissingMember (codes "Type"))
unfolding serde_json_on_literals
missing_member = (refl, untrue, refl, untrue, untrue, untrue)

-- a class of the standard that is not of the place's role, at `@type`; a missing identifier is no fault of the shape
wrong_class : Has (one_unit_report status (codes "\"@type\":\"ElectionResults.ReportingDevice\"") election)
    (Name (codes "GpUnit") ∷ At 0 ∷ Name (codes "@type") ∷ []) WrongClassText
    × HasNot (one_unit_report status (codes "\"@type\":\"ElectionResults.ReportingDevice\"") election) (Name (codes "GpUnit") ∷ At 0 ∷ [])
    (MissingMember (codes "Type")) × HasNot one_unit (Name (codes "GpUnit") ∷ At 0 ∷ Name (codes "@type") ∷ []) WrongClassText
    × HasNot (one_unit_report status (codes "\"@type\":\"ElectionResults.ReportingUnit\",\"Type\":\"county\"") election) (Name (codes "GpUnit") ∷ At 0 ∷ [])
    (MissingMember (codes "ExternalIdentifier"))
unfolding serde_json_on_literals
wrong_class = (refl, untrue, untrue, untrue)

-- in a member that is a whole number and in a carried value; elsewhere such a number is a wrong kind
not_whole : Has (with_report_member (codes "\"a/b~c\":1.5")) (Name (codes "a/b~c") ∷ []) NotWhole
    × Has (with_report_member (codes "\"SequenceStart\":1e2")) (Name (codes "SequenceStart") ∷ []) NotWhole
    × HasNot (with_report_member (codes "\"SequenceStart\":\"1\"")) (Name (codes "SequenceStart") ∷ []) NotWhole
    × HasNot (with_report_member (codes "\"Notes\":1.5")) (Name (codes "Notes") ∷ []) NotWhole
    × HasNot (with_report_member (codes "\"Big\":18446744073709551615")) (Name (codes "Big") ∷ []) NotWhole
    × Has (with_report_member (codes "\"Big\":18446744073709551616")) (Name (codes "Big") ∷ []) NotWhole
unfolding serde_json_on_literals
not_whole = (refl, refl, untrue, untrue, untrue, refl)

outside_the_profile : Has (with_unit_member (codes "\"PartyRegistration\":[{}]"))
    (Name (codes "GpUnit") ∷ At 0 ∷ Name (codes "PartyRegistration") ∷ []) OutsideProfile
    × Has (with_report_member (codes "\"OfficeGroup\":null")) (Name (codes "OfficeGroup") ∷ []) OutsideProfile
    × HasNot (with_unit_member (codes "\"PartyRegistration\":[]")) (Name (codes "GpUnit") ∷ At 0 ∷ Name (codes "PartyRegistration") ∷ []) OutsideProfile
    × HasNot (with_election_member (codes "\"OfficeGroup\":[{}]")) (Name (codes "Election") ∷ At 0 ∷ Name (codes "OfficeGroup") ∷ []) OutsideProfile
unfolding serde_json_on_literals
outside_the_profile = (refl, refl, untrue, untrue)

unknown_reference : Has (with_report_member (codes "\"FooId\":\"u7\"")) (Name (codes "FooId") ∷ []) UnknownReference
    × HasNot (with_report_member (codes "\"VendorApplicationId\":\"a\"")) (Name (codes "VendorApplicationId") ∷ []) UnknownReference
    × HasNot one_unit (Name (codes "Election") ∷ At 0 ∷ Name (codes "ElectionScopeId") ∷ []) UnknownReference
unfolding serde_json_on_literals
unknown_reference = (refl, untrue, untrue)

carried_identity : Has (with_election_member (codes "\"@id\":\"e\"")) (Name (codes "Election") ∷ At 0 ∷ Name (codes "@id") ∷ []) CarriedIdentity
    × Has (with_unit_member (codes "\"ContactInformation\":{\"OwnerIds\":[\"u7\"]}"))
    (Name (codes "GpUnit") ∷ At 0 ∷ Name (codes "ContactInformation") ∷ Name (codes "OwnerIds") ∷ []) CarriedIdentity
    × HasNot one_unit (Name (codes "GpUnit") ∷ At 0 ∷ Name (codes "@id") ∷ []) CarriedIdentity
unfolding serde_json_on_literals
carried_identity = (refl, refl, untrue)

not_pre_election : Has (one_unit_report (codes "\"Status\":\"certified\"") unit election) (Name (codes "Status") ∷ []) NotPreElection
    × HasNot one_unit (Name (codes "Status") ∷ []) NotPreElection
    × HasNot (one_unit_report (codes "\"Status\":7") unit election) (Name (codes "Status") ∷ []) NotPreElection
unfolding serde_json_on_literals
not_pre_election = (refl, untrue, untrue)

-- an empty array; each of two elections is judged inside
election_count : Has (codes "{\"@type\":\"ElectionResults.ElectionReport\",\"Election\":[]}") (Name (codes "Election") ∷ []) ElectionCount
    × HasNot (codes "{\"@type\":\"ElectionResults.ElectionReport\",\"Election\":[]}") [] (MissingMember (codes "Election"))
    × HasNot (codes "{\"@type\":\"ElectionResults.ElectionReport\",\"Election\":{}}") (Name (codes "Election") ∷ []) ElectionCount
    × HasNot (codes "{\"@type\":\"ElectionResults.ElectionReport\",\"Election\":[{\"@type\":\"ElectionResults.Election\"},{}]}")
    (Name (codes "Election") ∷ []) ElectionCount
    × Has (codes "{\"@type\":\"ElectionResults.ElectionReport\",\"Election\":[{\"@type\":\"ElectionResults.Election\"},{}]}")
    (Name (codes "Election") ∷ At 0 ∷ []) (MissingMember (codes "Name")) × HasNot one_unit (Name (codes "Election") ∷ []) ElectionCount
unfolding serde_json_on_literals
election_count = (refl, untrue, untrue, untrue, refl, untrue)

-- a required set of translations or references; an optional one may be empty
empty_array : Has (one_unit_report status (unit ++ codes ",\"Name\":{\"@type\":\"ElectionResults.InternationalizedText\",\"Text\":[]}") election)
    (Name (codes "GpUnit") ∷ At 0 ∷ Name (codes "Name") ∷ Name (codes "Text") ∷ []) EmptyArray
    × Has (with_election_member (codes "\"BallotStyle\":[{\"@type\":\"ElectionResults.BallotStyle\",\"GpUnitIds\":[]}]"))
    (Name (codes "Election") ∷ At 0 ∷ Name (codes "BallotStyle") ∷ At 0 ∷ Name (codes "GpUnitIds") ∷ []) EmptyArray
    × HasNot (with_unit_member (codes "\"ComposingGpUnitIds\":[]")) (Name (codes "GpUnit") ∷ At 0 ∷ Name (codes "ComposingGpUnitIds") ∷ []) EmptyArray
    × HasNot one_unit (Name (codes "GpUnit") ∷ At 0 ∷ Name (codes "ExternalIdentifier") ∷ []) EmptyArray
unfolding serde_json_on_literals
empty_array = (refl, refl, untrue, untrue)

-- the later of two equal entries, whatever other fault it has; numbers that are not whole are equal to none; references are
-- judged later
repeated : Has (with_report_member (codes "\"ExternalIdentifier\":[{\"b\":1,\"a\":2},{\"a\":2,\"b\":1}]"))
    (Name (codes "ExternalIdentifier") ∷ At 1 ∷ []) Repeated
    × Has (with_report_member (codes "\"ExternalIdentifier\":[{\"b\":1,\"a\":2},{\"a\":2,\"b\":1}]")) (Name (codes "ExternalIdentifier") ∷ At 1 ∷ [])
    (MissingMember (codes "@type")) × HasNot (with_report_member (codes "\"ExternalIdentifier\":[{\"b\":1,\"a\":2},{\"a\":2,\"b\":1}]"))
    (Name (codes "ExternalIdentifier") ∷ At 0 ∷ []) Repeated
    × HasNot (with_report_member (codes "\"ExternalIdentifier\":[{\"b\":1.5},{\"b\":1.5}]")) (Name (codes "ExternalIdentifier") ∷ At 1 ∷ []) Repeated
    × HasNot (with_unit_member (codes "\"ComposingGpUnitIds\":[\"u7\",\"u7\"]")) (Name (codes "GpUnit") ∷ At 0 ∷ Name (codes "ComposingGpUnitIds") ∷ At 1 ∷ [])
    Repeated × HasNot (with_report_member (codes "\"Text\":[\"a\",\"a\"]")) (Name (codes "Text") ∷ At 1 ∷ []) Repeated
unfolding serde_json_on_literals
repeated = (refl, refl, untrue, untrue, untrue, untrue)

abbrev same_texts : List ℕ → List ℕ → Bool
same_texts a b = is_same_json (tree_of a) (tree_of b)

-- members in any order, whole numbers by value, entries in their order
same : same_texts (codes "{\"a\":[1,null],\"b\":\"x\"}") (codes "{\"b\":\"x\",\"a\":[1,null]}") ∷ same_texts (codes "[1,2]") (codes "[2,1]")
    ∷ same_texts (codes "{\"a\":null}") (codes "{}") ∷ same_texts (codes "1.5") (codes "1.5") ∷ same_texts (codes "true") (codes "1") ∷ []
    ≡ true ∷ false ∷ false ∷ false ∷ false ∷ []
unfolding serde_json_on_literals
same = refl

abbrev brackets : ℕ → List ℕ → List ℕ
brackets zero inside = inside
brackets (suc n) inside = brackets n (91 ∷ (inside ++ 93 ∷ []))

-- nested 127 deep a text is read, 128 deep it is not
deepest : (option_map depth (read (brackets 127 [])) ≡ Some 127) × (option_map depth (read (brackets 128 [])) ≡ None)
unfolding serde_json_on_literals
deepest = (refl, refl)
