-- The rows of the member table: the members of each class that this profile knows, with the kinds of their values.
-- Classes and names are those of NIST SP 1500-100 version 2; that a member is looked into, and how, is this profile's choice.
use Rattle.std.specs.Prelude.{ℕ, List, [], ◌∷◌, codes}
use Rattle.erd_tables.specs.declared.class.Class.{Class}
use Rattle.erd_tables.specs.declared.class.Class.TheVariants as class
use Rattle.erd_tables.specs.declared.class.Family.TheVariants as family
use Rattle.erd_tables.specs.declared.member.MemberKind.{MemberKind}
use Rattle.erd_tables.specs.declared.member.MemberKind.TheVariants.{Word, Label, Flag, Whole, One, Many, Identifiers, Languages, Keyed, Elections, Content}
use Rattle.erd_tables.specs.declared.member.MemberKind.TheVariants.{Ordered, Outside}

-- One row of the member table: the name of a member, and the kind of value that it must have.
pub record Row : Type 0 where
  pub name : List ℕ
  pub kind : MemberKind

infix 20 ◌is◌
-- The row with this name and this kind.
abbrev pub ◌is◌ : List ℕ → MemberKind → Row
name is kind = record { name = name; kind = kind }

-- The members of a report that say how the file was produced. They are checked, but they are not part of what the
-- report means. (class ElectionReport)
abbrev pub envelope_rows : List Row
envelope_rows =
    (codes "Format" is Word) ∷ (codes "GeneratedDate" is Word) ∷ (codes "Issuer" is Word) ∷ (codes "IssuerAbbreviation" is Word)
    ∷ (codes "VendorApplicationId" is Word) ∷ (codes "Notes" is Word) ∷ (codes "SequenceStart" is Whole)
    ∷ (codes "SequenceEnd" is Whole) ∷ (codes "ExternalIdentifier" is Identifiers) ∷ []

-- The listed members of ElectionReport, ending with those of the envelope. (class ElectionReport)
abbrev pub report_rows : List Row
report_rows =
    (codes "Status" is Word) ∷ (codes "IsTest" is Flag) ∷ (codes "TestType" is Word) ∷ (codes "Election" is Elections)
    ∷ (codes "GpUnit" is Keyed family.Unit) ∷ (codes "Party" is Keyed family.Party) ∷ (codes "Person" is Keyed family.Person)
    ∷ (codes "Office" is Keyed family.Office) ∷ (codes "Header" is Keyed family.Header) ∷ (codes "OfficeGroup" is Outside) ∷ envelope_rows

-- The listed members of Election. (class Election)
abbrev pub election_rows : List Row
election_rows =
    (codes "Name" is Label) ∷ (codes "Type" is Word) ∷ (codes "OtherType" is Word) ∷ (codes "StartDate" is Word)
    ∷ (codes "EndDate" is Word) ∷ (codes "ElectionScopeId" is One family.Unit) ∷ (codes "ExternalIdentifier" is Identifiers)
    ∷ (codes "Candidate" is Keyed family.Candidate) ∷ (codes "Contest" is Keyed family.Contest) ∷ (codes "BallotStyle" is Keyed family.Style) ∷ []

-- The listed members of ReportingUnit, with those that it has from GpUnit. (class ReportingUnit)
abbrev pub unit_rows : List Row
unit_rows =
    (codes "Type" is Word) ∷ (codes "OtherType" is Word) ∷ (codes "Name" is Label) ∷ (codes "Number" is Word)
    ∷ (codes "ComposingGpUnitIds" is Many family.Unit) ∷ (codes "AuthorityIds" is Many family.Person)
    ∷ (codes "IsDistricted" is Flag) ∷ (codes "IsMailOnly" is Flag) ∷ (codes "ElectionAdministration" is Outside)
    ∷ (codes "PartyRegistration" is Outside) ∷ (codes "ExternalIdentifier" is Identifiers) ∷ []

-- The listed members of Party. (class Party)
abbrev pub party_rows : List Row
party_rows =
    (codes "Name" is Label) ∷ (codes "Abbreviation" is Label) ∷ (codes "Slogan" is Label)
    ∷ (codes "LeaderPersonIds" is Many family.Person) ∷ (codes "PartyScopeGpUnitIds" is Many family.Unit) ∷ (codes "ExternalIdentifier" is Identifiers) ∷ []

-- The listed members of Coalition, which is a Party. Both `ContestId` and `ContestIds` are admitted, as two separate
-- members. (profile)
abbrev pub coalition_rows : List Row
coalition_rows =
    (codes "ContestId" is One family.Contest) ∷ (codes "ContestIds" is Many family.Contest) ∷ (codes "PartyIds" is Many family.Party) ∷ party_rows

-- The listed members of Person. (class Person)
abbrev pub person_rows : List Row
person_rows =
    (codes "FullName" is Label) ∷ (codes "FirstName" is Word) ∷ (codes "LastName" is Word) ∷ (codes "Title" is Label)
    ∷ (codes "Profession" is Label) ∷ (codes "PartyId" is One family.Party) ∷ (codes "ExternalIdentifier" is Identifiers) ∷ []

-- The listed members of Office. (class Office)
abbrev pub office_rows : List Row
office_rows =
    (codes "Name" is Label) ∷ (codes "Description" is Label) ∷ (codes "IsPartisan" is Flag)
    ∷ (codes "ElectionDistrictId" is One family.Unit) ∷ (codes "OfficeHolderPersonIds" is Many family.Person) ∷ (codes "ExternalIdentifier" is Identifiers) ∷ []

-- The listed members of Header. (class Header)
abbrev pub header_rows : List Row
header_rows =
    (codes "Name" is Label) ∷ (codes "ExternalIdentifier" is Identifiers) ∷ []

-- The listed members of Candidate. (class Candidate)
abbrev pub candidate_rows : List Row
candidate_rows =
    (codes "BallotName" is Label) ∷ (codes "CampaignSlogan" is Label) ∷ (codes "FileDate" is Word)
    ∷ (codes "IsIncumbent" is Flag) ∷ (codes "IsTopTicket" is Flag) ∷ (codes "PartyId" is One family.Party)
    ∷ (codes "PersonId" is One family.Person) ∷ (codes "PreElectionStatus" is Word) ∷ (codes "ExternalIdentifier" is Identifiers) ∷ []

-- The listed members of PartyContest. They are those that every class of contest has from Contest. (class PartyContest)
abbrev pub contest_rows : List Row
contest_rows =
    (codes "Name" is Label) ∷ (codes "Abbreviation" is Label) ∷ (codes "BallotTitle" is Label)
    ∷ (codes "BallotSubTitle" is Label) ∷ (codes "ElectionDistrictId" is One family.Unit) ∷ (codes "HasRotation" is Flag)
    ∷ (codes "VoteVariation" is Word) ∷ (codes "OtherVoteVariation" is Word)
    ∷ (codes "ContestSelection" is Keyed family.Selection) ∷ (codes "OtherCounts" is Outside) ∷ (codes "ExternalIdentifier" is Identifiers) ∷ []

-- The listed members of CandidateContest. (class CandidateContest)
abbrev pub candidate_contest_rows : List Row
candidate_contest_rows =
    (codes "VotesAllowed" is Whole) ∷ (codes "NumberElected" is Whole) ∷ (codes "NumberRunoff" is Whole)
    ∷ (codes "OfficeIds" is Many family.Office) ∷ (codes "PrimaryPartyIds" is Many family.Party) ∷ contest_rows

-- The listed members of BallotMeasureContest. (class BallotMeasureContest)
abbrev pub measure_rows : List Row
measure_rows =
    (codes "SummaryText" is Label) ∷ (codes "FullText" is Label) ∷ (codes "ProStatement" is Label)
    ∷ (codes "ConStatement" is Label) ∷ (codes "EffectOfAbstain" is Label) ∷ (codes "PassageThreshold" is Label)
    ∷ (codes "Type" is Word) ∷ (codes "OtherType" is Word) ∷ contest_rows

-- The listed members of RetentionContest, which is a BallotMeasureContest. (class RetentionContest)
abbrev pub retention_rows : List Row
retention_rows =
    (codes "CandidateId" is One family.Candidate) ∷ (codes "OfficeId" is One family.Office) ∷ measure_rows

-- The listed members that every class of selection has from ContestSelection.
abbrev pub selection_rows : List Row
selection_rows =
    (codes "SequenceOrder" is Whole) ∷ (codes "ExternalIdentifier" is Identifiers) ∷ (codes "VoteCounts" is Outside) ∷ []

-- The listed members of CandidateSelection. (class CandidateSelection)
abbrev pub candidate_selection_rows : List Row
candidate_selection_rows =
    (codes "CandidateIds" is Many family.Candidate) ∷ (codes "EndorsementPartyIds" is Many family.Party) ∷ (codes "IsWriteIn" is Flag) ∷ selection_rows

-- The listed members of BallotMeasureSelection. (class BallotMeasureSelection)
abbrev pub measure_selection_rows : List Row
measure_selection_rows =
    (codes "Selection" is Label) ∷ selection_rows

-- The listed members of PartySelection. (class PartySelection)
abbrev pub party_selection_rows : List Row
party_selection_rows =
    (codes "PartyIds" is Many family.Party) ∷ selection_rows

-- The listed members of BallotStyle. (class BallotStyle)
abbrev pub style_rows : List Row
style_rows =
    (codes "GpUnitIds" is Many family.Unit) ∷ (codes "PartyIds" is Many family.Party) ∷ (codes "OrderedContent" is Content)
    ∷ (codes "ExternalIdentifier" is Identifiers) ∷ []

-- The listed members of OrderedContest. (class OrderedContest)
abbrev pub ordered_contest_rows : List Row
ordered_contest_rows =
    (codes "ContestId" is One family.Contest) ∷ (codes "OrderedContestSelectionIds" is Ordered) ∷ []

-- The listed members of OrderedHeader. (class OrderedHeader)
abbrev pub ordered_header_rows : List Row
ordered_header_rows =
    (codes "HeaderId" is One family.Header) ∷ (codes "OrderedContent" is Content) ∷ []

-- The listed members of ExternalIdentifier. (class ExternalIdentifier)
abbrev pub identifier_rows : List Row
identifier_rows =
    (codes "Type" is Word) ∷ (codes "Value" is Word) ∷ (codes "OtherType" is Word) ∷ []

-- The one listed member of InternationalizedText. (class InternationalizedText)
abbrev pub label_rows : List Row
label_rows =
    (codes "Text" is Languages) ∷ []

-- The listed members of LanguageString. (class LanguageString)
abbrev pub language_rows : List Row
language_rows =
    (codes "Language" is Word) ∷ (codes "Content" is Word) ∷ []

-- All rows of the class.
abbrev pub rows_of_class : Class → List Row
rows_of_class class.ElectionReport = report_rows
rows_of_class class.Election = election_rows
rows_of_class class.ReportingUnit = unit_rows
rows_of_class class.Party = party_rows
rows_of_class class.Coalition = coalition_rows
rows_of_class class.Person = person_rows
rows_of_class class.Office = office_rows
rows_of_class class.Header = header_rows
rows_of_class class.Candidate = candidate_rows
rows_of_class class.CandidateContest = candidate_contest_rows
rows_of_class class.BallotMeasureContest = measure_rows
rows_of_class class.RetentionContest = retention_rows
rows_of_class class.PartyContest = contest_rows
rows_of_class class.CandidateSelection = candidate_selection_rows
rows_of_class class.BallotMeasureSelection = measure_selection_rows
rows_of_class class.PartySelection = party_selection_rows
rows_of_class class.BallotStyle = style_rows
rows_of_class class.OrderedContest = ordered_contest_rows
rows_of_class class.OrderedHeader = ordered_header_rows
rows_of_class class.ExternalIdentifier = identifier_rows
rows_of_class class.InternationalizedText = label_rows
rows_of_class class.LanguageString = language_rows
