-- The classes of the format (NIST SP 1500-100 version 2), their `@type` texts, roles and families.
use Rattle.std.specs.Prelude.{◌≡◌, ◌↔◌, ◌==◌, ℕ, List, [], ◌∷◌, ◌++◌, Option, Some, None, option_and_then, codes, find, if◌then◌else◌}
use Rattle.std.specs.Str.{bytes_eq}
use Rattle.erd_tables.specs.declared.class.Class.{Class}
use Rattle.erd_tables.specs.declared.class.Class.TheVariants as class
use Rattle.erd_tables.specs.declared.class.Family.{Family}
use Rattle.erd_tables.specs.declared.class.Family.TheVariants as family
use Rattle.erd_tables.specs.declared.class.Role.{Role}
use Rattle.erd_tables.specs.declared.class.Role.TheVariants.{Report, Election, OfFamily, Content, Identifier, Label, Language}

-- The name that the standard gives the class.
abbrev pub class_name : Class → List ℕ
class_name class.ElectionReport = codes "ElectionReport"
class_name class.Election = codes "Election"
class_name class.ReportingUnit = codes "ReportingUnit"
class_name class.Party = codes "Party"
class_name class.Coalition = codes "Coalition"
class_name class.Person = codes "Person"
class_name class.Office = codes "Office"
class_name class.Header = codes "Header"
class_name class.Candidate = codes "Candidate"
class_name class.CandidateContest = codes "CandidateContest"
class_name class.BallotMeasureContest = codes "BallotMeasureContest"
class_name class.RetentionContest = codes "RetentionContest"
class_name class.PartyContest = codes "PartyContest"
class_name class.CandidateSelection = codes "CandidateSelection"
class_name class.BallotMeasureSelection = codes "BallotMeasureSelection"
class_name class.PartySelection = codes "PartySelection"
class_name class.BallotStyle = codes "BallotStyle"
class_name class.OrderedContest = codes "OrderedContest"
class_name class.OrderedHeader = codes "OrderedHeader"
class_name class.ExternalIdentifier = codes "ExternalIdentifier"
class_name class.InternationalizedText = codes "InternationalizedText"
class_name class.LanguageString = codes "LanguageString"

-- The `@type` text of the class: `ElectionResults.`, which is the standard's name space, and then the class name.
abbrev pub text_of_class : Class → List ℕ
text_of_class c = codes "ElectionResults." ++ class_name c

-- The 22 classes that this profile covers.
abbrev pub classes : List Class
classes =
    class.ElectionReport ∷ class.Election ∷ class.ReportingUnit ∷ class.Party ∷ class.Coalition ∷ class.Person ∷ class.Office
    ∷ class.Header ∷ class.Candidate ∷ class.CandidateContest ∷ class.BallotMeasureContest ∷ class.RetentionContest
    ∷ class.PartyContest ∷ class.CandidateSelection ∷ class.BallotMeasureSelection ∷ class.PartySelection ∷ class.BallotStyle
    ∷ class.OrderedContest ∷ class.OrderedHeader ∷ class.ExternalIdentifier ∷ class.InternationalizedText ∷ class.LanguageString ∷ []

-- The class that has this `@type` text, or none if no class has it.
abbrev pub class_of_text : List ℕ → Option Class
class_of_text text = find (λ c. bytes_eq text (text_of_class c)) classes

-- For each class: the answer is that class if and only if the text is its `@type` text.
abbrev pub NamesItsClass : List ℕ → Option Class → Type 0
NamesItsClass text found = (c : Class) → (found ≡ Some c) ↔ (text ≡ text_of_class c)

-- The role of the class, which is what its objects stand for in a report. Each place that takes objects takes those of one
-- role. (profile)
abbrev pub role_of_class : Class → Role
role_of_class class.ElectionReport = Report
role_of_class class.Election = Election
role_of_class class.ReportingUnit = OfFamily family.Unit
role_of_class class.Party = OfFamily family.Party
role_of_class class.Coalition = OfFamily family.Party
role_of_class class.Person = OfFamily family.Person
role_of_class class.Office = OfFamily family.Office
role_of_class class.Header = OfFamily family.Header
role_of_class class.Candidate = OfFamily family.Candidate
role_of_class class.CandidateContest = OfFamily family.Contest
role_of_class class.BallotMeasureContest = OfFamily family.Contest
role_of_class class.RetentionContest = OfFamily family.Contest
role_of_class class.PartyContest = OfFamily family.Contest
role_of_class class.CandidateSelection = OfFamily family.Selection
role_of_class class.BallotMeasureSelection = OfFamily family.Selection
role_of_class class.PartySelection = OfFamily family.Selection
role_of_class class.BallotStyle = OfFamily family.Style
role_of_class class.OrderedContest = Content
role_of_class class.OrderedHeader = Content
role_of_class class.ExternalIdentifier = Identifier
role_of_class class.InternationalizedText = Label
role_of_class class.LanguageString = Language

-- The family that the role stands for, or none for a role that is not that of a family.
abbrev pub family_of_role : Role → Option Family
family_of_role (OfFamily f) = Some f
family_of_role r = None

-- The family of the class, or none. Family is this profile's word for the classes that one reference may name.
abbrev pub family_of_class : Class → Option Family
family_of_class c = family_of_role (role_of_class c)

-- The nine families, in the order of `Family` (`src/class.rt`).
abbrev pub families : List Family
families =
    family.Unit ∷ family.Party ∷ family.Person ∷ family.Office ∷ family.Header ∷ family.Candidate ∷ family.Contest ∷ family.Style ∷ family.Selection ∷ []

-- A number for the family. Different families have different numbers.
abbrev pub family_number : Family → ℕ
family_number family.Unit = 0
family_number family.Party = 1
family_number family.Person = 2
family_number family.Office = 3
family_number family.Header = 4
family_number family.Candidate = 5
family_number family.Contest = 6
family_number family.Style = 7
family_number family.Selection = 8

-- A number for the role. Different roles have different numbers.
abbrev pub role_number : Role → ℕ
role_number (OfFamily f) = family_number f
role_number Report = 9
role_number Election = 10
role_number Content = 11
role_number Identifier = 12
role_number Label = 13
role_number Language = 14

-- The class itself if it has the role, and otherwise none.
abbrev pub class_if_role : Role → Class → Option Class
class_if_role r c = if role_number (role_of_class c) == role_number r then Some c else None

-- The class that has this `@type` text, if it also has the role, and otherwise none.
abbrev pub class_in_role : Role → List ℕ → Option Class
class_in_role r text = option_and_then (class_if_role r) (class_of_text text)
