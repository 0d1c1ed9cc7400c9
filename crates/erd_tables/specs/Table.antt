-- The member table: what is asked of a member, given the class of its object and the name of the member.
use Rattle.std.specs.Prelude.{ℕ, List, [], ◌∷◌, Option, Some, None, codes, Bool, ◌||◌, if◌then◌else◌, nat_eq, is_some, unwrap_or}
use Rattle.std.specs.List.{ends_with, list_any}
use Rattle.std.specs.Str.{bytes_eq}
use Rattle.erd_tables.specs.Classes.{family_of_class}
use Rattle.erd_tables.specs.Rows.{Row, envelope_rows, rows_of_class}
use Rattle.erd_tables.specs.declared.class.Class.{Class}
use Rattle.erd_tables.specs.declared.class.Class.TheVariants as class
use Rattle.erd_tables.specs.declared.member.MemberKind.{MemberKind}
use Rattle.erd_tables.specs.declared.member.MemberKind.TheVariants.{ClassText, Identity, StrangeReference, StrangeIdentity, Carried}

-- The kind that the rows give the name, or none if no row has the name.
abbrev pub kind_in_rows : List Row → List ℕ → Option MemberKind
kind_in_rows [] name = None
kind_in_rows (row ∷ rows) name = if bytes_eq name row.name then Some row.kind else kind_in_rows rows name

-- True if the name is that of a member of the report's envelope.
abbrev pub is_envelope_name : List ℕ → Bool
is_envelope_name name = is_some (kind_in_rows envelope_rows name)

-- True if the name ends in `Id` or `Ids`, as the names of references do. (the standard's rule of naming)
abbrev pub is_reference_name : List ℕ → Bool
is_reference_name name = ends_with nat_eq name (codes "Id") || ends_with nat_eq name (codes "Ids")

-- The kind of `@id`: an identity in a class that belongs to a family, and out of place in any other class. (profile)
abbrev pub kind_of_identity : Class → MemberKind
kind_of_identity c = if is_some (family_of_class c) then Identity else StrangeIdentity

-- The kind of a member for which the class has no row: `@type`, `@id`, an unknown reference or a carried member. (profile)
abbrev pub kind_of_unlisted : Class → List ℕ → MemberKind
kind_of_unlisted c name =
    if bytes_eq name (codes "@type") then ClassText else (
    if bytes_eq name (codes "@id") then kind_of_identity c else (
    if is_reference_name name then StrangeReference else Carried))

-- The kind that the table gives the member with this name in an object of the class.
abbrev pub kind_of_member : Class → List ℕ → MemberKind
kind_of_member c name = unwrap_or (kind_in_rows (rows_of_class c) name) (kind_of_unlisted c name)

-- The members that an object of the class must have besides `@type`, in byte order. (profile)
abbrev pub required_names : Class → List (List ℕ)
required_names class.ElectionReport = codes "Election" ∷ codes "Status" ∷ []
required_names class.Election = codes "ElectionScopeId" ∷ codes "EndDate" ∷ codes "Name" ∷ codes "StartDate" ∷ codes "Type" ∷ []
required_names class.ReportingUnit = codes "Type" ∷ []
required_names class.Party = codes "Name" ∷ []
required_names class.Coalition = codes "Name" ∷ []
required_names class.Person = []
required_names class.Office = codes "Name" ∷ []
required_names class.Header = codes "Name" ∷ []
required_names class.Candidate = codes "BallotName" ∷ []
required_names class.CandidateContest = codes "ElectionDistrictId" ∷ codes "Name" ∷ codes "VotesAllowed" ∷ []
required_names class.BallotMeasureContest = codes "ElectionDistrictId" ∷ codes "Name" ∷ []
required_names class.RetentionContest = codes "CandidateId" ∷ codes "ElectionDistrictId" ∷ codes "Name" ∷ []
required_names class.PartyContest = codes "ElectionDistrictId" ∷ codes "Name" ∷ []
required_names class.CandidateSelection = []
required_names class.BallotMeasureSelection = codes "Selection" ∷ []
required_names class.PartySelection = codes "PartyIds" ∷ []
required_names class.BallotStyle = codes "GpUnitIds" ∷ []
required_names class.OrderedContest = codes "ContestId" ∷ []
required_names class.OrderedHeader = codes "HeaderId" ∷ []
required_names class.ExternalIdentifier = codes "Type" ∷ codes "Value" ∷ []
required_names class.InternationalizedText = codes "Text" ∷ []
required_names class.LanguageString = codes "Content" ∷ codes "Language" ∷ []

-- True if an object of the class must have the member. `@type` is not counted here.
abbrev pub is_required : Class → List ℕ → Bool
is_required c name = list_any (λ r. bytes_eq r name) (required_names c)
