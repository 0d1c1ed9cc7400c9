-- Worked examples of classes, the member table, places and fault lines, by computation.
use Rattle.std.proofs.Common.{◌≡◌, ℕ, List, [], ◌∷◌, Some, None, map, filter, codes, Bool, true, false, ◌&&◌, is_lt, refl}
use Rattle.std.specs.Fmt.{digits}
use Rattle.std.specs.List.{list_all, flat_map}
use Rattle.std.specs.Prelude.{is_some}
use Rattle.std.specs.declared.cmp.Ordering.TheVariants.{Less, Greater}
use Rattle.erd_tables.specs.Classes.{classes, class_of_text, class_in_role, family_of_class, text_of_class}
use Rattle.erd_tables.specs.Faults.{fault_cmp, fault_line}
use Rattle.erd_tables.specs.Places.{place_cmp, pointer_text}
use Rattle.erd_tables.specs.Rows.{rows_of_class}
use Rattle.erd_tables.specs.Table.{kind_in_rows, kind_of_member, required_names, is_envelope_name, is_reference_name}
use Rattle.erd_tables.specs.Texts.{text_cmp}
use Rattle.erd_tables.specs.declared.class.Class.TheVariants as class
use Rattle.erd_tables.specs.declared.class.Family.TheVariants as family
use Rattle.erd_tables.specs.declared.class.Role.TheVariants as role
use Rattle.erd_tables.specs.declared.fault.Fault.{Fault}
use Rattle.erd_tables.specs.declared.fault.Reason.{Reason}
use Rattle.erd_tables.specs.declared.fault.Reason.TheVariants as reason
use Rattle.erd_tables.specs.declared.member.MemberKind.{MemberKind}
use Rattle.erd_tables.specs.declared.member.MemberKind.TheVariants as kind
use Rattle.erd_tables.specs.declared.place.Step.{Step}
use Rattle.erd_tables.specs.declared.place.Step.TheVariants.{Name, At}

-- ---- classes

-- a text of the name space alone, a base class and another case name no class
class_texts : map class_of_text (codes "ElectionResults.Coalition" ∷ codes "Coalition" ∷ codes "ElectionResults.GpUnit" ∷ codes "ElectionResults.header" ∷ [])
    ≡ Some class.Coalition ∷ None ∷ None ∷ None ∷ []
class_texts = refl

-- parties and coalitions are one family, the objects inside others are of none
families_of_classes : map family_of_class (class.Party ∷ class.Coalition ∷ class.RetentionContest ∷ class.BallotStyle ∷ class.OrderedHeader
    ∷ class.ExternalIdentifier ∷ []) ≡ Some family.Party ∷ Some family.Party ∷ Some family.Contest ∷ Some family.Style ∷ None ∷ None ∷ []
families_of_classes = refl

-- a contest may not stand where a selection is asked for
classes_by_role : map (λ r. class_in_role r (text_of_class class.PartyContest))
    (role.OfFamily family.Contest ∷ role.OfFamily family.Selection ∷ role.Content ∷ []) ≡ Some class.PartyContest ∷ None ∷ None ∷ []
classes_by_role = refl

-- ---- the table

-- a retention contest has the members of a ballot measure contest and those of every contest
contest_kinds : map (kind_of_member class.RetentionContest)
    (codes "CandidateId" ∷ codes "PassageThreshold" ∷ codes "ContestSelection" ∷ codes "OtherCounts" ∷ codes "@id" ∷ codes "@type" ∷ codes "VotesAllowed" ∷ [])
    ≡ kind.One family.Candidate ∷ kind.Label ∷ kind.Keyed family.Selection ∷ kind.Outside ∷ kind.Identity ∷ kind.ClassText ∷ kind.Carried ∷ []
contest_kinds = refl

-- a name of another class is carried, or refused where it ends as a reference's
elsewhere : (kind_of_member class.ReportingUnit (codes "Text") ≡ kind.Carried) × (kind_of_member class.PartySelection (codes "OtherCounts") ≡ kind.Carried)
    × (kind_of_member class.Election (codes "Notes") ≡ kind.Carried) × (kind_of_member class.Election (codes "OfficeGroup") ≡ kind.Carried)
    × (kind_of_member class.Person (codes "VendorApplicationId") ≡ kind.StrangeReference)
    × (kind_of_member class.Party (codes "PartyIds") ≡ kind.StrangeReference)
elsewhere = (refl, refl, refl, refl, refl, refl)

-- a style has an identity, an election and an identifier have none
identities : map (λ c. kind_of_member c (codes "@id")) (class.BallotStyle ∷ class.Election ∷ class.ExternalIdentifier ∷ class.ElectionReport ∷ [])
    ≡ kind.Identity ∷ kind.StrangeIdentity ∷ kind.StrangeIdentity ∷ kind.StrangeIdentity ∷ []
identities = refl

reference_names : map is_reference_name (codes "OwnerIds" ∷ codes "Id" ∷ codes "Ids" ∷ codes "Paid" ∷ codes "Idle" ∷ codes "FooId2" ∷ [])
    ≡ true ∷ true ∷ true ∷ false ∷ false ∷ false ∷ []
reference_names = refl

envelope_names : map is_envelope_name (codes "Notes" ∷ codes "ExternalIdentifier" ∷ codes "Status" ∷ codes "@type" ∷ []) ≡ true ∷ true ∷ false ∷ false ∷ []
envelope_names = refl

abbrev rise : List (List ℕ) → Bool
rise [] = true
rise (x ∷ []) = true
rise (x ∷ y ∷ xs) = is_lt (text_cmp x y) && rise (y ∷ xs)

-- the required names of each class rise, and each is in one of its rows
required_names_rise : list_all (λ c. rise (required_names c)) classes ≡ true
required_names_rise = refl

required_names_listed : list_all (λ c. list_all (λ n. is_some (kind_in_rows (rows_of_class c) n)) (required_names c)) classes ≡ true
required_names_listed = refl

abbrev is_set_of_entries : MemberKind → Bool
is_set_of_entries (kind.Many f) = true
is_set_of_entries kind.Languages = true
is_set_of_entries k = false

-- the required sets of references and of translations, which may not be empty
required_sets : flat_map (λ c. filter (λ n. is_set_of_entries (kind_of_member c n)) (required_names c)) classes
    ≡ codes "PartyIds" ∷ codes "GpUnitIds" ∷ codes "Text" ∷ []
required_sets = refl

-- ---- places and faults

pointers : map pointer_text ([] ∷ (Name (codes "GpUnit") ∷ At 10 ∷ []) ∷ (Name (codes "a/b~c") ∷ []) ∷ (Name [] ∷ At 0 ∷ []) ∷ [])
    ≡ [] ∷ codes "/GpUnit/10" ∷ codes "/a~1b~0c" ∷ codes "//0" ∷ []
unfolding digits
pointers = refl

-- positions by number, names by bytes, a place before its continuations
places_in_order : (place_cmp (At 2 ∷ Name (codes "b") ∷ []) (At 10 ∷ Name (codes "a") ∷ []) ≡ Less)
    × (place_cmp (Name (codes "Z") ∷ []) (Name (codes "a") ∷ []) ≡ Less) × (place_cmp (Name (codes "a/b") ∷ []) (Name (codes "a0") ∷ []) ≡ Less)
    × (place_cmp (Name (codes "GpUnit") ∷ At 0 ∷ []) (Name (codes "GpUnit") ∷ []) ≡ Greater)
places_in_order = (refl, refl, refl, refl)

abbrev fault : List Step → Reason → Fault
fault p r = record { place = p; reason = r }

-- a later reason at an earlier place comes first; then the reason's number; then the member's name
faults_in_order : (fault_cmp (fault [] reason.TwinSelection) (fault (At 0 ∷ []) reason.WrongKind) ≡ Less)
    × (fault_cmp (fault [] (reason.MissingMember (codes "Z"))) (fault [] reason.WrongClassText) ≡ Less)
    × (fault_cmp (fault [] (reason.MissingMember (codes "Election"))) (fault [] (reason.MissingMember (codes "Status"))) ≡ Less)
faults_in_order = (refl, refl, refl)

lines : map fault_line (
    fault (Name (codes "Election") ∷ At 0 ∷ Name (codes "Contest") ∷ At 0 ∷ []) (reason.MissingMember (codes "Name"))
    ∷ fault [] reason.WrongKind ∷ fault (Name (codes "Party") ∷ At 0 ∷ Name (codes "@id") ∷ []) reason.DuplicateId ∷ [])
    ≡ codes "/Election/0/Contest/0: missing member Name" ∷ codes ": wrong kind" ∷ codes "/Party/0/@id: @id used twice" ∷ []
unfolding digits
lines = refl
