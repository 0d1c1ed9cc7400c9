-- What ballots print, or may print, of an object. docs/PROFILE.md ("What a voter sees") has the same
-- table, and says why the other members are not in it. All of this is the profile's own.
use Rattle.std.specs.Prelude.{ℕ, List, [], ◌∷◌, Bool, ◌||◌, if◌then◌else◌, Option, Some, None, map, option_and_then, slice_get, codes}
use Rattle.std.specs.List.{list_any}
use Rattle.std.specs.Option.{option_cmp, option_map_or}
use Rattle.std.specs.Str.{bytes_eq}
use Rattle.serde_json.specs.Data.{Data, null, object}
use Rattle.serde_json.specs.Find.{as_str}
use Rattle.serde_json.specs.Written.{compact_text}
use Rattle.erd_tables.specs.declared.class.Class.{Class}
use Rattle.erd_tables.specs.declared.class.Class.TheVariants as class
use Rattle.erd_tables.specs.declared.class.Family.{Family}
use Rattle.erd_tables.specs.declared.class.Family.TheVariants as family
use Rattle.erd_tables.specs.declared.class.Role.TheVariants as role
use Rattle.erd_check.specs.Wants.{class_of_object}
use Rattle.erd_text.specs.RisingLists.{rising_list}
use Rattle.erd_meaning.specs.Keys.{Preference}
use Rattle.erd_meaning.specs.Objects.{objects, owner}
use Rattle.erd_meaning.specs.SelectionNames.{name_cmp, name_of}
use Rattle.erd_shown.specs.Ballots.{lines_of}
use Rattle.erd_shown.specs.ContentData.{is_carried, members_in}
use Rattle.erd_shown.specs.KeyData.{array_of}
use Rattle.erd_shown.specs.ListedNames.{listed_at, lists_selections, selections_on}
use Rattle.erd_shown.specs.Shown.{shown_members, shown_plain}

-- The members of a contest of any class.
abbrev pub contest_words : List (List ℕ)
contest_words =
    codes "Name" ∷ codes "BallotTitle" ∷ codes "BallotSubTitle" ∷ codes "VoteVariation" ∷ codes "OtherVoteVariation" ∷ codes "HasRotation"
    ∷ codes "Abbreviation" ∷ codes "ElectionDistrictId" ∷ []

-- The members of a contest about a measure.
abbrev pub measure_words : List (List ℕ)
measure_words =
    codes "SummaryText" ∷ codes "FullText" ∷ codes "ProStatement" ∷ codes "ConStatement" ∷ codes "EffectOfAbstain" ∷ codes "PassageThreshold"
    ∷ codes "Type" ∷ codes "OtherType" ∷ contest_words

-- The members of an object of the class that ballots print, or may print. The selections of a contest are told by their names.
abbrev pub printed_members : Class → List (List ℕ)
printed_members class.ReportingUnit = codes "Name" ∷ codes "Number" ∷ codes "Type" ∷ codes "OtherType" ∷ codes "ComposingGpUnitIds" ∷ []
printed_members class.Party = codes "Name" ∷ codes "Abbreviation" ∷ codes "Slogan" ∷ []
printed_members class.Coalition = codes "Name" ∷ codes "Abbreviation" ∷ codes "Slogan" ∷ codes "ContestId" ∷ codes "ContestIds" ∷ codes "PartyIds" ∷ []
printed_members class.Person =
    codes "FullName" ∷ codes "FirstName" ∷ codes "LastName" ∷ codes "Title" ∷ codes "Profession" ∷ codes "PartyId" ∷ []
printed_members class.Office = codes "Name" ∷ codes "Description" ∷ codes "ElectionDistrictId" ∷ codes "IsPartisan" ∷ []
printed_members class.Header = codes "Name" ∷ []
printed_members class.Election =
    codes "Name" ∷ codes "StartDate" ∷ codes "EndDate" ∷ codes "Type" ∷ codes "OtherType" ∷ codes "ElectionScopeId" ∷ []
printed_members class.Candidate =
    codes "BallotName" ∷ codes "PartyId" ∷ codes "CampaignSlogan" ∷ codes "IsIncumbent" ∷ codes "IsTopTicket" ∷ codes "PersonId"
    ∷ codes "PreElectionStatus" ∷ []
printed_members class.PartyContest = contest_words
printed_members class.CandidateContest =
    codes "VotesAllowed" ∷ codes "PrimaryPartyIds" ∷ codes "NumberElected" ∷ codes "OfficeIds" ∷ contest_words
printed_members class.BallotMeasureContest = measure_words
printed_members class.RetentionContest = codes "CandidateId" ∷ codes "OfficeId" ∷ measure_words
printed_members class.CandidateSelection =
    codes "SequenceOrder" ∷ codes "CandidateIds" ∷ codes "EndorsementPartyIds" ∷ codes "IsWriteIn" ∷ []
printed_members class.BallotMeasureSelection = codes "SequenceOrder" ∷ codes "Selection" ∷ []
printed_members class.PartySelection = codes "SequenceOrder" ∷ codes "PartyIds" ∷ []
printed_members c = []

-- True if ballots print, or may print, a member with this name of an object of the class. A carried member may be printed.
abbrev pub is_word : Class → List ℕ → Bool
is_word c name = list_any (bytes_eq name) (printed_members c) || is_carried (Some c) name

-- What a member of an object of the class says on ballots, or none.
abbrev pub word_value : Preference → Data → Class → List ℕ → Data → Option Data
word_value π t c name d = if is_word c name then shown_plain π t c name d else None

-- What ballots print of an object of the class, with keys in place of references.
abbrev pub words_in_class : Preference → Data → Class → Data → Data
words_in_class π t c d = object (shown_members (word_value π t c) (members_in d))

-- The same of an object of the family, or null if its class is not of the family.
abbrev pub words_data : Preference → Data → Family → Data → Data
words_data π t f d = option_map_or (λ c. words_in_class π t c d) (class_of_object (role.OfFamily f) d) null

-- Its compact text.
abbrev pub words_text : Preference → Data → Family → Data → List ℕ
words_text π t f d = compact_text (words_data π t f d)

-- The same of the object of the family that a reference names, or null.
abbrev pub words_at_reference : Preference → Data → Family → Data → Data
words_at_reference π t f r = option_map_or (words_data π t f) (option_and_then (owner t f) (as_str r)) null

-- Selections in the rising order of their names.
abbrev pub in_name_order : Preference → Data → List Data → List Data
in_name_order π t ds = rising_list (λ a b. option_cmp name_cmp (name_of π t a) (name_of π t b)) ds

-- What ballots print of the selections of a contest on a ballot: those that it lists, in their order, or if it lists none all of
-- the contest, in the rising order of their names.
abbrev pub selection_words : Preference → Data → Data → Data
selection_words π t d =
    if lists_selections d
    then array_of (map (words_at_reference π t family.Selection) (listed_at d))
    else array_of (map (words_data π t family.Selection) (in_name_order π t (selections_on t d)))

-- The same of each line of a ballot.
abbrev pub printed_selections : Preference → Data → Data → Data
printed_selections π t d = array_of (map (λ l. selection_words π t l.1) (lines_of d))

-- The same by position, or null.
abbrev pub selections_in : Preference → Data → ℕ → Data
selections_in π t i = option_map_or (λ o. printed_selections π t o.value) (slice_get (objects family.Style t) i) null
