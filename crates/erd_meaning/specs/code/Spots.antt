-- The place of an object, given the positions that the program keeps of it.
use Rattle.std.specs.Prelude.{ℕ, List, [], ◌∷◌, ◌++◌, codes}
use Rattle.erd_tables.specs.declared.class.Family.{Family}
use Rattle.erd_tables.specs.declared.class.Family.TheVariants as family
use Rattle.erd_tables.specs.declared.place.Step.{Step}
use Rattle.erd_tables.specs.declared.place.Step.TheVariants.{Name, At}
use Rattle.erd_meaning.specs.declared.objects.spot.Spot.{Spot}

-- The name of the member in which the objects of the family stand.
abbrev pub member_name : Family → List ℕ
member_name family.Unit = codes "GpUnit"
member_name family.Party = codes "Party"
member_name family.Person = codes "Person"
member_name family.Office = codes "Office"
member_name family.Header = codes "Header"
member_name family.Candidate = codes "Candidate"
member_name family.Contest = codes "Contest"
member_name family.Style = codes "BallotStyle"
member_name family.Selection = codes "ContestSelection"

-- The place of the election at the position.
abbrev pub election_place : ℕ → List Step
election_place i = Name (codes "Election") ∷ At i ∷ []

-- The place of the value that has the object in one of its arrays: the report, an election or a contest.
abbrev pub owner_place : Family → Spot → List Step
owner_place family.Unit s = []
owner_place family.Party s = []
owner_place family.Person s = []
owner_place family.Office s = []
owner_place family.Header s = []
owner_place family.Candidate s = election_place s.election
owner_place family.Contest s = election_place s.election
owner_place family.Style s = election_place s.election
owner_place family.Selection s = (election_place s.election ++ Name (codes "Contest") ∷ []) ++ At s.contest ∷ []

-- The place of the array that has the object.
abbrev pub array_place : Family → Spot → List Step
array_place f s = owner_place f s ++ Name (member_name f) ∷ []

-- The place of the object.
abbrev pub object_place : Family → Spot → List Step
object_place f s = array_place f s ++ At s.entry ∷ []
