-- The objects of a part by position and by rank, and the least key at which two reports differ there.
use Rattle.std.specs.Prelude.{◌≡◌, ◌==◌, ℕ, List, [], ◌∷◌, map, if◌then◌else◌, Bool, true, Option, Some, None, option_and_then}
use Rattle.std.specs.List.{slice_get}
use Rattle.std.specs.Option.{option_cmp, option_copied}
use Rattle.serde_json.specs.Data.{Data}
use Rattle.serde_json.specs.View.{view}
use Rattle.erd_tables.specs.declared.class.Family.TheVariants as family
use Rattle.erd_tables.specs.declared.class.Role.{Role}
use Rattle.erd_tables.specs.declared.class.Role.TheVariants as role
use Rattle.erd_meaning.specs.Accepted.{IsAccepted}
use Rattle.erd_meaning.specs.Judged.{Judged}
use Rattle.erd_meaning.specs.Keys.{Preference, has_keys, is_keyed_role, key_cmp, key_of}
use Rattle.erd_meaning.specs.Lookups.{election_in, election_key_in, key_in}
use Rattle.erd_meaning.specs.Objects.{IsBounded, Placed, elections, objects, report_of}
use Rattle.erd_meaning.specs.Records.{meaning}
use Rattle.erd_text.specs.RisingLists.{rising_list}
use Rattle.erd_meaning.specs.declared.keys.key.Key.{Key}
use Rattle.erd_compare.specs.code.Comparing.{DifferAtKey, IsWholeTree, RecordMap}
use Rattle.erd_compare.specs.code.DifferingWays.{AreWays, hows_of}
use Rattle.erd_compare.specs.Differences.{first_of, record_at}
use Rattle.erd_compare.specs.declared.difference.How.{How}
use Rattle.erd_compare.specs.declared.difference.Part.{Part}
use Rattle.erd_compare.specs.declared.difference.Part.TheVariants as part
use Rattle.erd_compare.specs.declared.first.keyed_ways.KeyedWays.{KeyedWays}
use Rattle.erd_compare.specs.declared.objects.ways.Ways.{Ways}

-- The report is accepted, a machine word can count its objects, and it is a tree whose numbers are whole.
pub record IsComparable (π : Preference) (t : Data) : Type 0 where
  pub accepted : IsAccepted π t
  pub bounded : IsBounded t
  pub whole : IsWholeTree t

-- ---- objects by role and position

-- The role of the objects in the part.
abbrev pub role_of_part : Part → Role
role_of_part part.Report = role.Report
role_of_part part.Unit = role.OfFamily family.Unit
role_of_part part.Party = role.OfFamily family.Party
role_of_part part.Person = role.OfFamily family.Person
role_of_part part.Office = role.OfFamily family.Office
role_of_part part.Header = role.OfFamily family.Header
role_of_part part.Election = role.Election
role_of_part part.Candidate = role.OfFamily family.Candidate
role_of_part part.Contest = role.OfFamily family.Contest
role_of_part part.Style = role.OfFamily family.Style

-- The objects with the role: those of a family, the elections, or for any other role the report itself.
abbrev pub objects_in : Role → Data → List Placed
objects_in (role.OfFamily f) t = objects f t
objects_in role.Election t = elections t
objects_in r t = report_of t ∷ []

-- The key of an object with the role, or none if it has no identifier. The report has no key.
abbrev pub key_with_role : Preference → Role → Data → Option Key
key_with_role π r d = if is_keyed_role r then key_of π d else None

-- The keys of the objects with the role, in the order of the report.
abbrev pub keys_in_role : Preference → Data → Role → List (Option Key)
keys_in_role π t r = map (λ o. key_with_role π r o.value) (objects_in r t)

-- The key of the object with the role at the position, or none if there is no such object or it has no key.
abbrev pub key_in_role : Preference → Role → Data → ℕ → Option Key
key_in_role π (role.OfFamily f) t i = key_in π f t i
key_in_role π role.Election t i = election_key_in π t i
key_in_role π r t i = None

-- The position of the election that holds the object with the role at the position, or none if no election holds it.
abbrev pub holder_in : Role → Data → ℕ → Option ℕ
holder_in (role.OfFamily f) t i = election_in f t i
holder_in r t i = None

-- The key of the election that holds the object with the role at the position, or none if no election holds it or that
-- election has no key.
abbrev pub holder_key_in : Preference → Role → Data → ℕ → Option Key
holder_key_in π (role.OfFamily f) t i = option_and_then (election_key_in π t) (election_in f t i)
holder_key_in π r t i = None

-- There is an object with the role at the position, and this is its key, if it has one.
pub record HasKeyAt (π : Preference) (t : Data) (r : Role) (i : ℕ) (k : Option Key) : Type 0 where
  pub object : Placed
  pub stands : slice_get (objects_in r t) i ≡ Some object
  pub key : key_with_role π r object.value ≡ k

-- ---- objects by rank

-- True for a role whose objects have different keys in an accepted report: any role but that of the selections.
abbrev pub is_ranked : Role → Bool
is_ranked (role.OfFamily f) = has_keys f
is_ranked r = true

-- The keys of the objects with the role, in rising order.
abbrev pub rising_in_role : Preference → Data → Role → List (Option Key)
rising_in_role π t r = rising_list (option_cmp key_cmp) (keys_in_role π t r)

-- The two positions, if both are there and the common rank is the rank.
abbrev pub shared : Option ℕ → Option ℕ → Option ℕ → ℕ → Option (ℕ × ℕ)
shared (Some i) (Some j) (Some common) rank = if common == rank then Some (i, j) else None
shared i j common rank = None

-- ---- differences

-- What a report means at the keys of a part.
abbrev pub map_of : Judged → Part → RecordMap
map_of a p = record_at (meaning a.prefer (view a.tree)) p

-- If the objects of the part at the two positions have the same key, these are the ways in which their records differ.
abbrev pub TellsAtPositions : Bool → Judged → Judged → Part → ℕ → ℕ → Ways → Type 0
TellsAtPositions all a b p i j ways =
    (k : Option Key) → HasKeyAt a.prefer (view a.tree) (role_of_part p) i k → HasKeyAt b.prefer (view b.tree) (role_of_part p) j k
    → AreWays all (map_of a p k) (map_of b p k) ways

-- The key is the least at which the two maps differ, and this is how, if there is a way.
abbrev pub TellsLeastAt : RecordMap → RecordMap → Option Key → Option How → Type 0
TellsLeastAt m n k None = ⊥
TellsLeastAt m n k (Some how) = DifferAtKey m n k how

-- The answer is the least key at which the two maps differ, with the first way, or none if they agree at every key.
abbrev pub TellsLeast : RecordMap → RecordMap → Option KeyedWays → Type 0
TellsLeast m n None = (k : Option Key) → m k ≡ n k
TellsLeast m n (Some d) = TellsLeastAt m n (option_copied d.key) (first_of (hows_of d.ways))
