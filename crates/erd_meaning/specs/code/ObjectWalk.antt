-- The elections and the objects of a report in the order of their places, as the program walks them, with the faults of
-- identity that it reports on the way. They do not define the profile: `IdentityFaults` proves that the objects are those of
-- `objects`, and the faults those of `IdentityFault`.
use Rattle.std.specs.Prelude.{ℕ, List, [], ◌∷◌, ◌++◌, Bool, false, ◌&&◌, ◌==◌, if◌then◌else◌, Option, Some, None, map, codes, is_none, filter_map, flat_map}
use Rattle.std.specs.List.{list_any}
use Rattle.std.specs.Ordering.{is_eq}
use Rattle.std.specs.Str.{bytes_eq}
use Rattle.serde_json.specs.Data.{Data}
use Rattle.erd_tables.specs.Classes.{family_number}
use Rattle.erd_tables.specs.declared.class.Family.{Family}
use Rattle.erd_tables.specs.declared.class.Family.TheVariants as family
use Rattle.erd_tables.specs.declared.fault.Fault.{Fault}
use Rattle.erd_tables.specs.declared.fault.Reason.TheVariants.{NoIdentifier, TwinIdentifier, DuplicateId}
use Rattle.erd_tables.specs.declared.place.Step.{Step}
use Rattle.erd_tables.specs.declared.place.Step.TheVariants.{Name}
use Rattle.erd_check.specs.Paths.{fault_at}
use Rattle.erd_meaning.specs.Keys.{Preference, has_keys, key_cmp, key_of, key_of_family_object}
use Rattle.erd_meaning.specs.Objects.{Placed, election_of_place, elections, has_several, id_of, placed_entries, report_of, selections_of_contest}
use Rattle.erd_meaning.specs.declared.keys.key.Key.{Key}

-- ---- objects

-- The position of the election that has an object of the family in one of its arrays, by the place of the object, or none. A
-- selection stands in its contest instead.
abbrev pub holder_at : Family → List Step → Option ℕ
holder_at family.Selection p = None
holder_at f p = election_of_place p

-- What the program keeps of an object for its look-ups (its struct `Object`): the family, the value, the key if the family
-- has keys, the `@id`, and the position of the election that has it in one of its arrays.
pub record Kept : Type 0 where
  pub family : Family
  pub value : Data
  pub key : Option Key
  pub id : Option (List ℕ)
  pub election : Option ℕ

-- What is kept of an object of the family.
abbrev pub kept : Preference → Family → Placed → Kept
kept π f o = record { family = f; value = o.value; key = key_of_family_object π f o.value; id = id_of o.value; election = holder_at f o.place }

-- What the walk meets: an object with what is kept of it, or an election with its key and whether it needs one.
pub data Met : Type 0 where
  an_object : Kept → Met
  an_election : Bool → Option Key → Met

-- What is met, and its place. A value with its place is a `Placed`.
pub record Located : Type 0 where
  pub place : List Step
  pub met : Met

-- An object of a family at its place.
abbrev pub located_one : Preference → Family → Placed → Located
located_one π f o = record { place = o.place; met = an_object (kept π f o) }

-- An election at its place. The flag says whether elections need keys.
abbrev pub located_election : Preference → Bool → Placed → Located
located_election π needed e = record { place = e.place; met = an_election needed (key_of π e.value) }

-- Objects of one family at their places.
abbrev pub located : Preference → Family → List Placed → List Located
located π f os = map (located_one π f) os

-- A contest, and then its selections.
abbrev pub contest_located : Preference → Placed → List Located
contest_located π o = located_one π family.Contest o ∷ located π family.Selection (selections_of_contest o)

-- The objects of an election.
abbrev pub inside_election : Preference → Placed → List Located
inside_election π e =
    located π family.Style (placed_entries (codes "BallotStyle") e)
    ++ (located π family.Candidate (placed_entries (codes "Candidate") e) ++ flat_map (contest_located π) (placed_entries (codes "Contest") e))

-- An election, and then its objects.
abbrev pub election_located : Preference → Bool → Placed → List Located
election_located π needed e = located_election π needed e ∷ inside_election π e

-- The objects of a report that are outside its elections.
abbrev pub shared_located : Preference → Placed → List Located
shared_located π r =
    located π family.Unit (placed_entries (codes "GpUnit") r) ++ (located π family.Header (placed_entries (codes "Header") r)
    ++ (located π family.Office (placed_entries (codes "Office") r)
    ++ (located π family.Party (placed_entries (codes "Party") r) ++ located π family.Person (placed_entries (codes "Person") r))))

-- The elections and the objects of a report, in the order of their places.
abbrev pub all_located : Preference → Data → List Located
all_located π t = flat_map (election_located π (has_several t)) (elections t) ++ shared_located π (report_of t)

-- What is kept of the object that was met, or none for an election.
abbrev pub object_met : Met → Option Kept
object_met (an_object k) = Some k
object_met (an_election needed key) = None

-- The key of the election that was met, or none for an object.
abbrev pub election_met : Met → Option (Option Key)
election_met (an_object k) = None
election_met (an_election needed key) = Some key

-- The objects among what was met.
abbrev pub objects_among : List Met → List Kept
objects_among ms = filter_map object_met ms

-- The keys of the elections among what was met.
abbrev pub elections_among : List Met → List (Option Key)
elections_among ms = filter_map election_met ms

-- All that is met in a report.
abbrev pub all_met : Preference → Data → List Met
all_met π t = map (λ x. x.met) (all_located π t)

-- What is kept of the objects of a report.
abbrev pub kept_objects : Preference → Data → List Kept
kept_objects π t = objects_among (all_met π t)

-- The keys of the elections of a report.
abbrev pub election_keys : Preference → Data → List (Option Key)
election_keys π t = map (λ e. key_of π e.value) (elections t)

-- ---- faults

-- True if both keys are there and they are equal.
abbrev pub same_key : Option Key → Option Key → Bool
same_key (Some a) (Some b) = is_eq (key_cmp a b)
same_key a b = false

-- True if both `@id` texts are there and they are equal.
abbrev pub same_id : Option (List ℕ) → Option (List ℕ) → Bool
same_id (Some a) (Some b) = bytes_eq a b
same_id a b = false

-- True if the two objects are of one family and have the same key.
abbrev pub has_same_key : Kept → Kept → Bool
has_same_key a b = (family_number a.family == family_number b.family) && same_key a.key b.key

-- True if the two objects have the same `@id`.
abbrev pub has_same_id : Kept → Kept → Bool
has_same_id a b = same_id a.id b.id

-- The fault if the test holds, and otherwise nothing.
abbrev pub fault_if : Bool → Fault → List Fault
fault_if b f = if b then f ∷ [] else []

-- The faults of an object that lacks a key, that has the key of an earlier one, or that has the `@id` of an earlier one.
abbrev pub faults_told : Bool → Bool → Bool → List Step → List Fault
faults_told lacks_key has_key has_id p =
    fault_if lacks_key (fault_at p NoIdentifier)
    ++ (fault_if has_key (fault_at p TwinIdentifier) ++ fault_if has_id (fault_at (p ++ Name (codes "@id") ∷ []) DuplicateId))

-- True if what is met needs a key and has none.
abbrev pub is_keyless : Met → Bool
is_keyless (an_object k) = has_keys k.family && is_none k.key
is_keyless (an_election needed key) = needed && is_none key

-- True for two objects of one family, or two elections, that have the same key.
abbrev pub are_twins : Met → Met → Bool
are_twins (an_object a) (an_object b) = has_same_key a b
are_twins (an_election n a) (an_election m b) = same_key a b
are_twins a b = false

-- True for two objects that have the same `@id`.
abbrev pub are_named_alike : Met → Met → Bool
are_named_alike (an_object a) (an_object b) = has_same_id a b
are_named_alike a b = false

-- The faults of what is met, given what was met before.
abbrev pub faults_after : List Met → List Step → Met → List Fault
faults_after earlier p m = faults_told (is_keyless m) (list_any (are_twins m) earlier) (list_any (are_named_alike m) earlier) p

-- ---- the walk

-- How far the walk has come: what is kept of the objects met so far, the keys of the elections, and the faults.
pub record ObjectsMet : Type 0 where
  pub objects : List Kept
  pub elections : List (Option Key)
  pub faults : List Fault

-- The state of the walk after one more object.
abbrev pub with_object : ObjectsMet → List Step → Kept → ObjectsMet
with_object m p k = record {
  objects = m.objects ++ k ∷ [];
  elections = m.elections;
  faults = m.faults ++ faults_told (has_keys k.family && is_none k.key) (list_any (has_same_key k) m.objects) (list_any (has_same_id k) m.objects) p;
}

-- The state of the walk after one more election.
abbrev pub with_election : ObjectsMet → List Step → Bool → Option Key → ObjectsMet
with_election m p needed key = record {
  objects = m.objects;
  elections = m.elections ++ key ∷ [];
  faults = m.faults ++ faults_told (needed && is_none key) (list_any (same_key key) m.elections) false p;
}

-- The state of the walk after one more object or election.
abbrev pub with_met : ObjectsMet → List Step → Met → ObjectsMet
with_met m p (an_object k) = with_object m p k
with_met m p (an_election needed key) = with_election m p needed key

abbrev pub met_one : ObjectsMet → Located → ObjectsMet
met_one m x = with_met m x.place x.met

-- Before anything was met.
abbrev pub nothing_met : ObjectsMet
nothing_met = record { objects = []; elections = []; faults = [] }

-- The state of the walk after these, one after another.
abbrev pub met_all : ObjectsMet → List Located → ObjectsMet
met_all m [] = m
met_all m (x ∷ xs) = met_all (met_one m x) xs
