-- The objects of a report by family, with their places, and the object that an `@id` names.
use Rattle.std.specs.Prelude.{ℕ, ◌+◌, ◌<◌, ◌^◌, List, [], ◌∷◌, ◌++◌, Bool, false, if◌then◌else◌, nat_lt, Option, Some, None, option_and_then, option_map}
use Rattle.std.specs.Prelude.{is_some, find, length, map, codes, Contains}
use Rattle.std.specs.List.{enumerate_from, flat_map, list_any}
use Rattle.std.specs.Option.{option_map_or}
use Rattle.std.specs.Str.{bytes_eq}
use Rattle.serde_json.specs.Data.{Data}
use Rattle.serde_json.specs.Find.{get, as_str}
use Rattle.erd_tables.specs.Classes.{families}
use Rattle.erd_tables.specs.declared.class.Family.{Family}
use Rattle.erd_tables.specs.declared.class.Family.TheVariants as family
use Rattle.erd_tables.specs.declared.class.Role.{Role}
use Rattle.erd_tables.specs.declared.class.Role.TheVariants as role
use Rattle.erd_tables.specs.declared.place.Step.{Step}
use Rattle.erd_tables.specs.declared.place.Step.TheVariants.{Name, At}
use Rattle.erd_check.specs.Values.{entries_at}
use Rattle.erd_meaning.specs.Keys.{has_keys}

-- ---- where objects stand

-- A value of the report, such as an object, and its place.
pub record Placed : Type 0 where
  pub place : List Step
  pub value : Data

-- The values in the list, each with its place in the array at this place. The first stands at position i.
abbrev pub placed_from : List Step → ℕ → List Data → List Placed
placed_from p i [] = []
placed_from p i (d ∷ ds) = record { place = p ++ At i ∷ []; value = d } ∷ placed_from p (i + 1) ds

-- The entries of the array in this member, each with its place.
abbrev pub placed_entries : List ℕ → Placed → List Placed
placed_entries name o = placed_from (o.place ++ Name name ∷ []) 0 (entries_at name o.value)

-- The report itself, at the root.
abbrev pub report_of : Data → Placed
report_of t = record { place = []; value = t }

-- The elections of a report. (class ElectionReport)
abbrev pub elections : Data → List Placed
elections t = placed_entries (codes "Election") (report_of t)

-- The contests of all elections of a report. (class Election)
abbrev pub contests : Data → List Placed
contests t = flat_map (placed_entries (codes "Contest")) (elections t)

-- The selections of a contest. (class Contest)
abbrev pub selections_of_contest : Placed → List Placed
selections_of_contest contest = placed_entries (codes "ContestSelection") contest

-- The objects of a family, in the order of their places. (classes ElectionReport, Election and Contest)
abbrev pub objects : Family → Data → List Placed
objects family.Unit t = placed_entries (codes "GpUnit") (report_of t)
objects family.Party t = placed_entries (codes "Party") (report_of t)
objects family.Person t = placed_entries (codes "Person") (report_of t)
objects family.Office t = placed_entries (codes "Office") (report_of t)
objects family.Header t = placed_entries (codes "Header") (report_of t)
objects family.Candidate t = flat_map (placed_entries (codes "Candidate")) (elections t)
objects family.Contest t = contests t
objects family.Style t = flat_map (placed_entries (codes "BallotStyle")) (elections t)
objects family.Selection t = flat_map selections_of_contest (contests t)

-- True if the report has more than one election.
abbrev pub has_several : Data → Bool
has_several t = nat_lt 1 (length (elections t))

-- The objects with the role, if it is that of a family or of elections, and no objects for any other role.
abbrev pub objects_with_role : Role → Data → List Placed
objects_with_role (role.OfFamily f) t = objects f t
objects_with_role role.Election t = elections t
objects_with_role r t = []

-- True if each object with the role needs a key. Those of families with keys do, and elections do if there are several.
-- (profile)
abbrev pub needs_key : Data → Role → Bool
needs_key t (role.OfFamily f) = has_keys f
needs_key t role.Election = has_several t
needs_key t r = false

-- The position of the election at or inside which the place lies, or none if it lies in no election. (class Election)
abbrev pub election_of_place : List Step → Option ℕ
election_of_place (Name n ∷ At i ∷ p) = if bytes_eq n (codes "Election") then Some i else None
election_of_place p = None

-- The value, with its place, is an object of the family in the report.
abbrev pub IsObject : Data → Family → Placed → Type 0
IsObject t f o = Contains (objects f t) o

-- Each family has fewer than 2^64 objects, so that a machine word can count them.
pub record IsBounded (t : Data) : Type 0 where
  pub few : (f : Family) → length (objects f t) < 2 ^ 64

-- The selections of a contest, each with the number of the contest.
abbrev pub numbered_selections_of : ℕ × Placed → List (ℕ × Placed)
numbered_selections_of contest = map (λ o. (contest.0, o)) (selections_of_contest contest.1)

-- The selections of a report, each with the position of its contest among the contests.
abbrev pub numbered_selections : Data → List (ℕ × Placed)
numbered_selections t = flat_map numbered_selections_of (enumerate_from 0 (contests t))

-- ---- what an `@id` names

-- The text of an object's `@id`, or none if it has no such text. (the standard's rule of references)
abbrev pub id_of : Data → Option (List ℕ)
id_of d = option_and_then as_str (get (codes "@id") d)

-- True if the `@id` of the object is this text.
abbrev pub has_id : List ℕ → Data → Bool
has_id id d = option_map_or (bytes_eq id) (id_of d) false

-- The first object of the family with this `@id`, and its place, or none. A report without faults of identity has at most
-- one.
abbrev pub owner_at : Data → Family → List ℕ → Option Placed
owner_at t f id = find (λ o. has_id id o.value) (objects f t)

-- The object of the family that the reference names, or none. (the standard's rule of references)
abbrev pub owner : Data → Family → List ℕ → Option Data
owner t f id = option_map (λ o. o.value) (owner_at t f id)

-- True if some object of the nine families has this `@id`.
abbrev pub is_owned : Data → List ℕ → Bool
is_owned t id = list_any (λ f. is_some (owner t f id)) families
