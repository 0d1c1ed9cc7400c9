-- The tree as it is written: objects and selections are found by their positions, in the order of their keys and names, and not
-- in the members that hold them. It does not define the profile: `WrittenViews` proves that it is the view of `View` in the
-- canonical style, for an accepted report.
use Rattle.std.specs.Prelude.{ℕ, ◌+◌, List, [], ◌∷◌, Bool, true, false, if◌then◌else◌, Option, Some, None, map, codes}
use Rattle.std.specs.List.{slice_get}
use Rattle.std.specs.Option.{option_map_or}
use Rattle.serde_json.specs.Data.{Data}
use Rattle.erd_tables.specs.Table.{is_envelope_name}
use Rattle.erd_tables.specs.declared.class.Family.{Family}
use Rattle.erd_tables.specs.declared.class.Family.TheVariants as family
use Rattle.erd_tables.specs.declared.class.Role.TheVariants as role
use Rattle.erd_tables.specs.declared.member.MemberKind.{MemberKind}
use Rattle.erd_tables.specs.declared.member.MemberKind.TheVariants as kind
use Rattle.erd_check.specs.Values.{entries_at}
use Rattle.erd_check.specs.Wants.{class_of_object}
use Rattle.erd_meaning.specs.Keys.{Preference, key_of}
use Rattle.erd_meaning.specs.Lookups.{rank_of}
use Rattle.erd_meaning.specs.Objects.{contests}
use Rattle.erd_meaning.specs.Records.{unless_empty}
use Rattle.erd_meaning.specs.SelectionNames.{selection_role}
use Rattle.erd_text.specs.RisingLists.{rising_list}
use Rattle.erd_normal.specs.Canonical.{canonical_selection_id}
use Rattle.erd_normal.specs.code.ElectionObjects.{objects_in_election, rising_elections}
use Rattle.erd_normal.specs.code.NormalTree.{array_of, by_name, id_of_key, normal_content, normal_object_with, normal_value, with_id}

-- What each entry becomes with its rank, counted from n.
abbrev pub map_from : {A B : Type 0} → (ℕ → A → B) → ℕ → List A → List B
map_from f n [] = []
map_from f n (x ∷ xs) = f n x ∷ map_from f (n + 1) xs

-- ---- objects of the report t

-- The selection with rank m of the contest.
abbrev pub written_selection : Preference → Data → Data → ℕ → Data → Data
written_selection π t contest m d =
    with_id (Some (canonical_selection_id (rank_of π t family.Contest (key_of π contest)) m))
    (normal_object_with (λ name k v. normal_value π t k v) (class_of_object selection_role d) d)

-- The selections of the contest, in the order of their names.
abbrev pub written_in_contest : Preference → Data → Data → List Data
written_in_contest π t contest = map_from (written_selection π t contest) 0 (rising_list (by_name π t) (entries_at (codes "ContestSelection") contest))

-- Those of the contest at position i, or none if there is no such contest.
abbrev pub written_selections : Preference → Data → ℕ → List Data
written_selections π t i = option_map_or (λ o. written_in_contest π t o.value) (slice_get (contests t) i) []

-- True for the members of an object that hold its content or its selections.
abbrev pub holds_objects : MemberKind → Bool
holds_objects kind.Content = true
holds_objects (kind.Keyed family.Selection) = true
holds_objects k = false

-- A member of the object of a family at position i. In a contest, this includes the selections.
abbrev pub written_object_value : Preference → Data → ℕ → MemberKind → Data → Option Data
written_object_value π t i (kind.Keyed family.Selection) d = unless_empty (array_of (written_selections π t i)) d
written_object_value π t i kind.Content d = unless_empty (normal_content π t d) d
written_object_value π t i k d = normal_value π t k d

-- The object of one of the first eight families, at position i.
abbrev pub written_object : Preference → Data → Family → ℕ → Data → Data
written_object π t f i d =
    with_id (id_of_key π t f (key_of π d)) (normal_object_with (λ name k v. written_object_value π t i k v) (class_of_object (role.OfFamily f) d) d)

-- The objects of a family in the election at this position, in the order of their keys. Those that the report itself holds are at
-- position 0.
abbrev pub written_objects : Preference → Data → Family → ℕ → List Data
written_objects π t f election = map (λ o. written_object π t f o.0 o.1.value) (objects_in_election π t f election)

-- ---- the elections and the report

-- A member of the election at this position.
abbrev pub written_election_value : Preference → Data → ℕ → MemberKind → Data → Option Data
written_election_value π t election (kind.Keyed f) d = unless_empty (array_of (written_objects π t f election)) d
written_election_value π t election k d = normal_value π t k d

-- The election at this position.
abbrev pub written_election : Preference → Data → ℕ → Data → Data
written_election π t election d = normal_object_with (λ name k v. written_election_value π t election k v) (class_of_object role.Election d) d

-- The elections, in the order of their keys.
abbrev pub written_elections : Preference → Data → List Data
written_elections π t = map (λ e. written_election π t e.0 e.1.value) (rising_elections π t)

-- A member of the report.
abbrev pub written_report_value : Preference → Data → List ℕ → MemberKind → Data → Option Data
written_report_value π t name (kind.Keyed f) d = unless_empty (array_of (written_objects π t f 0)) d
written_report_value π t name kind.Elections d = Some (array_of (written_elections π t))
written_report_value π t name k d = if is_envelope_name name then None else normal_value π t k d
