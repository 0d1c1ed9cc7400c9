-- The laws of the canonical form, as statements: it exists and is unique, a rearranged report has the same one, and preferences
-- agree.
use Rattle.std.specs.Prelude.{ℕ, ◌≡◌, ◌↔◌, List, Option, Some, map, IsTrue, Contains}
use Rattle.serde_json.specs.Data.{Data}
use Rattle.erd_tables.specs.declared.class.Family.{Family}
use Rattle.erd_tables.specs.declared.class.Family.TheVariants as family
use Rattle.erd_tables.specs.declared.class.Role.TheVariants as role
use Rattle.erd_tables.specs.declared.member.MemberKind.TheVariants as kind
use Rattle.erd_tables.specs.declared.place.Step.{Step}
use Rattle.erd_check.specs.Numbers.{HasFittingNumbers}
use Rattle.erd_check.specs.Trees.{IsNoDeeper, IsTree}
use Rattle.erd_check.specs.Values.{entries_of}
use Rattle.erd_check.specs.Wants.{Asked, asked_at}
use Rattle.erd_meaning.specs.Accepted.{IsAccepted}
use Rattle.erd_meaning.specs.Keys.{Preference, has_keys, key_of}
use Rattle.erd_meaning.specs.NameParts.{NameParts}
use Rattle.erd_meaning.specs.Objects.{Placed, contests, elections, objects, selections_of_contest, IsObject, IsBounded, id_of}
use Rattle.erd_meaning.specs.Records.{content_of, key_set, object_record, selection_record, meaning}
use Rattle.erd_meaning.specs.SelectionNames.{name_of, key_named, keys_named}
use Rattle.erd_meaning.specs.declared.keys.key.Key.{Key}
use Rattle.erd_normal.specs.Canonical.{kind_wanted, IsCanonical, IsCanonicalFormOf}
use Rattle.erd_normal.specs.Rearranged.{Change, IsRearrangement}

-- Both trees are canonical, and they mean the same.
pub record MeanAlike (π : Preference) (t u : Data) : Type 0 where
  pub left_tree : IsTree t
  pub right_tree : IsTree u
  pub left : IsCanonical π t
  pub right : IsCanonical π u
  pub same : meaning π t ≡ meaning π u

-- ---- the first law

-- The keys of the objects of a family, in the order of their places.
abbrev pub placed_keys : Preference → Family → Data → List (Option Key)
placed_keys π f t = map (λ o. key_of π o.value) (objects f t)

-- The `@id` texts of the objects of a family, in the order of their places.
abbrev pub ids_in : Family → Data → List (Option (List ℕ))
ids_in f t = map (λ o. id_of o.value) (objects f t)

-- The names of the selections of a contest, in their order.
abbrev pub names_in : Preference → Data → Placed → List (Option NameParts)
names_in π t contest = map (λ o. name_of π t o.value) (selections_of_contest contest)

-- In both trees, the elections have the same list of keys, each family that has keys has the same list of keys, each family
-- the same list of `@id` texts, and each contest the same list of selection names.
pub record HaveSameNames (π : Preference) (t u : Data) : Type 0 where
  pub election_keys : map (λ e. key_of π e.value) (elections t) ≡ map (λ e. key_of π e.value) (elections u)
  pub keys : (f : Family) → IsTrue (has_keys f) → placed_keys π f t ≡ placed_keys π f u
  pub names : map (names_in π t) (contests t) ≡ map (names_in π u) (contests u)
  pub ids : (f : Family) → ids_in f t ≡ ids_in f u

-- The first law on the way to uniqueness: canonical trees that mean the same have the same names, in the sense above.
abbrev pub NamesAgree : Type 0
NamesAgree = (π : Preference) (t u : Data) → MeanAlike π t u → HaveSameNames π t u

-- ---- the second law

-- The selection has this name and stands in a contest with this key.
pub record IsSelection (π : Preference) (t : Data) (key : Key) (name : NameParts) (selection : Placed) : Type 0 where
  pub contest : Placed
  pub contest_stands : IsObject t family.Contest contest
  pub contest_key : key_of π contest.value ≡ Some key
  pub stands : Contains (selections_of_contest contest) selection
  pub its_name : name_of π t selection.value ≡ Some name

-- What means the same is written the same in both trees: references, sets of references, the `@id` of a selection, and
-- ordered contents.
pub record WriteAlike (π : Preference) (t u : Data) : Type 0 where
  pub references : (f : Family) (a b : List ℕ) (k : Key) → IsTrue (has_keys f) → key_named π t f a ≡ Some k → key_named π u f b ≡ Some k → a ≡ b
  pub sets : (f : Family) (p q : List Step) (a b : Asked) → IsTrue (has_keys f) → asked_at t p ≡ Some a → asked_at u q ≡ Some b
      → kind_wanted a.want ≡ Some (kind.Many f) → kind_wanted b.want ≡ Some (kind.Many f)
      → key_set (keys_named π t f (entries_of a.value)) ≡ key_set (keys_named π u f (entries_of b.value)) → a.value ≡ b.value
  pub selections : (k : Key) (n : NameParts) (one other : Placed) → IsSelection π t k n one → IsSelection π u k n other → id_of one.value ≡ id_of other.value
  pub contents : (p q : List Step) (a b : Asked) → asked_at t p ≡ Some a → asked_at u q ≡ Some b
      → kind_wanted a.want ≡ Some kind.Content → kind_wanted b.want ≡ Some kind.Content → content_of π t a.value ≡ content_of π u b.value → a.value ≡ b.value

-- The second law on the way to uniqueness: canonical trees that mean the same write references alike, in the sense above.
abbrev pub ReferencesAgree : Type 0
ReferencesAgree = (π : Preference) (t u : Data) → MeanAlike π t u → WriteAlike π t u

-- ---- the third law

-- Two objects of one family, one in each tree, are equal if their records are equal and their `@id` is the same or absent in
-- both.
pub record HaveSameObjects (π : Preference) (t u : Data) : Type 0 where
  pub objects : (f : Family) (one other : Placed) → IsTrue (has_keys f) → IsObject t f one → IsObject u f other
      → object_record π t (role.OfFamily f) one.value ≡ object_record π u (role.OfFamily f) other.value
      → id_of one.value ≡ id_of other.value → one.value ≡ other.value
  pub selections : (one other : Placed) → IsObject t family.Selection one → IsObject u family.Selection other
      → selection_record π t one.value ≡ selection_record π u other.value → id_of one.value ≡ id_of other.value → one.value ≡ other.value

-- The third law on the way to uniqueness: canonical trees that mean the same have the same objects, in the sense above.
abbrev pub ObjectsAgree : Type 0
ObjectsAgree = (π : Preference) (t u : Data) → MeanAlike π t u → HaveSameObjects π t u

-- ---- uniqueness and invariance

-- Two canonical trees that mean the same are equal.
abbrev pub CanonicalIsUnique : Type 0
CanonicalIsUnique = (π : Preference) (t u : Data) → MeanAlike π t u → t ≡ u

-- If a tree is an accepted report, each rearrangement of it is accepted too, and means the same.
abbrev pub RearrangedMeansTheSame : Type 0
RearrangedMeansTheSame =
    (π : Preference) (t u : Data) (changes : List Change) → IsTree t → IsAccepted π t → IsRearrangement changes t u
    → IsAccepted π u × (meaning π u ≡ meaning π t)

-- ---- two preferences

-- Two reports, both accepted under two preferences, mean the same under the one if and only if they do under the other.
abbrev pub PreferencesAgree : Type 0
PreferencesAgree =
    (π ρ : Preference) (t u : Data) → IsTree t → IsTree u → IsAccepted π t → IsAccepted π u → IsAccepted ρ t → IsAccepted ρ u
    → (meaning π t ≡ meaning π u) ↔ (meaning ρ t ≡ meaning ρ u)

-- ---- existence

-- A report as calls take it: a tree in which each number is whole and fits 64 bits, and whose families a machine word can
-- count.
pub record IsGiven (t : Data) : Type 0 where
  pub is_tree : IsTree t
  pub fits : HasFittingNumbers t
  pub bounded : IsBounded t

-- A tree that is the canonical form of t. It is nested no deeper than t.
pub record HasCanonicalForm (π : Preference) (t : Data) : Type 0 where
  pub form : Data
  pub is_tree : IsTree form
  pub is_form : IsCanonicalFormOf π t form
  pub no_deeper : IsNoDeeper form t

-- Under every preference, each report as calls take it has a canonical form if it is accepted.
abbrev pub CanonicalFormExists : Type 0
CanonicalFormExists = (π : Preference) (t : Data) → IsGiven t → IsAccepted π t → HasCanonicalForm π t
