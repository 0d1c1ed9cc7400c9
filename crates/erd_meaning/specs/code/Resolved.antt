-- Reports whose objects are told apart, whose references name objects, and whose selections are told apart.
use Rattle.std.specs.Prelude.{◌≡◌, false, ℕ, List, map}
use Rattle.std.specs.List.{slice_get}
use Rattle.serde_json.specs.Data.{Data}
use Rattle.serde_json.specs.View.{view}
use Rattle.serde_json.specs.Written.{has_float}
use Rattle.serde_json.specs.declared.value.Value.{Value}
use Rattle.erd_check.specs.Faults.{NoneOf}
use Rattle.erd_check.specs.Numbers.{HasFittingNumbers}
use Rattle.erd_check.specs.Shapes.{IsFaultless}
use Rattle.erd_check.specs.Trees.{IsShallow, IsTree}
use Rattle.erd_meaning.specs.Keys.{Preference}
use Rattle.erd_meaning.specs.LaterFaults.{IdentityFault, ReferenceFault, SelectionFault}
use Rattle.erd_meaning.specs.Lookups.{selection_in}
use Rattle.erd_meaning.specs.Objects.{IsBounded}
use Rattle.erd_meaning.specs.code.ObjectWalk.{kept_objects}
use Rattle.erd_meaning.specs.code.SelectionWalk.{NumberedName}
use Rattle.erd_meaning.specs.code.Shown.{shown}
use Rattle.erd_meaning.specs.declared.objects.table.Object.{Object}

-- The report has no fault of identity: objects that need a key have one, and no key and no `@id` is used twice.
abbrev pub IsIdentified : Preference → Value → Type 0
IsIdentified π tree = NoneOf (IdentityFault π (view tree))

-- The report has no fault of references: each names an object of its family, no set has one twice, and each selection in a
-- list is of the contest that is named with it.
abbrev pub IsReferred : Value → Type 0
IsReferred tree = NoneOf (ReferenceFault (view tree))

-- The report has no fault of selections: no two selections of one contest have the same name.
abbrev pub IsToldApart : Preference → Value → Type 0
IsToldApart π tree = NoneOf (SelectionFault π (view tree))

-- These are the names of the selections of the report, in the order of their places.
abbrev pub AreNames : Preference → Data → List NumberedName → Type 0
AreNames π t names = (i : ℕ) → slice_get names i ≡ selection_in π t i

-- The report is accepted, and these are its objects and the names of its selections, in the order of their places.
pub record IsResolved (π : Preference) (tree : Value) (objects : List Object) (names : List NumberedName) : Type 0 where
  pub faultless : IsFaultless tree
  pub shallow : IsShallow (view tree)
  pub is_tree : IsTree (view tree)
  pub whole : has_float (view tree) ≡ false
  pub fits : HasFittingNumbers (view tree)
  pub few : IsBounded (view tree)
  pub identified : IsIdentified π tree
  pub referred : IsReferred tree
  pub told_apart : IsToldApart π tree
  pub kept : map shown objects ≡ kept_objects π (view tree)
  pub named : AreNames π (view tree) names
