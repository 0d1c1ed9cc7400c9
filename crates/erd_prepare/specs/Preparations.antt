-- Several steps, one after the other.
use Rattle.std.specs.Prelude.{◌≡◌, ◌≤◌, ◌==◌, ℕ, List, [], ◌∷◌, ◌++◌, Some, true, false, length, ⊤}
use Rattle.std.specs.List.{Contains, list_all}
use Rattle.serde_json.specs.Data.{Data, array, depth}
use Rattle.serde_json.specs.Read.{read, max_depth}
use Rattle.serde_json.specs.View.{items_of}
use Rattle.erd_tables.specs.declared.class.Role.TheVariants as role
use Rattle.erd_check.specs.declared.want.Want.TheVariants.{Object}
use Rattle.erd_prepare.specs.Changes.{told_by}
use Rattle.erd_prepare.specs.Numbers.{AreChangedNumbers}
use Rattle.erd_prepare.specs.Reading.{IsNoJson, IsReadAs}
use Rattle.erd_prepare.specs.Rules.{Rule, prepared, told}
use Rattle.erd_prepare.specs.Steps.{IsNamedStepDone, IsOwnRule}
use Rattle.erd_prepare.specs.StepWords.{name_of_step}
use Rattle.erd_prepare.specs.Tellings.{AreNumbersInFront, IsTellingAdded, IsTextOf}
use Rattle.erd_prepare.specs.declared.engine.Done.{Done}
use Rattle.erd_prepare.specs.declared.prepare_error.PrepareError.{PrepareError}
use Rattle.erd_prepare.specs.declared.prepare_error.PrepareError.TheVariants.{Memory, NotJson}
use Rattle.erd_prepare.specs.declared.step_done.Others.{Others}
use Rattle.erd_prepare.specs.declared.step_done.Others.TheVariants as others
use Rattle.erd_prepare.specs.declared.step_done.PreparedBytes.{PreparedBytes}
use Rattle.erd_prepare.specs.declared.step_done.StepDone.{StepDone}
use Rattle.erd_prepare.specs.declared.step_name.StepName.{StepName}
use Rattle.erd_prepare.specs.declared.step_name.TheConstants.{STEPS}

-- No step so far changed anything, so that no place has moved.
abbrev pub IsUnmoved : List StepDone → Type 0
IsUnmoved dones = list_all (λ (done : StepDone). length done.changes.items == 0) dones ≡ true

-- One more step, of this name, was done on the report: by a rule, which is the step's own if it has one, it is what it now is,
-- and all that the rule did is told as the last of the steps, and as JSON.
pub record IsStepAdded (name : StepName) (before : Data) (olds news : List StepDone) (after : Data) (tolds tolds_after : List Data) : Type 0 where
  pub rule : Rule
  pub own : IsOwnRule name before rule
  pub step : StepDone
  pub named : step.step ≡ name
  pub added : news ≡ olds ++ step ∷ []
  pub tree : after ≡ prepared rule [] (Some (Object role.Report)) before
  pub changes : told_by step.changes.items ≡ told rule [] (Some (Object role.Report)) before
  pub telling : IsTellingAdded (name_of_step name) true (IsUnmoved olds) step.changes.items step.left.items tolds tolds_after

-- A step of this name that is not chosen was tried on the report, if that is asked for. What it would do is told as JSON.
abbrev pub IsOtherTold : Others → StepName → List StepDone → Data → List Data → List Data → Type 0
IsOtherTold others.Untold s dones tree tolds tolds_after = tolds_after ≡ tolds
IsOtherTold others.Told s dones tree tolds tolds_after =
    (done : Done) × IsNamedStepDone s tree done × IsTellingAdded (name_of_step s) false (IsUnmoved dones) done.changes.items done.left.items tolds tolds_after

-- Of these steps in their order, each that is chosen was done, and no other one: one after the other they made the second report
-- of the first one, and all that they did is told, as data and as JSON.
pub data AreStepsDone (others : Others) (chosen : List StepName) (given : Data) : List StepName → List StepDone → Data → List Data → Type 0 where
  no_step : AreStepsDone others chosen given [] [] given []
  one_more : (names : List StepName) (name : StepName) (olds news : List StepDone) (before after : Data) (tolds tolds_after : List Data) → Contains chosen name
      → AreStepsDone others chosen given names olds before tolds → IsStepAdded name before olds news after tolds tolds_after
      → AreStepsDone others chosen given (names ++ name ∷ []) news after tolds_after
  left_out : (names : List StepName) (name : StepName) (dones : List StepDone) (tree : Data) (tolds tolds_after : List Data) → ¬ (Contains chosen name)
      → AreStepsDone others chosen given names dones tree tolds → IsOtherTold others name dones tree tolds tolds_after
      → AreStepsDone others chosen given (names ++ name ∷ []) dones tree tolds_after

-- The text is that of these values as an array.
abbrev pub IsArrayText : List ℕ → List Data → Type 0
IsArrayText text ds = IsTextOf text (array (items_of ds))

-- The file holds the report that was read, after the chosen steps. The numbers whose texts reading changes are told. What is told
-- as JSON begins with them.
pub record IsPrepared (bytes : List ℕ) (chosen : List StepName) (others : Others) (file : PreparedBytes) : Type 0 where
  pub given : Data
  pub tree : Data
  pub tolds : List Data
  pub all_told : List Data
  pub was_read : IsReadAs bytes given
  pub numbers : AreChangedNumbers bytes file.numbers.items
  pub steps : AreStepsDone others chosen given STEPS file.steps.items tree tolds
  pub is_written : depth tree ≤ max_depth → read file.bytes.items ≡ Some tree
  pub in_front : AreNumbersInFront file.numbers.items tolds all_told
  pub telling : IsArrayText file.told.items all_told

-- Why bytes are not prepared. If the call ran out of memory, nothing is claimed.
abbrev pub IsUnprepared : List ℕ → PrepareError → Type 0
IsUnprepared bytes NotJson = IsNoJson bytes
IsUnprepared bytes Memory = ⊤
