-- What is known of any step that was done.
use Rattle.std.specs.Prelude.{◌≡◌, [], Option, Some, None}
use Rattle.std.specs.Option.{IfSome}
use Rattle.serde_json.specs.Data.{Data}
use Rattle.serde_json.specs.View.{view}
use Rattle.erd_tables.specs.declared.class.Role.TheVariants as role
use Rattle.erd_check.specs.declared.want.Want.TheVariants.{Object}
use Rattle.erd_prepare.specs.Changes.{told_by}
use Rattle.erd_prepare.specs.ClassNames.{class_names}
use Rattle.erd_prepare.specs.Local.{dropping}
use Rattle.erd_prepare.specs.LocalSteps.{dropped_by}
use Rattle.erd_prepare.specs.Names.{naming}
use Rattle.erd_prepare.specs.Nulls.{nulls}
use Rattle.erd_prepare.specs.Persons.{unused_persons}
use Rattle.erd_prepare.specs.Rules.{Rule, prepared, told}
use Rattle.erd_prepare.specs.Styles.{unused_styles}
use Rattle.erd_prepare.specs.WholeNumbers.{whole_numbers}
use Rattle.erd_prepare.specs.declared.engine.Done.{Done}
use Rattle.erd_prepare.specs.declared.local.Local.TheVariants as local
use Rattle.erd_prepare.specs.declared.step_name.StepName.{StepName}
use Rattle.erd_prepare.specs.declared.step_name.StepName.TheVariants as step

-- A step was done on the report: by some rule it is what it now is, and all that the rule did is told. What holds of every rule
-- holds of it: nothing else has changed.
pub record IsStepDone (t : Data) (done : Done) : Type 0 where
  pub rule : Rule
  pub tree : view done.tree ≡ prepared rule [] (Some (Object role.Report)) t
  pub changes : told_by done.changes.items ≡ told rule [] (Some (Object role.Report)) t

-- The rule of a step, given the report before it. None of the steps that are held by cases alone.
abbrev pub rule_of : StepName → Data → Option Rule
rule_of step.ClassNames t = Some class_names
rule_of step.Nulls t = Some nulls
rule_of step.Outside t = Some (dropping (dropped_by local.Outside))
rule_of step.Counts t = Some (dropping (dropped_by local.Counts))
rule_of step.Coordinates t = Some (dropping (dropped_by local.Coordinates))
rule_of step.WholeNumbers t = Some whole_numbers
rule_of step.StrayIds t = Some (dropping (dropped_by local.StrayIds))
rule_of step.Unseen t = Some (dropping (dropped_by local.Unseen))
rule_of step.FalseFlags t = Some (dropping (dropped_by local.FalseFlags))
rule_of step.UnusedStyles t = Some unused_styles
rule_of step.UnusedPersons t = Some (unused_persons t)
rule_of step.EmptyLists t = Some (dropping (dropped_by local.EmptyLists))
rule_of step.EmptyTexts t = Some (dropping (dropped_by local.EmptyTexts))
rule_of step.Names t = Some (naming t)
rule_of s t = None

-- The rule is the step's own, if it has one here.
abbrev pub IsOwnRule : StepName → Data → Rule → Type 0
IsOwnRule s t rule = IfSome (rule_of s t) (λ own. rule ≡ own)

-- The step of this name was done.
pub record IsNamedStepDone (s : StepName) (t : Data) (done : Done) : Type 0 where
  pub rule : Rule
  pub own : IsOwnRule s t rule
  pub tree : view done.tree ≡ prepared rule [] (Some (Object role.Report)) t
  pub changes : told_by done.changes.items ≡ told rule [] (Some (Object role.Report)) t
