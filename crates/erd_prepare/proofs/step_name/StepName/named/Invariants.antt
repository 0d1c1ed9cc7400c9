use Rattle.std.proofs.Common.{◌≡◌, drop}
use Rattle.std.specs.List.{find}
use Rattle.std.specs.Str.{bytes_eq}
use Rattle.erd_prepare.specs.StepWords.{step_named, name_of_step}
use Rattle.erd_prepare.specs.declared.step_name.TheConstants.{STEPS}
use Rattle.erd_prepare.proofs.step_name.StepName.named.Given as goal

abbrev pub invariant-loop-step : goal.invariant-loop-step
invariant-loop-step l = find (λ s. bytes_eq (name_of_step s) l.name) (drop l.step-index STEPS) ≡ step_named l.name
