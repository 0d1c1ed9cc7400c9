use Rattle.std.proofs.Common.{◌≡◌, ◌++◌, drop}
use Rattle.std.specs.List.{filter}
use Rattle.erd_prepare.specs.StepWords.{group_of, is_same_group, steps_of_group}
use Rattle.erd_prepare.specs.declared.step_name.TheConstants.{STEPS}
use Rattle.erd_prepare.proofs.step_group.push_group.Given as goal

abbrev pub invariant-loop-step : goal.invariant-loop-step
invariant-loop-step l = l.steps.items ++ filter (λ s. is_same_group (group_of s) l.group) (drop l.step-index STEPS) ≡ l.initial.steps.items
    ++ steps_of_group l.group
