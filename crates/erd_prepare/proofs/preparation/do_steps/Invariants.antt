use Rattle.std.proofs.Common.{◌≡◌, [], map, take}
use Rattle.serde_json.specs.View.{view}
use Rattle.erd_prepare.specs.Preparations.{AreStepsDone, IsUnmoved}
use Rattle.erd_prepare.specs.declared.step_name.TheConstants.{STEPS}
use Rattle.erd_prepare.proofs.preparation.do_steps.Given as goal

abbrev pub invariant-loop-step : goal.invariant-loop-step
invariant-loop-step l =
    AreStepsDone l.others l.chosen (view l.report) (take l.step-index STEPS) l.steps.items (view l.tree) (map view l.so_far.told.items)
    × (IsUnmoved l.steps.items → l.so_far.moves.items ≡ [])
