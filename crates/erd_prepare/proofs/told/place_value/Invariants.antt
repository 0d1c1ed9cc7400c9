use Rattle.std.proofs.Common.{◌≡◌, ◌++◌, map, drop}
use Rattle.serde_json.specs.View.{view}
use Rattle.erd_prepare.specs.Tellings.{told_step_data}
use Rattle.erd_prepare.proofs.told.place_value.Given as goal

abbrev pub invariant-loop-step : goal.invariant-loop-step
invariant-loop-step l = map view l.parts.items ++ map told_step_data (drop l.step-index l.steps.items) ≡ map told_step_data l.steps.items
