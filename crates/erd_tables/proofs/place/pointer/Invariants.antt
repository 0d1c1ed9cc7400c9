use Rattle.std.proofs.Common.{◌≡◌, ◌++◌, drop, string_bytes}
use Rattle.erd_tables.specs.Places.{pointer_text}
use Rattle.erd_tables.proofs.place.pointer.Given as goal

abbrev pub invariant-loop-step : goal.invariant-loop-step
invariant-loop-step l = string_bytes l.text ++ pointer_text (drop l.step-index l.step-items) ≡ pointer_text l.place
