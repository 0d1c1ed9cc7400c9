use Rattle.erd_canon.proofs.Common.{◌≡◌, ◌++◌, iter_rest, string_bytes, pointer_text}
use Rattle.erd_canon.proofs.data.fault_lines.push_place.Given as goal

abbrev pub invariant-loop-step : goal.invariant-loop-step
invariant-loop-step l = string_bytes l.text ++ pointer_text (iter_rest l.step-iterator) ≡ string_bytes l.initial.text ++ pointer_text l.place
