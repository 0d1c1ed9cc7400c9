use Rattle.erd_canon.proofs.Common.{◌≡◌, ◌++◌, drop, string_bytes, text_of_lines}
use Rattle.std.specs.List.{flat_map}
use Rattle.erd_canon.specs.Preparing.{done_lines}
use Rattle.erd_canon.proofs.engines.prepare_texts.push_steps.Given as goal

-- with those that are left, all are appended
abbrev pub invariant-loop-step : goal.invariant-loop-step
invariant-loop-step l = string_bytes l.text ++ text_of_lines (flat_map done_lines (drop l.step-index l.steps)) ≡ string_bytes l.fn.text
    ++ text_of_lines (flat_map done_lines l.steps)
