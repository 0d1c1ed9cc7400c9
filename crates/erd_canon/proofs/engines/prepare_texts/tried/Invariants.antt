use Rattle.erd_canon.proofs.Common.{◌≡◌, ℕ, List, take, string_bytes, view, text_of_lines}
use Rattle.erd_canon.specs.Preparing.{AreStepsTried}
use Rattle.erd_prepare.specs.declared.step_name.TheConstants.{STEPS}
use Rattle.erd_canon.proofs.engines.prepare_texts.tried.Given as goal

-- the steps so far are tried
abbrev pub invariant-loop-step : goal.invariant-loop-step
invariant-loop-step l = (lines : List (List ℕ)) × AreStepsTried (view l.report) (take l.step-index STEPS) lines × (string_bytes l.text ≡ text_of_lines lines)
