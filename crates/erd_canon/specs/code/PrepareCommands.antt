-- What the engine for each command that prepares a report answers.
use Rattle.std.specs.Prelude.{◌≡◌, ◌≢◌, ◌++◌, ℕ, List, Option, Some, None}
use Rattle.std.specs.Borrow.{Bor}
use Rattle.erd_meaning.specs.Keys.{Preference}
use Rattle.erd_prepare.specs.declared.step_name.StepName.{StepName}
use Rattle.erd_canon.specs.Preparing.{AreUnmarkedSteps, IsBehindMark, IsUnmarkedPrepared, IsUnmarkedTold, byte_order_mark}
use Rattle.erd_canon.specs.declared.engines.outcome.Outcome.{Outcome}
use Rattle.erd_canon.specs.declared.engines.prepare.PrepareCommand.{PrepareCommand}
use Rattle.erd_canon.specs.declared.engines.prepare.PrepareCommand.TheVariants.{Prepare, Tell, TryAll}

-- The outcome and the texts of the command for this input, which has no byte order mark before it.
abbrev pub unmarked_answers : PrepareCommand → List StepName → Preference → List ℕ → Outcome → List ℕ → List ℕ → Type 0
unmarked_answers Prepare chosen π = IsUnmarkedPrepared π chosen
unmarked_answers TryAll chosen π = AreUnmarkedSteps
unmarked_answers Tell chosen π = IsUnmarkedTold chosen

-- The outcome and the texts of the command for this input.
abbrev pub prepare_answers : PrepareCommand → List StepName → Preference → List ℕ → Outcome → List ℕ → List ℕ → Type 0
prepare_answers command chosen π = IsBehindMark (unmarked_answers command chosen π)

-- What follows the byte order mark that the bytes begin with, if they do.
abbrev pub IsRestBehindMark : List ℕ → Option (Bor (List ℕ)) → Type 0
IsRestBehindMark bytes (Some rest) = bytes ≡ byte_order_mark ++ rest.now
IsRestBehindMark bytes None = (rest : List ℕ) → bytes ≢ byte_order_mark ++ rest
