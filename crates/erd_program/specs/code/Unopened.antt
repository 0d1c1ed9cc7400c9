-- What is said of a file that cannot be opened, whatever became of standard output.
use Rattle.std.specs.Prelude.{◌≡◌, ◌⊎◌, ℕ, List}
use Rattle.erd_canon.specs.Devices.{BeforeAfter, Writer}
use Rattle.erd_program.specs.declared.files.WorldFault.{WorldFault}
use Rattle.erd_program.specs.declared.files.WorldFault.TheVariants.{Memory}
use Rattle.erd_program.specs.Messages.{IsSaid, unopened_words, world_status, world_text}

-- The words for the fault were said, and the status is that of the fault.
pub record IsFaultTold {E : Type 0} (errors : Writer E) (name : List ℕ) (fault : WorldFault) (status : ℕ) (err : BeforeAfter E) : Type 0 where
  pub status_is : status ≡ world_status fault
  pub said : IsSaid errors (world_text (unopened_words name) fault) err

-- The words were said, or that memory ran out.
abbrev pub IsUnopenedTold : {E : Type 0} → Writer E → List ℕ → WorldFault → ℕ → BeforeAfter E → Type 0
IsUnopenedTold errors name fault status err = IsFaultTold errors name fault status err ⊎ IsFaultTold errors name Memory status err
