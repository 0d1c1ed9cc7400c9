-- What the program says on a stream, and with which status it ends.
use Rattle.std.specs.Prelude.{◌≡◌, ◌++◌, ◌∷◌, [], ℕ, true, false, List, Result, Ok, Err, codes, encode_utf8, if◌then◌else◌}
use Rattle.std.specs.Char.{is_control}
use Rattle.std.specs.List.{flat_map}
use Rattle.std.specs.Str.{chars}
use Rattle.std.specs.Io.KnownBytes.{Appends}
use Rattle.erd_canon.specs.Devices.{BeforeAfter, Writer}
use Rattle.erd_canon.specs.declared.engines.outcome.Outcome.{Outcome}
use Rattle.erd_canon.specs.declared.engines.outcome.RunFault.{RunFault}
use Rattle.erd_canon.specs.declared.engines.outcome.RunFault.TheVariants as run
use Rattle.erd_canon.specs.Statuses.{outcome_status, fault_status, fault_words}
use Rattle.erd_canon.specs.Writing.{IsPartWritten}
use Rattle.erd_program.specs.declared.files.WorldFault.{WorldFault}
use Rattle.erd_program.specs.declared.files.WorldFault.TheVariants.{Refused, Memory}

-- The text was written, or a first part of it if that failed, and nothing else. To a stream that had failed, nothing was
-- written.
pub record IsSaid {W : Type 0} (known : Writer W) (text : List ℕ) (stream : BeforeAfter W) : Type 0 where
  pub part : IsPartWritten (known.contents stream.before) (known.contents stream.after) text
  pub all : known.has_failed stream.after ≡ false → Appends (known.contents stream.before) (known.contents stream.after) text
  pub quiet : known.has_failed stream.before ≡ true → stream.after ≡ stream.before

-- The line that says why a run ended early.
abbrev pub fault_text : RunFault → List ℕ
fault_text fault = fault_words fault ++ 10 ∷ []

-- The exit status of a run: that of its outcome or of its fault.
abbrev pub run_status : Result Outcome RunFault → ℕ
run_status (Ok outcome) = outcome_status outcome
run_status (Err fault) = fault_status fault

-- The run said on the stream why it ended early, if it did, and else nothing.
abbrev pub IsTold : {W : Type 0} → Writer W → Result Outcome RunFault → BeforeAfter W → Type 0
IsTold known (Ok outcome) stream = stream.after ≡ stream.before
IsTold known (Err fault) stream = IsSaid known (fault_text fault) stream

-- A character as a line shows it: a question mark (63) in the place of a control character.
abbrev pub character_in_line : ℕ → ℕ
character_in_line character = if is_control character then 63 else character

-- The name of a file as a line shows it.
abbrev pub name_in_line : List ℕ → List ℕ
name_in_line name = flat_map (λ character. encode_utf8 (character_in_line character)) (chars name)

-- The words for a file that cannot be opened, and the line with its name.
abbrev pub unopened_words : List ℕ → List ℕ
unopened_words name = codes "cannot open" ++ 10 ∷ name_in_line name

-- The exit status for what the outside did not give: 3 if the system refused it, 4 if out of memory.
abbrev pub world_status : WorldFault → ℕ
world_status Refused = 3
world_status Memory = 4

-- The line for what the outside did not give: these words if the system refused it, and `no memory` if out of memory.
abbrev pub world_text : List ℕ → WorldFault → List ℕ
world_text words Refused = words ++ 10 ∷ []
world_text words Memory = fault_text run.Memory
