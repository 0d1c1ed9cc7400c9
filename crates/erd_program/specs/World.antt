-- What the program has of the outside, as contracts see it.
use Rattle.std.specs.Prelude.{ℕ, List, Result}
use Rattle.erd_canon.specs.Devices.{Reader, Writer}
use Rattle.erd_program.specs.declared.files.WorldFault.{WorldFault}

-- What is known of the outside: the files that were opened, each with its name and what opening it gave; the names that were
-- opened beside another file, each with what opening that file gave, as it was then; the files that were closed, each with its
-- name and as it was then; and the streams.
pub record Outside (F File I O E : Type 0) : Type 0 where
  pub opened : F → List (List ℕ × Result File WorldFault)
  pub beside : F → List (List ℕ × Result File WorldFault)
  pub closed : F → List (List ℕ × File)
  pub file : Reader File
  pub input : Reader I
  pub out : Writer O
  pub err : Writer E

-- What is known of the outside, by its parts.
abbrev pub outside : {F File I O E : Type 0} → (F → List (List ℕ × Result File WorldFault)) → (F → List (List ℕ × Result File WorldFault))
    → (F → List (List ℕ × File)) → Reader File → Reader I → Writer O → Writer E → Outside F File I O E
outside opened beside closed file input out err = record { opened = opened; beside = beside; closed = closed; file = file; input = input; out = out; err = err }
