-- What moves from a buffer to a writer.
use Rattle.std.specs.Prelude.{◌≡◌, ℕ, List, ◌++◌, Option}
use Rattle.std.specs.Io.KnownBytes.{Appends}

-- If the bytes of the writer are known: the front of the pending bytes was written, and the rest is still pending.
pub record IsMoved (before after : Option (List ℕ)) (pending rest : List ℕ) : Type 0 where
  pub written : List ℕ
  pub wrote : Appends before after written
  pub split : pending ≡ written ++ rest

-- If the bytes of the writer are known: some front of the pending bytes was written.
abbrev pub IsFrontMoved : Option (List ℕ) → Option (List ℕ) → List ℕ → Type 0
IsFrontMoved before after pending = (rest : List ℕ) × IsMoved before after pending rest
