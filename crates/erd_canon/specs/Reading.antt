-- What came from a reader.
use Rattle.std.specs.Prelude.{◌<◌, ◌≤◌, ℕ, List, length, Option}
use Rattle.std.specs.Io.KnownBytes.{Consumes, IsAtEnd}

-- The input is no longer than the limit. If the bytes of the reader are known, the input is all of them, and the reader is
-- at its end.
pub record IsReadWhole (limit : ℕ) (before after : Option (List ℕ)) (input : List ℕ) : Type 0 where
  pub came : Consumes before after input
  pub ended : IsAtEnd after
  pub in_limit : length input ≤ limit

-- If the bytes of the reader are known: more bytes came from it than the limit.
abbrev pub Exceeds : ℕ → Option (List ℕ) → Option (List ℕ) → Type 0
Exceeds limit before after = (came : List ℕ) × Consumes before after came × (limit < length came)
