-- What one read adds to the bytes that came before.
use Rattle.std.specs.Prelude.{◌≡◌, ◌<◌, ℕ, Bool, true, false, List, [], ◌++◌, length, Option}
use Rattle.std.specs.Io.KnownBytes.{Consumes, IsAtEnd}

-- More bytes came and were appended to the earlier ones, or none came. If the bytes of the reader are known, they lose those
-- that came, and none came only at their end.
abbrev pub TakesChunk : List ℕ → Option (List ℕ) → Bool → List ℕ → Option (List ℕ) → Type 0
TakesChunk old before true new after = (new ≡ old) × Consumes before after [] × IsAtEnd after
TakesChunk old before false new after =
    (more : List ℕ) × (new ≡ old ++ more) × Consumes before after more × (0 < length more)
