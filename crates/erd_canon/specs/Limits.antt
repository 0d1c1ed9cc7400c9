-- How much a run takes from one reader. Both numbers are the profile's own.
use Rattle.std.specs.Prelude.{ℕ, ◌^◌}

-- The greatest number of bytes that a run takes from one reader: 64 MiB.
abbrev pub most_bytes : ℕ
most_bytes = 67108864

-- The greatest number of times that a run reads from one reader.
abbrev pub most_reads : ℕ
most_reads = 2 ^ 27
