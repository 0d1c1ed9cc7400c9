-- What contracts know of readers and writers.
use Rattle.std.specs.Prelude.{ℕ, Bool, List, Option}

-- What is known of a reader: the bytes that it has left, if they are known, whether a read has failed, the number of
-- reads, and the number of bytes that they gave.
pub record Reader (S : Type 0) : Type 0 where
  pub remaining : S → Option (List ℕ)
  pub has_failed : S → Bool
  pub reads : S → ℕ
  pub given : S → ℕ

-- What is known of a writer: the bytes that it holds, if they are known, whether it has failed, whether it was flushed
-- after the last write, and the number of flushes.
pub record Writer (W : Type 0) : Type 0 where
  pub contents : W → Option (List ℕ)
  pub has_failed : W → Bool
  pub is_flushed : W → Bool
  pub flushes : W → ℕ

-- A value before and after.
pub record BeforeAfter (A : Type 0) : Type 0 where
  pub before : A
  pub after : A

-- A value before and after, by its parts.
abbrev pub between : {A : Type 0} → A → A → BeforeAfter A
between before after = record { before = before; after = after }
