-- How far the numbers of a file are told.
use Rattle.std.specs.Prelude.{◌≡◌, ◌+◌, ◌⊎◌, ◌++◌, ◌∷◌, ℕ, List, [], drop, take, string_bytes}
use Rattle.erd_prepare.specs.Numbers.{AreTold, IsChanged, IsUnchanged, last_line_length, line_behind, numbers_from, numbers_in}
use Rattle.erd_prepare.specs.declared.changed_number.ChangedNumber.{ChangedNumber}
use Rattle.erd_prepare.specs.declared.numbers.Line.{Line}

-- The line is that of the byte behind the first i bytes of the file.
pub record IsLineAt (file : List ℕ) (i : ℕ) (line : Line) : Type 0 where
  pub number : line.number ≡ line_behind (take i file)
  pub start : line.start + last_line_length (take i file) ≡ i

-- A number at this line and column was told as the last one.
pub record IsAdded (token : List ℕ) (line column : ℕ) (olds news : List ChangedNumber) : Type 0 where
  pub one : ChangedNumber
  pub added : news ≡ olds ++ one ∷ []
  pub line_told : one.line ≡ line
  pub column_told : one.column ≡ column
  pub before : string_bytes one.before ≡ token
  pub changed : IsChanged token (string_bytes one.after)

-- The number was told if it changes.
abbrev pub IsNumberAdded : List ℕ → ℕ → ℕ → List ChangedNumber → List ChangedNumber → Type 0
IsNumberAdded token line column olds news = (IsUnchanged token × (news ≡ olds)) ⊎ IsAdded token line column olds news

-- Of the numbers before the first i bytes of the file those that change are told: with those behind, they are the numbers of the
-- file.
pub record IsToldUpTo (file : List ℕ) (i : ℕ) (told : List ChangedNumber) : Type 0 where
  pub all : (rest : List ChangedNumber) → AreTold file (numbers_from i 0 (drop i file)) rest → AreTold file (numbers_in file) (told ++ rest)
