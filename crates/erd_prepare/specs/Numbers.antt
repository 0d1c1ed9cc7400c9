-- The numbers of a JSON text that are written otherwise once they are read.
use Rattle.std.specs.Prelude.{◌≡◌, ◌≢◌, ◌+◌, ◌-◌, ◌==◌, ◌||◌, ◌++◌, ℕ, zero, suc, List, [], ◌∷◌, Bool, true, false, not, if◌then◌else◌, Some, length, take}
use Rattle.std.specs.Prelude.{reverse, string_bytes}
use Rattle.std.specs.List.{prefix_len, count_by}
use Rattle.std.specs.Char.{is_ascii_digit}
use Rattle.std.specs.Float.{binary64}
use Rattle.std.specs.Fmt.{decimal, signed_decimal}
use Rattle.ryu.specs.Parse.{parse_float}
use Rattle.ryu.specs.Plain.{IsPlusNumber}
use Rattle.json.specs.Ascii as ascii
use Rattle.serde_json.specs.Data.{Num, unsigned, negative, float, number}
use Rattle.erd_prepare.specs.Reading.{IsReadAs}
use Rattle.erd_prepare.specs.declared.changed_number.ChangedNumber.{ChangedNumber}

-- ---- where numbers stand

-- True for the first byte of a number.
abbrev pub begins_number : ℕ → Bool
begins_number b = is_ascii_digit b || (b == ascii.minus)

-- True for a byte that may stand in a number.
abbrev pub is_in_number : ℕ → Bool
is_in_number b = begins_number b || (b == ascii.plus) || (b == ascii.dot) || (b == ascii.lower_e) || (b == ascii.upper_e)

-- How many bytes of the list belong to a string that has begun: up to the next quote, with it. A byte that is escaped ends no
-- string and escapes none; the flag says whether the first one is.
unfoldable pub string_length : Bool → List ℕ → ℕ
string_length escaped [] = 0
string_length true (b ∷ bs) = suc (string_length false bs)
string_length false (b ∷ bs) = if b == ascii.quote then 1 else suc (string_length (b == ascii.backslash) bs)

-- How many bytes the piece has that the list begins with: a string, a number, or a single byte.
abbrev pub piece_length : List ℕ → ℕ
piece_length [] = 0
piece_length (b ∷ bs) = if b == ascii.quote then suc (string_length false bs) else if begins_number b then prefix_len is_in_number (b ∷ bs) else 1

-- A number of a text: its bytes, and how many stand before them.
pub record NumberAt : Type 0 where
  pub before : ℕ
  pub token : List ℕ

-- The number that such a list begins with, if it does.
abbrev pub number_here : ℕ → List ℕ → List NumberAt
number_here i [] = []
number_here i (b ∷ bs) = if begins_number b then record { before = i; token = take (piece_length (b ∷ bs)) (b ∷ bs) } ∷ [] else []

-- The numbers that begin in the list, if so many bytes stand before it, and so many of its own belong to a piece that has begun.
unfoldable pub numbers_from : ℕ → ℕ → List ℕ → List NumberAt
numbers_from i k [] = []
numbers_from i (suc k) (b ∷ bs) = numbers_from (suc i) k bs
numbers_from i zero (b ∷ bs) = number_here i (b ∷ bs) ++ numbers_from (suc i) (piece_length (b ∷ bs) - 1) bs

-- The numbers of a text that stand in none of its strings, in their order.
abbrev pub numbers_in : List ℕ → List NumberAt
numbers_in bytes = numbers_from 0 0 bytes

-- ---- lines and columns

abbrev pub is_line_feed : ℕ → Bool
is_line_feed b = b == ascii.line_feed

-- The line of the byte behind these bytes, counted from 1: a line ends by a line feed.
abbrev pub line_behind : List ℕ → ℕ
line_behind bytes = 1 + count_by is_line_feed bytes

-- How many of the bytes stand behind the last line feed.
abbrev pub last_line_length : List ℕ → ℕ
last_line_length bytes = prefix_len (λ b. not (is_line_feed b)) (reverse bytes)

-- The column of the byte behind these bytes, counted from 1 and in bytes.
abbrev pub column_behind : List ℕ → ℕ
column_behind bytes = 1 + last_line_length bytes

-- ---- how numbers are written

-- The text is how a number is written: a whole one by its digits, and another one as the shortest decimal is laid out, with an
-- exponent from 10^16 on and below 10^-5, and no zero at the end of a fraction but in `12.0`.
abbrev pub IsWritten : Num → List ℕ → Type 0
IsWritten (unsigned n) text = text ≡ decimal n
IsWritten (negative z) text = text ≡ signed_decimal z
IsWritten (float x) text = (parse_float binary64 text ≡ Some x) × IsPlusNumber 16 4 text

-- The token is the text of the number that it is read as.
abbrev pub IsUnchanged : List ℕ → Type 0
IsUnchanged token = (n : Num) → IsReadAs token (number n) → IsWritten n token

-- The token is read as a number whose text is another one.
pub record IsChanged (token : List ℕ) (after : List ℕ) : Type 0 where
  pub value : Num
  pub was_read : IsReadAs token (number value)
  pub is_written : IsWritten value after
  pub differs : after ≢ token

-- A number of the file is told: where it stands, its text and the text that becomes of it.
pub record IsNumberTold (file : List ℕ) (it : NumberAt) (told : ChangedNumber) : Type 0 where
  pub line : told.line ≡ line_behind (take it.before file)
  pub column : told.column ≡ column_behind (take it.before file)
  pub before : string_bytes told.before ≡ it.token
  pub changed : IsChanged it.token (string_bytes told.after)

-- Of these numbers of the file, those that change are told, in their order.
pub data AreTold (file : List ℕ) : List NumberAt → List ChangedNumber → Type 0 where
  none : AreTold file [] []
  unchanged : (it : NumberAt) (its : List NumberAt) (told : List ChangedNumber) → IsUnchanged it.token → AreTold file its told → AreTold file (it ∷ its) told
  changed : (it : NumberAt) (its : List NumberAt) (one : ChangedNumber) (told : List ChangedNumber) → IsNumberTold file it one → AreTold file its told
      → AreTold file (it ∷ its) (one ∷ told)

-- The numbers of the file that change are told, and nothing else.
abbrev pub AreChangedNumbers : List ℕ → List ChangedNumber → Type 0
AreChangedNumbers file told = AreTold file (numbers_in file) told
