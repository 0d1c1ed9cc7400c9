-- The front of a list that a piece shows, entry by entry, and what was appended of it.
use Rattle.std.specs.Prelude.{ℕ, zero, suc, ◌≡◌, ◌≤◌, ◌+◌, ◌-◌, ◌++◌, Bool, true, false, List, [], ◌∷◌, codes, length, drop, nat_lt}
use Rattle.serde_json.specs.Data.{Data, string}
use Rattle.serde_json.specs.Written.{comma_if, compact_text}
use Rattle.erd_tables.specs.Faults.{fault_line}
use Rattle.erd_check.specs.Numbers.{HasFittingNumbers}
use Rattle.erd_canon.specs.DataValues.{fault_data}
use Rattle.erd_canon.specs.EngineTexts.{lines_of_side, text_of_lines}
use Rattle.erd_canon.specs.Pieces.{IsPiece, IsPieceData, IsPieceLines, TellsNone, whole_line}
use Rattle.erd_canon.specs.declared.engines.outcome.Outcome.{Outcome}
use Rattle.erd_canon.specs.declared.engines.outcome.Outcome.TheVariants.{Bad, NotJson}
use Rattle.erd_canon.specs.declared.bytes.refusal.Refusal.{Refusal}
use Rattle.erd_canon.specs.declared.bytes.refusal.Refusal.TheVariants as refusal
use Rattle.erd_canon.specs.declared.data.notation.Notation.{Notation}
use Rattle.erd_canon.specs.declared.data.notation.Notation.TheVariants as notation
use Rattle.erd_canon.specs.declared.data.piece.Piece.{Piece}
use Rattle.erd_canon.specs.declared.data.piece.Told.{Told}

-- The entries in front of a list, until there are `most` of them, or they have `enough` bytes.
abbrev pub front : {A : Type 0} → (A → ℕ) → ℕ → ℕ → List A → List A
front size most enough [] = []
front size zero enough (x ∷ xs) = []
front size (suc most) zero (x ∷ xs) = []
front size (suc most) (suc enough) (x ∷ xs) = x ∷ front size most (suc enough - size x) xs

-- What a walk along a list shows of the rest, with this much of the piece left.
abbrev pub ahead : {A : Type 0} → (A → ℕ) → Piece → List A → List A
ahead size left rest = front size left.most left.enough_bytes (drop left.first rest)

-- The text of entries, one behind the other. `text_of` is told whether an entry stands behind another one.
abbrev pub joined_text : {A : Type 0} → (Bool → A → List ℕ) → Bool → List A → List ℕ
joined_text text_of later [] = []
joined_text text_of later (x ∷ xs) = text_of later x ++ joined_text text_of true xs

-- Each of the entries has the property.
abbrev pub AllHave : {A : Type 0} → (A → Type 0) → List A → Type 0
AllHave Has [] = Unit {0}
AllHave Has (x ∷ xs) = Has x × AllHave Has xs

-- The walk is at `rest`. With what it will show of that, all was appended and counted.
pub record IsReached {A : Type 0} (size : A → ℕ) (text_of : Bool → A → List ℕ) (Has : A → Type 0) (piece : Piece) (entries : List A) (before text : List ℕ)
    (left : Piece) (rest : List A) : Type 0 where
  pub low : left.most ≤ piece.most
  pub written : text ++ joined_text text_of (nat_lt left.most piece.most) (ahead size left rest) ≡ before ++ joined_text text_of false
      (ahead size piece entries)
  pub count : (piece.most - left.most) + length (ahead size left rest) ≡ length (ahead size piece entries)
  pub fits : AllHave Has (ahead size left rest) → AllHave Has (ahead size piece entries)

-- The text of the entries of a piece was appended, one behind the other. Each of them has the property.
pub record AppendsEntries {A : Type 0} (size : A → ℕ) (text_of : Bool → A → List ℕ) (Has : A → Type 0) (piece : Piece) (entries : List A) (told : Told)
    (before after : List ℕ) : Type 0 where
  pub shown : List A
  pub is_piece : IsPiece size piece entries shown told
  pub fits : AllHave Has shown
  pub wrote : after ≡ before ++ joined_text text_of false shown

-- What an entry is counted as: the length of its compact text, or of its line with the words in front and the line feed.
abbrev pub size_in : {A : Type 0} → Notation → (A → Data) → (A → List ℕ) → A → ℕ
size_in notation.Json value_of line_of = λ x. length (compact_text (value_of x))
size_in (notation.Lines side) value_of line_of = λ x. length (whole_line side.now (line_of x))

-- The text of an entry, behind another one or not: a value behind a comma, or a line.
abbrev pub text_in : {A : Type 0} → Notation → (A → Data) → (A → List ℕ) → Bool → A → List ℕ
text_in notation.Json value_of line_of = λ later x. comma_if later ++ compact_text (value_of x)
text_in (notation.Lines side) value_of line_of = λ later x. whole_line side.now (line_of x)

-- Each number in the value of an entry fits 64 bits. A line has no such value.
abbrev pub FitsIn : {A : Type 0} → Notation → (A → Data) → A → Type 0
FitsIn notation.Json value_of = λ x. HasFittingNumbers (value_of x)
FitsIn (notation.Lines side) value_of = λ x. Unit {0}

-- The value says why bytes are refused, with a piece of the faults, and this is the outcome. Running out of memory has no value.
abbrev pub TellsPieceAs : Piece → Outcome → Told → Refusal → Data → Type 0
TellsPieceAs piece Bad told (refusal.Faults faults) value = IsPieceData fault_data piece faults told value
TellsPieceAs piece NotJson told refusal.NotJson value = (value ≡ string (codes "not JSON")) × TellsNone told
TellsPieceAs piece outcome told refused value = ⊥

-- The lines say why bytes are refused, each with these words in front, and this is the outcome. Running out of memory has none.
abbrev pub TellsLinesAs : Piece → Outcome → Told → List ℕ → List ℕ → Refusal → Type 0
TellsLinesAs piece Bad told text side (refusal.Faults faults) = IsPieceLines fault_line side piece faults told text
TellsLinesAs piece NotJson told text side refusal.NotJson = (text ≡ text_of_lines (lines_of_side side (codes "not JSON" ∷ []))) × TellsNone told
TellsLinesAs piece outcome told text side refused = ⊥
