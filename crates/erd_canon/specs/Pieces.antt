-- Which entries of a list an answer has if its caller bounds them.
use Rattle.std.specs.Prelude.{ℕ, ◌≡◌, ◌≢◌, ◌⊎◌, ◌<◌, ◌≤◌, ◌++◌, List, [], ◌∷◌, map, take, drop, length, sum, codes, Option}
use Rattle.serde_json.specs.Data.{Data, array, string}
use Rattle.serde_json.specs.View.{items_of}
use Rattle.serde_json.specs.Written.{compact_text}
use Rattle.erd_tables.specs.Faults.{fault_line}
use Rattle.erd_tables.specs.declared.fault.Fault.{Fault}
use Rattle.erd_meaning.specs.Keys.{Preference}
use Rattle.erd_compare.specs.DifferenceLine.{difference_line}
use Rattle.erd_compare.specs.SelectionData.{detailed_data}
use Rattle.erd_compare.specs.declared.detailed.DetailedDifference.{DetailedDifference}
use Rattle.erd_compare.specs.declared.difference.Difference.{Difference}
use Rattle.erd_canon.specs.Bytes.{IsCanonicalBytes, IsNotJson}
use Rattle.erd_canon.specs.DataAnswers.{IsDataText, listing_outcome}
use Rattle.erd_canon.specs.DataValues.{comparison_data, fault_data, faults_data, refused_data}
use Rattle.erd_canon.specs.EngineTexts.{AreCompared, AreDetailed, IsComparison, IsRefusedReport, comparison_line, lines_of_side, text_of_lines}
use Rattle.erd_canon.specs.Refused.{IsSomeReport}
use Rattle.erd_canon.specs.Run.{comparison_outcome}
use Rattle.erd_canon.specs.declared.engines.outcome.Outcome.{Outcome}
use Rattle.erd_canon.specs.declared.engines.outcome.Outcome.TheVariants.{Good, Bad, NotJson}
use Rattle.erd_canon.specs.declared.data.piece.Piece.{Piece}
use Rattle.erd_canon.specs.declared.data.piece.Told.{Told}

-- The entries that are shown are the front of the list. They are at most `most`, none of them begins once those before it have
-- `enough` bytes or more, and nothing else ends them.
pub record IsFront {A : Type 0} (size : A → ℕ) (most enough : ℕ) (entries shown : List A) : Type 0 where
  pub rest : List A
  pub split : entries ≡ shown ++ rest
  pub few : length shown ≤ most
  pub begun : (k : ℕ) → k < length shown → sum (map size (take k shown)) < enough
  pub full : rest ≢ [] → (length shown ≡ most) ⊎ (enough ≤ sum (map size shown))

-- The entries that are shown are those of the piece: a front of the list behind the first entries, which the piece leaves out.
-- The answer tells how many it shows, and how many the list has.
pub record IsPiece {A : Type 0} (size : A → ℕ) (piece : Piece) (entries shown : List A) (told : Told) : Type 0 where
  pub front : IsFront size piece.most piece.enough_bytes (drop piece.first entries) shown
  pub count : told.count ≡ length shown
  pub all : told.all ≡ length entries

-- An answer that is no list tells of no entry.
pub record TellsNone (told : Told) : Type 0 where
  pub count : told.count ≡ 0
  pub all : told.all ≡ 0

-- The value is the array of the entries of the piece. The size of an entry is that of its compact text.
pub record IsPieceData {A : Type 0} (value_of : A → Data) (piece : Piece) (entries : List A) (told : Told) (value : Data) : Type 0 where
  pub shown : List A
  pub is_piece : IsPiece (λ entry. length (compact_text (value_of entry))) piece entries shown told
  pub is_array : value ≡ array (items_of (map value_of shown))

-- A line behind these words, ended by a line feed.
abbrev pub whole_line : List ℕ → List ℕ → List ℕ
whole_line side line = (side ++ line) ++ 10 ∷ []

-- The text has a line for each entry of the piece, with these words in front. The size of an entry is that of its whole line.
pub record IsPieceLines {A : Type 0} (line_of : A → List ℕ) (side : List ℕ) (piece : Piece) (entries : List A) (told : Told) (text : List ℕ) : Type 0 where
  pub shown : List A
  pub is_piece : IsPiece (λ entry. length (whole_line side (line_of entry))) piece entries shown told
  pub is_text : text ≡ text_of_lines (lines_of_side side (map line_of shown))

-- The bytes are refused with this outcome, and the value says why: the array of a piece of the faults of the report, or the
-- string `not JSON`.
abbrev pub IsRefusalPiece : Preference → List ℕ → Piece → Outcome → Told → Data → Type 0
IsRefusalPiece π bytes piece Good told value = ⊥
IsRefusalPiece π bytes piece Bad told value = (faults : List Fault) × IsRefusedReport π bytes faults × IsPieceData fault_data piece faults told value
IsRefusalPiece π bytes piece NotJson told value = IsNotJson bytes × (value ≡ string (codes "not JSON")) × TellsNone told

-- Checking the bytes ends with this outcome and answers this value: the empty array if the report is accepted, or else why the
-- bytes are refused, with a piece of the faults.
abbrev pub IsCheckPiece : Preference → List ℕ → Piece → Outcome → Told → Data → Type 0
IsCheckPiece π bytes piece Good told value = IsSomeReport π bytes × (value ≡ faults_data []) × TellsNone told
IsCheckPiece π bytes piece Bad told value = IsRefusalPiece π bytes piece Bad told value
IsCheckPiece π bytes piece NotJson told value = IsRefusalPiece π bytes piece NotJson told value

-- The input on one side is refused with this outcome, and the value names the side and says why, with a piece of the faults.
abbrev pub IsSidePiece : Preference → List ℕ → List ℕ → Piece → Outcome → Told → Data → Type 0
IsSidePiece π side bytes piece outcome told value = (why : Data) × IsRefusalPiece π bytes piece outcome told why × (value ≡ refused_data side why)

-- Comparing the two inputs ends with this outcome and answers this value: why the left input is refused, else why the right one
-- is refused, each with a piece of the faults, else null or the first difference.
abbrev pub IsComparePiece : Preference → List ℕ → List ℕ → Piece → Outcome → Told → Data → Type 0
IsComparePiece π left right piece outcome told value =
    IsSidePiece π (codes "left") left piece outcome told value
    ⊎ ((IsSomeReport π left × IsSidePiece π (codes "right") right piece outcome told value)
    ⊎ ((found : Option Difference) × IsComparison π left right found × (outcome ≡ comparison_outcome found) × (value ≡ comparison_data found) × TellsNone told))

-- Listing the differences of the two inputs ends with this outcome and answers this value: why the left input is refused, else
-- why the right one is refused, each with a piece of the faults, else the array of a piece of the differences. These have what
-- differs inside the selections of contests from the first entry of the piece on, as long as it fits into as many bytes as are
-- enough for the piece.
abbrev pub IsListPiece : Preference → List ℕ → List ℕ → Piece → Outcome → Told → Data → Type 0
IsListPiece π left right piece outcome told value =
    IsSidePiece π (codes "left") left piece outcome told value
    ⊎ ((IsSomeReport π left × IsSidePiece π (codes "right") right piece outcome told value)
    ⊎ ((found : List DetailedDifference) × AreDetailed π left right piece.first piece.enough_bytes found × (outcome ≡ listing_outcome found)
    × IsPieceData detailed_data piece found told value))

-- The text is that of a value that meets `Answers`, with what is told of its list.
pub record IsPieceText (Answers : Told → Data → Type 0) (told : Told) (text : List ℕ) : Type 0 where
  pub value : Data
  pub answers : Answers told value
  pub is_text : IsDataText text value

-- The text is the canonical bytes of a report, or says why it is refused, with a piece of the faults.
abbrev pub IsFormPiece : Preference → List ℕ → Piece → Outcome → Told → List ℕ → Type 0
IsFormPiece π bytes piece Good told text = IsCanonicalBytes π bytes text × TellsNone told
IsFormPiece π bytes piece Bad told text = IsPieceText (IsRefusalPiece π bytes piece Bad) told text
IsFormPiece π bytes piece NotJson told text = IsPieceText (IsRefusalPiece π bytes piece NotJson) told text

-- The bytes are refused with this outcome, and the text says why: a line for each fault of a piece, or the line `not JSON`. Each
-- line has these words in front.
abbrev pub IsRefusalLines : Preference → List ℕ → List ℕ → Piece → Outcome → Told → List ℕ → Type 0
IsRefusalLines π side bytes piece Good told text = ⊥
IsRefusalLines π side bytes piece Bad told text = (faults : List Fault) × IsRefusedReport π bytes faults × IsPieceLines fault_line side piece faults told text
IsRefusalLines π side bytes piece NotJson told text = IsNotJson bytes × (text ≡ text_of_lines (lines_of_side side (codes "not JSON" ∷ []))) × TellsNone told

-- Checking the bytes ends with this outcome and this text: the line `accepted`, or why the bytes are refused, with a piece of the
-- faults.
abbrev pub IsCheckLines : Preference → List ℕ → Piece → Outcome → Told → List ℕ → Type 0
IsCheckLines π bytes piece Good told text = IsSomeReport π bytes × (text ≡ text_of_lines (codes "accepted" ∷ [])) × TellsNone told
IsCheckLines π bytes piece Bad told text = IsRefusalLines π [] bytes piece Bad told text
IsCheckLines π bytes piece NotJson told text = IsRefusalLines π [] bytes piece NotJson told text

-- The text is the canonical bytes of a report, or has lines that say why it is refused, with a piece of the faults.
abbrev pub IsFormLines : Preference → List ℕ → Piece → Outcome → Told → List ℕ → Type 0
IsFormLines π bytes piece Good told text = IsCanonicalBytes π bytes text × TellsNone told
IsFormLines π bytes piece Bad told text = IsRefusalLines π [] bytes piece Bad told text
IsFormLines π bytes piece NotJson told text = IsRefusalLines π [] bytes piece NotJson told text

-- Comparing the two inputs ends with this outcome and this text: why the left input is refused, else why the right one is
-- refused, each with a piece of the faults and the name of the side in front of each line, else `same` or the line of the first
-- difference.
abbrev pub IsCompareLines : Preference → List ℕ → List ℕ → Piece → Outcome → Told → List ℕ → Type 0
IsCompareLines π left right piece outcome told text =
    IsRefusalLines π (codes "left: ") left piece outcome told text
    ⊎ ((IsSomeReport π left × IsRefusalLines π (codes "right: ") right piece outcome told text)
    ⊎ ((found : Option Difference) × IsComparison π left right found × (outcome ≡ comparison_outcome found)
    × (text ≡ text_of_lines (comparison_line found ∷ [])) × TellsNone told))

-- The text has a line for each difference of a piece, or the line `same` if there are none.
abbrev pub IsFoundLines : Piece → List Difference → Told → List ℕ → Type 0
IsFoundLines piece [] told text = (text ≡ text_of_lines (codes "same" ∷ [])) × TellsNone told
IsFoundLines piece (d ∷ ds) told text = IsPieceLines difference_line [] piece (d ∷ ds) told text

-- Listing the differences of the two inputs ends with this outcome and this text: why the left input is refused, else why the
-- right one is refused, as a comparison has it, else a line for each difference of a piece.
abbrev pub IsListLines : Preference → List ℕ → List ℕ → Piece → Outcome → Told → List ℕ → Type 0
IsListLines π left right piece outcome told text =
    IsRefusalLines π (codes "left: ") left piece outcome told text
    ⊎ ((IsSomeReport π left × IsRefusalLines π (codes "right: ") right piece outcome told text)
    ⊎ ((found : List Difference) × AreCompared π left right found × (outcome ≡ listing_outcome found) × IsFoundLines piece found told text))
