-- What a caller has who takes a list piece by piece.
use Rattle.std.specs.Prelude.{ℕ, ◌≡◌, ◌+◌, ◌<◌, ◌≤◌, ◌++◌, List, [], ◌∷◌, map}
use Rattle.std.specs.List.{AllByRecursion, flat_map}
use Rattle.serde_json.specs.Data.{Data, array}
use Rattle.serde_json.specs.View.{items_of}
use Rattle.erd_meaning.specs.Keys.{Preference}
use Rattle.erd_canon.specs.Answering.{IsListed}
use Rattle.erd_canon.specs.EngineTexts.{lines_of_side, text_of_lines}
use Rattle.erd_canon.specs.Pieces.{IsCheckLines, IsCompareLines, IsFormLines, IsListLines, IsPieceData, IsPieceLines}
use Rattle.erd_canon.specs.Run.{IsAnswered, IsChecked, IsCompared}
use Rattle.erd_canon.specs.declared.data.piece.Piece.{Piece}
use Rattle.erd_canon.specs.declared.data.piece.Told.{Told}
use Rattle.erd_canon.specs.declared.engines.outcome.Outcome.{Outcome}

-- One answer of a call for a piece of a list: the piece that was asked for, what is told of the list, and the answer.
pub record Taken (T : Type 0) : Type 0 where
  pub piece : Piece
  pub told : Told
  pub answer : T

-- The call answers this, and the piece leaves out `before` entries.
abbrev pub IsTakenFrom : {T : Type 0} → (Piece → Told → T → Type 0) → ℕ → Taken T → Type 0
IsTakenFrom Answers before taken = (taken.piece.first ≡ before) × Answers taken.piece taken.told taken.answer

-- The answers of a caller who takes a list from its entry with the number `before` on. Each piece begins where the one before it
-- ended. The caller goes on while entries are left, and then asks no more.
abbrev pub AreTaken : {T : Type 0} → (Piece → Told → T → Type 0) → ℕ → List (Taken T) → Type 0
AreTaken Answers before [] = ⊥
AreTaken Answers before (taken ∷ []) = IsTakenFrom Answers before taken × (before + taken.told.count ≡ taken.told.all)
AreTaken Answers before (taken ∷ next ∷ later) =
    IsTakenFrom Answers before taken × (before + taken.told.count < taken.told.all) × AreTaken Answers (before + taken.told.count) (next ∷ later)

-- The texts of the pieces of a list of lines are together the text of the whole list: it has each entry, and none twice.
abbrev pub PiecesAreTheLines : {A : Type 0} → (A → List ℕ) → Type 0
PiecesAreTheLines {A} line_of = (side : List ℕ) (entries : List A) (taken : List (Taken (List ℕ)))
    → AreTaken (λ piece. IsPieceLines line_of side piece entries) 0 taken
    → flat_map (λ one. one.answer) taken ≡ text_of_lines (lines_of_side side (map line_of entries))

-- The values are arrays, and these are their entries, those of one array behind those of the one before it.
abbrev pub AreEntries : List Data → List Data → Type 0
AreEntries [] entries = entries ≡ []
AreEntries (value ∷ values) entries = (some : List Data) × (others : List Data) × (value ≡ array (items_of some)) × (entries ≡ some ++ others)
    × AreEntries values others

-- The arrays of the pieces of a list have together each entry of the list, and none twice, in the order of the list.
abbrev pub PiecesAreTheEntries : {A : Type 0} → (A → Data) → Type 0
PiecesAreTheEntries {A} value_of = (entries : List A) (taken : List (Taken Data))
    → AreTaken (λ piece. IsPieceData value_of piece entries) 0 taken
    → AreEntries (map (λ one. one.answer) taken) (map value_of entries)

-- While entries are left, a piece that may have an entry and a byte has one. Behind the last entry it has none.
abbrev pub GoesOn : Piece → Told → Type 0
GoesOn piece told = (0 < piece.most → 0 < piece.enough_bytes → piece.first < told.all → 0 < told.count) × (told.all ≤ piece.first → told.count ≡ 0)

-- Pieces of lines go on until the list ends.
abbrev pub LinesGoOn : {A : Type 0} → (A → List ℕ) → Type 0
LinesGoOn {A} line_of = (side : List ℕ) (piece : Piece) (entries : List A) (told : Told) (text : List ℕ)
    → IsPieceLines line_of side piece entries told text → GoesOn piece told

-- Pieces of values go on until the list ends.
abbrev pub EntriesGoOn : {A : Type 0} → (A → Data) → Type 0
EntriesGoOn {A} value_of = (piece : Piece) (entries : List A) (told : Told) (value : Data) → IsPieceData value_of piece entries told value → GoesOn piece told

-- ---- the calls that answer with lines

-- One answer of a call that answers with lines: the outcome and the text.
abbrev pub TakenText : Type 0
TakenText = Taken (Outcome × List ℕ)

-- The texts of the answers, those of one behind those of the answer before it.
abbrev pub text_taken : List TakenText → List ℕ
text_taken taken = flat_map (λ one. one.answer.1) taken

-- Whoever takes all answers of a call has together the text that `Writes` allows for the whole, with the outcome of each of them.
abbrev pub PiecesAreTheText : (Piece → Outcome → Told → List ℕ → Type 0) → (Outcome → List ℕ → Type 0) → Type 0
PiecesAreTheText Answers Writes = (taken : List TakenText)
    → AreTaken (λ piece told answer. Answers piece answer.0 told answer.1) 0 taken
    → AllByRecursion (λ one. Writes one.answer.0 (text_taken taken)) taken

-- The pieces of a check are together what checking writes.
abbrev pub PiecesAreTheCheck : Type 0
PiecesAreTheCheck = (π : Preference) (bytes : List ℕ) → PiecesAreTheText (IsCheckLines π bytes) (IsChecked π bytes)

-- The text is what canonicalising writes, to its output or to its errors.
abbrev pub IsFormText : Preference → List ℕ → Outcome → List ℕ → Type 0
IsFormText π bytes outcome text = (out : List ℕ) × (err : List ℕ) × IsAnswered π bytes outcome out err × (text ≡ out ++ err)

-- The pieces of a canonical form, or of why there is none, are together what canonicalising writes.
abbrev pub PiecesAreTheForm : Type 0
PiecesAreTheForm = (π : Preference) (bytes : List ℕ) → PiecesAreTheText (IsFormLines π bytes) (IsFormText π bytes)

-- The pieces of a comparison are together what comparing writes.
abbrev pub PiecesAreTheComparison : Type 0
PiecesAreTheComparison = (π : Preference) (left right : List ℕ) → PiecesAreTheText (IsCompareLines π left right) (IsCompared π left right)

-- The pieces of the list of all differences are together what listing the differences writes.
abbrev pub PiecesAreTheListing : Type 0
PiecesAreTheListing = (π : Preference) (left right : List ℕ) → PiecesAreTheText (IsListLines π left right) (IsListed π left right)
