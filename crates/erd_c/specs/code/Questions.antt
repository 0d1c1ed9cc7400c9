-- What the calls ask for that answer with a piece of a list.
use Rattle.std.specs.Prelude.{ℕ, List, length, max}
use Rattle.erd_meaning.specs.Keys.{Preference}
use Rattle.erd_canon.specs.Pieces.{IsCheckLines, IsCheckPiece, IsCompareLines, IsComparePiece, IsFormLines, IsFormPiece, IsListLines, IsListPiece, IsPieceText}
use Rattle.erd_canon.specs.ValuedAnswers.{IsValuesPiece}
use Rattle.erd_canon.specs.WordAnswers.{IsWordsPiece}
use Rattle.erd_canon.specs.declared.data.piece.Piece.{Piece}
use Rattle.erd_canon.specs.declared.data.piece.Told.{Told as PieceTold}
use Rattle.erd_canon.specs.declared.engines.outcome.Outcome.{Outcome}
use Rattle.erd_c.specs.declared.questions.Question.{Question}
use Rattle.erd_c.specs.declared.questions.Question.TheVariants.{CanonicalData, CanonicalLines, CheckData, CheckLines, CompareData, CompareLines}
use Rattle.erd_c.specs.declared.questions.Question.TheVariants.{DifferencesData, DifferencesLines, DifferencesValues, Words}

-- What the answers are.
abbrev pub answers_of : Question → Preference → Piece → Outcome → PieceTold → List ℕ → Type 0
answers_of (CheckData bytes) = λ π piece outcome. IsPieceText (IsCheckPiece π bytes.now piece outcome)
answers_of (CanonicalData bytes) = λ π. IsFormPiece π bytes.now
answers_of (CompareData left right) = λ π piece outcome. IsPieceText (IsComparePiece π left.now right.now piece outcome)
answers_of (DifferencesData left right) = λ π piece outcome. IsPieceText (IsListPiece π left.now right.now piece outcome)
answers_of (DifferencesValues left right) = λ π. IsValuesPiece π left.now right.now
answers_of (Words bytes) = λ π. IsWordsPiece π bytes.now
answers_of (CheckLines bytes) = λ π. IsCheckLines π bytes.now
answers_of (CanonicalLines bytes) = λ π. IsFormLines π bytes.now
answers_of (CompareLines left right) = λ π. IsCompareLines π left.now right.now
answers_of (DifferencesLines left right) = λ π. IsListLines π left.now right.now

-- The length of the longest report.
abbrev pub longest_of : Question → ℕ
longest_of (CheckData bytes) = length bytes.now
longest_of (CanonicalData bytes) = length bytes.now
longest_of (CompareData left right) = max (length left.now) (length right.now)
longest_of (DifferencesData left right) = max (length left.now) (length right.now)
longest_of (DifferencesValues left right) = max (length left.now) (length right.now)
longest_of (Words bytes) = length bytes.now
longest_of (CheckLines bytes) = length bytes.now
longest_of (CanonicalLines bytes) = length bytes.now
longest_of (CompareLines left right) = max (length left.now) (length right.now)
longest_of (DifferencesLines left right) = max (length left.now) (length right.now)
