-- What the call answers that lists what ballots print. docs/API.md describes the answers.
use Rattle.std.specs.Prelude.{ℕ, ◌≡◌, List}
use Rattle.serde_json.specs.Data.{Data}
use Rattle.serde_json.specs.Written.{compact_text}
use Rattle.erd_meaning.specs.Keys.{Preference}
use Rattle.erd_shown.specs.WordList.{worded_data, worded_objects}
use Rattle.erd_canon.specs.Bytes.{IsAcceptedReport}
use Rattle.erd_canon.specs.Pieces.{IsPieceData, IsPieceText, IsRefusalPiece}
use Rattle.erd_canon.specs.declared.data.piece.Piece.{Piece}
use Rattle.erd_canon.specs.declared.data.piece.Told.{Told}
use Rattle.erd_canon.specs.declared.engines.outcome.Outcome.{Outcome}
use Rattle.erd_canon.specs.declared.engines.outcome.Outcome.TheVariants.{Good, Bad, NotJson}

-- The text is that of the array of a piece of the list: an entry for each object of the tree of which ballots print anything.
pub record TellsWords (π : Preference) (t : Data) (piece : Piece) (told : Told) (text : List ℕ) : Type 0 where
  pub value : Data
  pub tells : IsPieceData (worded_data π t) piece (worded_objects π t) told value
  pub written : text ≡ compact_text value

-- The bytes are an accepted report, and the text is that of a piece of its list.
pub record AreWordsTold (π : Preference) (bytes : List ℕ) (piece : Piece) (told : Told) (text : List ℕ) : Type 0 where
  pub tree : Data
  pub accepted : IsAcceptedReport π bytes tree
  pub tells : TellsWords π tree piece told text

-- Listing what ballots print ends with this outcome and answers this text: a piece of the list if the report is accepted, or else
-- why the bytes are refused, with a piece of the faults.
abbrev pub IsWordsPiece : Preference → List ℕ → Piece → Outcome → Told → List ℕ → Type 0
IsWordsPiece π bytes piece Good told text = AreWordsTold π bytes piece told text
IsWordsPiece π bytes piece Bad told text = IsPieceText (IsRefusalPiece π bytes piece Bad) told text
IsWordsPiece π bytes piece NotJson told text = IsPieceText (IsRefusalPiece π bytes piece NotJson) told text
