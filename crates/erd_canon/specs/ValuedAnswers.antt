-- What the call answers that lists differences with values. docs/API.md describes the answers.
use Rattle.std.specs.Prelude.{ℕ, ◌≡◌, ◌⊎◌, List, codes}
use Rattle.serde_json.specs.Data.{Data}
use Rattle.serde_json.specs.Written.{compact_text}
use Rattle.erd_meaning.specs.Keys.{Preference}
use Rattle.erd_meaning.specs.Records.{meaning}
use Rattle.erd_compare.specs.SelectionDifferences.{AreDetailedDifferences}
use Rattle.erd_compare.specs.declared.detailed.DetailedDifference.{DetailedDifference}
use Rattle.erd_canon.specs.BallotAnswers.{AreBothTold}
use Rattle.erd_canon.specs.DataAnswers.{any_size, listing_outcome}
use Rattle.erd_canon.specs.Pieces.{IsPieceData, IsPieceText, IsSidePiece}
use Rattle.erd_canon.specs.Refused.{IsSomeReport}
use Rattle.erd_canon.specs.ValuedData.{valued_data}
use Rattle.erd_canon.specs.declared.data.piece.Piece.{Piece}
use Rattle.erd_canon.specs.declared.data.piece.Told.{Told}
use Rattle.erd_canon.specs.declared.engines.outcome.Outcome.{Outcome}

-- The text is that of the array of a piece of all differences of two trees, each with what both have there. From the first entry
-- of the piece on, they have what differs inside the selections of contests, as long as it fits into as many bytes as are enough
-- for the piece. What both contests have there is told as long as it fits into as many bytes for each difference. The outcome is
-- good if and only if there are none.
pub record TellsValues (π : Preference) (piece : Piece) (told : Told) (t u : Data) (outcome : Outcome) (text : List ℕ) : Type 0 where
  pub found : List DetailedDifference
  pub differ : AreDetailedDifferences (meaning π t) (meaning π u) piece.first piece.enough_bytes found
  pub ends : outcome ≡ listing_outcome found
  pub value : Data
  pub tells : IsPieceData (valued_data π t π u piece.enough_bytes) piece found told value
  pub written : text ≡ compact_text value

-- Listing the differences with their values ends with this outcome and answers this text: why the left input is refused, else why
-- the right one is refused, each with a piece of the faults, else a piece of the differences.
abbrev pub IsValuesPiece : Preference → List ℕ → List ℕ → Piece → Outcome → Told → List ℕ → Type 0
IsValuesPiece π left right piece outcome told text =
    IsPieceText (IsSidePiece π (codes "left") left piece outcome) told text
    ⊎ ((IsSomeReport π left × IsPieceText (IsSidePiece π (codes "right") right piece outcome) told text)
    ⊎ AreBothTold (TellsValues π piece told) π left right outcome text)

-- The piece that leaves out no entry, and whose bounds are the greatest number of a machine word.
abbrev pub any_piece : Piece
any_piece = record { first = 0; most = any_size; enough_bytes = any_size }

-- Listing the differences with their values ends with this outcome and answers the whole list: as many entries as there are.
pub record IsValuesList (π : Preference) (left right : List ℕ) (outcome : Outcome) (text : List ℕ) : Type 0 where
  pub told : Told
  pub answers : IsValuesPiece π left right any_piece outcome told text
  pub whole : told.count ≡ told.all
