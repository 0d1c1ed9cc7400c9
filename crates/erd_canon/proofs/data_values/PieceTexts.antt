-- The answers that have a piece of a list.
use Rattle.erd_canon.proofs.Common.{◌≡◌, ℕ, List, [], IsUtf8, sym, refl, subst, inr, arith, Data, Preference, Difference, Option, IsComparison, RefusedAs}
use Rattle.erd_canon.proofs.Common.{RefusedSide, Refusal, refusal, Outcome, Bad, Good, NotJson, comparison_data, AppendsData, AnswersData, TellsSideAs}
use Rattle.erd_compare.specs.SelectionData.{detailed_data}
use Rattle.erd_compare.specs.declared.detailed.DetailedDifference.{DetailedDifference}
use Rattle.erd_canon.specs.DataAnswers.{IsDataText, listing_outcome}
use Rattle.erd_canon.specs.EngineTexts.{AreDetailed}
use Rattle.erd_canon.specs.Pieces.{IsCheckPiece, IsComparePiece, IsFormPiece, IsListPiece, IsPieceData, IsPieceText, IsRefusalPiece, TellsNone}
use Rattle.erd_canon.specs.Run.{comparison_outcome}
use Rattle.erd_canon.specs.code.Fronts.{TellsPieceAs}
use Rattle.erd_canon.specs.declared.bytes.refusal.Side.{Side}
use Rattle.erd_canon.specs.declared.data.piece.Piece.{Piece}
use Rattle.erd_canon.specs.declared.data.piece.Told.{Told}
use Rattle.erd_canon.proofs.data_values.DataTexts.{side_data, text_alone}
use Rattle.erd_canon.proofs.data_values.DataTrees.{IsLowTree, faults_value}
use Rattle.erd_canon.proofs.runs.Listings.{differences_value}

-- ---- the texts

-- what is told of a refusal
pub why_value : (piece : Piece) (outcome : Outcome) (told : Told) (refused : Refusal) (value : Data)
    → TellsPieceAs piece outcome told refused value → IsLowTree value
why_value piece Bad told (refusal.Faults faults) value is = subst IsLowTree (sym is.is_array) (faults_value is.shown)
why_value piece NotJson told refusal.NotJson value is = subst IsLowTree (sym is.0) (tt, omega arith)
why_value piece outcome told refused value is = absurd is

-- the array of differences
pub differences_text : (piece : Piece) (found : List DetailedDifference) (told : Told) (before text : List ℕ) → before ≡ []
    → AppendsData (IsPieceData detailed_data piece found told) before text → IsUtf8 text
    → IsPieceText (IsPieceData detailed_data piece found) told text
differences_text piece found told before text none a utf8 =
    let alone = text_alone (IsPieceData detailed_data piece found told) before text
    (λ d is. subst IsLowTree (sym is.is_array) (differences_value is.shown)) none a utf8 in
    record { value = alone.value; answers = alone.says; is_text = alone.is_text }

-- ---- the answers

pub why_is : (π : Preference) (bytes : List ℕ) (piece : Piece) (outcome : Outcome) (told : Told) (refused : Refusal) (why : Data) → RefusedAs π bytes refused
    → TellsPieceAs piece outcome told refused why
    → IsRefusalPiece π bytes piece outcome told why
why_is π bytes piece Bad told (refusal.Faults faults) why (is, none) tells = (faults, is, tells)
why_is π bytes piece NotJson told refusal.NotJson why not tells = (not, tells.0, tells.1)
why_is π bytes piece outcome told refused why is tells = absurd tells

check_is : (π : Preference) (bytes : List ℕ) (piece : Piece) (outcome : Outcome) (told : Told) (why : Data) → IsRefusalPiece π bytes piece outcome told why
    → IsCheckPiece π bytes piece outcome told why
check_is π bytes piece Good told why is = absurd is
check_is π bytes piece outcome told why is = is

-- a check of refused bytes
pub check_refused : (π : Preference) (bytes : List ℕ) (refused : Refusal) (piece : Piece) (outcome : Outcome) (told : Told) (text : List ℕ)
    → RefusedAs π bytes refused
    → AnswersData (TellsPieceAs piece outcome told refused) text → IsPieceText (IsCheckPiece π bytes piece outcome) told text
check_refused π bytes refused piece outcome told text is a =
    record {
      value = a.value;
      answers = check_is π bytes piece outcome told a.value (why_is π bytes piece outcome told refused a.value is a.says);
      is_text = a.is_text;
    }

form_is : (π : Preference) (bytes : List ℕ) (piece : Piece) (outcome : Outcome) (told : Told) (text : List ℕ)
    → IsPieceText (IsRefusalPiece π bytes piece outcome) told text
    → IsFormPiece π bytes piece outcome told text
form_is π bytes piece Good told text is = absurd is.answers
form_is π bytes piece Bad told text is = is
form_is π bytes piece NotJson told text is = is

-- a canonical form that there is not
pub form_refused : (π : Preference) (bytes : List ℕ) (refused : Refusal) (piece : Piece) (outcome : Outcome) (told : Told) (text : List ℕ)
    → RefusedAs π bytes refused
    → AnswersData (TellsPieceAs piece outcome told refused) text → IsFormPiece π bytes piece outcome told text
form_refused π bytes refused piece outcome told text is a =
    form_is π bytes piece outcome told text
    (record { value = a.value; answers = why_is π bytes piece outcome told refused a.value is a.says; is_text = a.is_text })

-- a comparison, or a list of differences, of which one side is refused
pub sides_refused : (π : Preference) (left right : List ℕ) (s : Side) (piece : Piece) (outcome : Outcome) (told : Told) (text : List ℕ)
    → RefusedSide π left right s
    → AnswersData (TellsSideAs (TellsPieceAs piece outcome told) s) text
    → IsPieceText (IsComparePiece π left right piece outcome) told text × IsPieceText (IsListPiece π left right piece outcome) told text
sides_refused π left right s piece outcome told text is a =
    let names = λ (Both : Type 0). side_data (TellsPieceAs piece outcome told) (λ bytes. IsRefusalPiece π bytes piece outcome told) π left right s a.value Both
    (λ bytes. why_is π bytes piece outcome told) is a.says in
    (record { value = a.value; answers = names _; is_text = a.is_text }, record { value = a.value; answers = names _; is_text = a.is_text })

-- one of two accepted reports
pub both_compared : (π : Preference) (left right : List ℕ) (piece : Piece) (outcome : Outcome) (told : Told) (text : List ℕ) (found : Option Difference)
    → IsComparison π left right found
    → outcome ≡ comparison_outcome found → TellsNone told → IsDataText text (comparison_data found)
    → IsPieceText (IsComparePiece π left right piece outcome) told text
both_compared π left right piece outcome told text found is ends none written =
    record { value = comparison_data found; answers = inr (inr (found, is, ends, refl, none)); is_text = written }

pub both_listed : (π : Preference) (left right : List ℕ) (piece : Piece) (outcome : Outcome) (told : Told) (text : List ℕ) (found : List DetailedDifference)
    → AreDetailed π left right piece.first piece.enough_bytes found
    → outcome ≡ listing_outcome found → IsPieceText (IsPieceData detailed_data piece found) told text
    → IsPieceText (IsListPiece π left right piece outcome) told text
both_listed π left right piece outcome told text found is ends written =
    record { value = written.value; answers = inr (inr (found, is, ends, written.answers)); is_text = written.is_text }
