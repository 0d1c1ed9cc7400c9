-- What the list of what ballots print answers.
use Rattle.erd_canon.proofs.Common.{◌≡◌, ℕ, false, List, [], ◌∷◌, ◌++◌, map, refl, ap, sym, subst, ◌∙◌, Data, array, items_of, view, Preference}
use Rattle.erd_canon.proofs.Common.{AnswersData, Outcome, Good, Bad, NotJson, RefusedAs, Refusal, IsTreeOf, IsAccepted}
use Rattle.erd_meaning.specs.Judged.{Judged}
use Rattle.erd_shown.specs.WordList.{worded_objects}
use Rattle.erd_shown.specs.declared.word_list.WordedObject.{WordedObject}
use Rattle.erd_canon.specs.DataAnswers.{IsDataText}
use Rattle.erd_canon.specs.Pieces.{IsPiece, IsRefusalPiece}
use Rattle.erd_canon.specs.WordAnswers.{IsWordsPiece, TellsWords}
use Rattle.erd_canon.specs.code.Fronts.{AppendsEntries, TellsPieceAs, joined_text}
use Rattle.erd_canon.specs.code.WordTexts.{AnyObject, worded_of, worded_size, worded_text}
use Rattle.erd_canon.specs.declared.data.piece.Piece.{Piece}
use Rattle.erd_canon.specs.declared.data.piece.Told.{Told}
use Rattle.erd_canon.proofs.data_values.Fronts.{joined_items}
use Rattle.erd_canon.proofs.data_values.PieceTexts.{why_is}

-- the entries of a piece between brackets
pub words_told : (r : Judged) (piece : Piece) (objects : List WordedObject) (told : Told) (none first second after : List ℕ)
    → objects ≡ worded_objects r.prefer (view r.tree) → none ≡ [] → first ≡ none ++ 91 ∷ []
    → AppendsEntries (worded_size r) (worded_text r) AnyObject piece objects told first second → after ≡ second ++ 93 ∷ []
    → TellsWords r.prefer (view r.tree) piece told after
words_told r piece objects told none first second after are empty opened a closed =
    let entries_text = joined_text (worded_text r) false a.shown in
    record {
      value = array (items_of (map (worded_of r) a.shown));
      tells = record {
        shown = a.shown;
        is_piece = subst (λ (os : List WordedObject). IsPiece (worded_size r) piece os a.shown told) are a.is_piece;
        is_array = refl;
      };
      written = closed ∙ ap (λ x. x ++ 93 ∷ []) (a.wrote ∙ ap (λ x. x ++ entries_text) (opened ∙ ap (λ x. x ++ 91 ∷ []) empty))
          ∙ ap (λ x. 91 ∷ x) (joined_items (worded_of r) false a.shown);
    }

refusal_told : (π : Preference) (bytes : List ℕ) (piece : Piece) (outcome : Outcome) (told : Told) (text : List ℕ) (value : Data)
    → IsRefusalPiece π bytes piece outcome told value → IsDataText text value → IsWordsPiece π bytes piece outcome told text
refusal_told π bytes piece Good told text value is written = absurd is
refusal_told π bytes piece Bad told text value is written = record { value = value; answers = is; is_text = written }
refusal_told π bytes piece NotJson told text value is written = record { value = value; answers = is; is_text = written }

-- the answer if the bytes are refused
pub words_refused : (π : Preference) (bytes : List ℕ) (refused : Refusal) (piece : Piece) (outcome : Outcome) (told : Told) (text : List ℕ)
    → RefusedAs π bytes refused
    → AnswersData (TellsPieceAs piece outcome told refused) text → IsWordsPiece π bytes piece outcome told text
words_refused π bytes refused piece outcome told text is a =
    refusal_told π bytes piece outcome told text a.value (why_is π bytes piece outcome told refused a.value is a.says) a.is_text

-- the answer for an accepted report
pub words_accepted : (π : Preference) (bytes : List ℕ) (t u : Data) (piece : Piece) (outcome : Outcome) (told : Told) (text : List ℕ)
    → IsTreeOf bytes t → IsAccepted π t → u ≡ t → outcome ≡ Good → TellsWords π u piece told text → IsWordsPiece π bytes piece outcome told text
words_accepted π bytes t u piece outcome told text read accepted same ends tells =
    subst (λ o. IsWordsPiece π bytes piece o told text) (sym ends)
    (record { tree = t; accepted = record { read = read; accepted = accepted }; tells = subst (λ (v : Data). TellsWords π v piece told text) same tells })
