-- What the list of differences with their values answers.
use Rattle.erd_canon.proofs.Common.{◌≡◌, ℕ, false, List, [], ◌∷◌, ◌++◌, ◌⊎◌, inl, inr, map, codes, refl, sym, ap, ◌∙◌, subst, Data, array, items_of, view, Bor}
use Rattle.erd_canon.proofs.Common.{Preference, meaning, IsSomeReport, RefusedSide, AnswersData, TellsSideAs, NamesSide, Outcome}
use Rattle.erd_meaning.specs.Judged.{Judged}
use Rattle.erd_compare.specs.SelectionDifferences.{AreDetailedDifferences}
use Rattle.erd_compare.specs.declared.detailed.DetailedDifference.{DetailedDifference}
use Rattle.erd_canon.specs.BallotAnswers.{AreBothTold}
use Rattle.erd_canon.specs.DataAnswers.{IsDataText, listing_outcome}
use Rattle.erd_canon.specs.Pieces.{IsPieceData, IsPieceText, IsRefusalPiece, IsSidePiece}
use Rattle.erd_canon.specs.ValuedAnswers.{IsValuesPiece, TellsValues}
use Rattle.erd_canon.specs.ValuedData.{valued_data}
use Rattle.erd_canon.specs.code.Fronts.{AppendsEntries, TellsPieceAs, joined_text}
use Rattle.erd_canon.specs.code.ValuedTexts.{Anything, TellsEntries, valued_of, valued_size, valued_text}
use Rattle.erd_canon.specs.declared.bytes.refusal.Side.{Side}
use Rattle.erd_canon.specs.declared.data.valued.Sides.{Sides}
use Rattle.erd_canon.specs.declared.data.piece.Piece.{Piece}
use Rattle.erd_canon.specs.declared.data.piece.Told.{Told}
use Rattle.erd_canon.proofs.data_values.DataTexts.{side_data}
use Rattle.erd_canon.proofs.data_values.Fronts.{joined_items}
use Rattle.erd_canon.proofs.data_values.PieceTexts.{why_is}

-- the entries of a piece between brackets
pub entries_told : (s : Sides) (piece : Piece) (found : List DetailedDifference) (told : Told) (none first second after : List ℕ) → none ≡ []
    → first ≡ none ++ 91 ∷ []
    → AppendsEntries (valued_size s) (valued_text s) Anything piece found told first second → after ≡ second ++ 93 ∷ [] → TellsEntries s piece found told after
entries_told s piece found told none first second after empty opened a closed =
    let entries_text = joined_text (valued_text s) false a.shown in (
      array (items_of (map (valued_of s) a.shown)),
      record { shown = a.shown; is_piece = a.is_piece; is_array = refl },
      closed ∙ ap (λ x. x ++ 93 ∷ []) (a.wrote ∙ ap (λ x. x ++ entries_text) (opened ∙ ap (λ x. x ++ 91 ∷ []) empty))
          ∙ ap (λ x. 91 ∷ x) (joined_items (valued_of s) false a.shown),
    )

-- what is told of two reports under one preference
pub values_told : (left right : Bor Judged) (piece : Piece) (found : List DetailedDifference) (told : Told) (outcome : Outcome) (text : List ℕ)
    → left.now.prefer ≡ right.now.prefer
    → AreDetailedDifferences (meaning left.now.prefer (view left.now.tree)) (meaning right.now.prefer (view right.now.tree)) piece.first piece.enough_bytes
    found → outcome ≡ listing_outcome found
    → TellsEntries (record { left = left; right = right; most_bytes = piece.enough_bytes }) piece found told text
    → TellsValues left.now.prefer piece told (view left.now.tree) (view right.now.tree) outcome text
values_told left right piece found told outcome text same differ ends tells =
    let π = left.now.prefer in
    let t = view left.now.tree in
    let u = view right.now.tree in
    record {
      found = found;
      differ = subst (λ (σ : Preference). AreDetailedDifferences (meaning π t) (meaning σ u) piece.first piece.enough_bytes found) (sym same) differ;
      ends = ends;
      value = tells.0;
      tells = subst (λ (σ : Preference). IsPieceData (valued_data π t σ u piece.enough_bytes) piece found told tells.0) (sym same) tells.1;
      written = tells.2;
    }

-- the answer if the bytes of a side are refused
with_piece : (π : Preference) (left right : List ℕ) (piece : Piece) (outcome : Outcome) (told : Told) (text : List ℕ) (value : Data) (Both : Type 0)
    → IsDataText text value
    → NamesSide (codes "left") (IsRefusalPiece π left piece outcome told) value
    ⊎ ((IsSomeReport π left × NamesSide (codes "right") (IsRefusalPiece π right piece outcome told) value) ⊎ Both)
    → IsPieceText (IsSidePiece π (codes "left") left piece outcome) told text
    ⊎ ((IsSomeReport π left × IsPieceText (IsSidePiece π (codes "right") right piece outcome) told text) ⊎ Both)
with_piece π left right piece outcome told text value Both written (inl refused) = inl (record { value = value; answers = refused; is_text = written })
with_piece π left right piece outcome told text value Both written (inr (inl (accepted, refused))) =
    inr (inl (accepted, record { value = value; answers = refused; is_text = written }))
with_piece π left right piece outcome told text value Both written (inr (inr both)) = inr (inr both)

pub values_refused : (π : Preference) (left right : List ℕ) (s : Side) (piece : Piece) (outcome : Outcome) (told : Told) (text : List ℕ)
    → RefusedSide π left right s
    → AnswersData (TellsSideAs (TellsPieceAs piece outcome told) s) text → IsValuesPiece π left right piece outcome told text
values_refused π left right s piece outcome told text is a =
    with_piece π left right piece outcome told text a.value (AreBothTold (TellsValues π piece told) π left right outcome text) a.is_text
    (side_data (TellsPieceAs piece outcome told) (λ bytes. IsRefusalPiece π bytes piece outcome told) π left right s a.value _
    (λ bytes. why_is π bytes piece outcome told) is a.says)
