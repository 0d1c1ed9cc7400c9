-- What a call on the ballots of two reports answers.
use Rattle.erd_canon.proofs.Common.{◌≡◌, ℕ, List, ◌⊎◌, inl, inr, codes, sym, subst, Data, Preference, IsAccepted, IsTreeOf, IsSomeReport, RefusedSide}
use Rattle.erd_canon.proofs.Common.{AnswersData, TellsRefusalAs, TellsSideAs, NamesSide, Outcome}
use Rattle.erd_canon.specs.BallotAnswers.{AreBothTold, IsPairData, IsSideText, Said, TellsDiffering}
use Rattle.erd_canon.specs.DataAnswers.{IsDataText, IsRefusalData, listing_outcome}
use Rattle.erd_canon.specs.declared.bytes.refusal.Side.{Side}
use Rattle.erd_canon.proofs.data_values.DataTexts.{refusal_data, side_data}
use Rattle.erd_shown.specs.BallotDifferences.{AreBallotDifferences, StyleFound}

-- what is told of the trees that bytes are
pub both_told : (Tells : Data → Data → Outcome → List ℕ → Type 0) (π : Preference) (left right : List ℕ) (t u r s : Data) (outcome : Outcome) (text : List ℕ)
    → IsTreeOf left t → IsAccepted π t → r ≡ t → IsTreeOf right u → IsAccepted π u → s ≡ u → Tells r s outcome text
    → AreBothTold Tells π left right outcome text
both_told Tells π left right t u r s outcome text left_read left_accepted left_same right_read right_accepted right_same tells = record {
  left_tree = t;
  right_tree = u;
  left_accepted = record { read = left_read; accepted = left_accepted };
  right_accepted = record { read = right_read; accepted = right_accepted };
  tells = subst (λ d. Tells d u outcome text) left_same (subst (λ d. Tells r d outcome text) right_same tells);
}

-- which ballots are not the same under one preference
pub differing_told : (IsSaid : Said) (π ρ : Preference) (t u : Data) (found : List StyleFound) (outcome : Outcome) (text : List ℕ) → π ≡ ρ
    → AreBallotDifferences π t ρ u found
    → outcome ≡ listing_outcome found → IsSaid π t u found text → TellsDiffering IsSaid π t u outcome text
differing_told IsSaid π ρ t u found outcome text same differ ends said =
    record { found = found; differ = subst (λ (σ : Preference). AreBallotDifferences π t σ u found) (sym same) differ; ends = ends; said = said }

with_text : (π : Preference) (left right : List ℕ) (outcome : Outcome) (text : List ℕ) (value : Data) (Both : Type 0) → IsDataText text value
    → NamesSide (codes "left") (IsRefusalData π left outcome) value
    ⊎ ((IsSomeReport π left × NamesSide (codes "right") (IsRefusalData π right outcome) value) ⊎ Both)
    → IsSideText π (codes "left") left outcome text ⊎ ((IsSomeReport π left × IsSideText π (codes "right") right outcome text) ⊎ Both)
with_text π left right outcome text value Both written (inl refused) = inl (record { value = value; refused = refused; is_text = written })
with_text π left right outcome text value Both written (inr (inl (accepted, refused))) =
    inr (inl (accepted, record { value = value; refused = refused; is_text = written }))
with_text π left right outcome text value Both written (inr (inr both)) = inr (inr both)

-- the answer if the bytes of a side are refused
pub refused_pair : (Tells : Data → Data → Outcome → List ℕ → Type 0) (π : Preference) (left right : List ℕ) (s : Side) (outcome : Outcome) (text : List ℕ)
    → RefusedSide π left right s
    → AnswersData (TellsSideAs (TellsRefusalAs outcome) s) text → IsPairData Tells π left right outcome text
refused_pair Tells π left right s outcome text is a =
    with_text π left right outcome text a.value (AreBothTold Tells π left right outcome text) a.is_text
    (side_data (TellsRefusalAs outcome) (λ bytes. IsRefusalData π bytes outcome) π left right s a.value _ (λ bytes. refusal_data π bytes outcome) is a.says)
