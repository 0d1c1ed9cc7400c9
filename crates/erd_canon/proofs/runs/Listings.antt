-- What a list of the differences of two accepted reports answers.
use Rattle.erd_canon.proofs.Common.{◌≡◌, ℕ, ◌≤◌, Result, Ok, Err, IfOk, List, [], ◌∷◌, subst, refl, inr, arith, Data, IsAccepted, Preference, meaning, IsTreeOf}
use Rattle.erd_canon.proofs.Common.{RefusedSide, TellsRefusalAs, TellsSideAs, AnswersData, Outcome, IsUtf8, compact_text, items_depth, ItemsHaveFittingNumbers}
use Rattle.erd_canon.proofs.Common.{items_of, map, AreTrees}
use Rattle.erd_compare.specs.SelectionData.{detailed_data}
use Rattle.erd_compare.specs.SelectionDifferences.{AreDetailedDifferences}
use Rattle.erd_compare.specs.declared.detailed.DetailedDifference.{DetailedDifference}
use Rattle.erd_canon.specs.DataAnswers.{IsComparedData, IsDataText, IsListedData, IsRefusalData, any_size, listing_outcome}
use Rattle.erd_canon.specs.DataValues.{differences_data}
use Rattle.erd_canon.specs.EngineTexts.{AreDetailed}
use Rattle.erd_canon.specs.declared.bytes.refusal.Side.{Side}
use Rattle.erd_canon.proofs.data_values.DataTexts.{data_text, refusal_data, side_data}
use Rattle.erd_canon.proofs.data_values.DataTrees.{IsLowTree}
use Rattle.erd_canon.proofs.data_values.DetailedTrees.{detailed_value}

-- the differences of the meanings of two trees that bytes are
pub listed : (π : Preference) (left right : List ℕ) (first most : ℕ) (t u r s : Data) (found : List DetailedDifference) → IsTreeOf left t → IsAccepted π t
    → r ≡ t → IsTreeOf right u → IsAccepted π u → s ≡ u
    → AreDetailedDifferences (meaning π r) (meaning π s) first most found → AreDetailed π left right first most found
listed π left right first most t u r s found left_read left_accepted left_same right_read right_accepted right_same is = record {
  left_tree = t;
  right_tree = u;
  left_accepted = record { read = left_read; accepted = left_accepted };
  right_accepted = record { read = right_read; accepted = right_accepted };
  differences = subst (λ d. AreDetailedDifferences (meaning π d) (meaning π u) first most found) left_same
      (subst (λ d. AreDetailedDifferences (meaning π r) (meaning π d) first most found) right_same is);
}

-- ---- the text

trees : (ds : List DetailedDifference) → AreTrees (items_of (map detailed_data ds))
trees [] = tt
trees (d ∷ ds) = ((detailed_value d).tree, trees ds)

fitting : (ds : List DetailedDifference) → ItemsHaveFittingNumbers (items_of (map detailed_data ds))
fitting [] = tt
fitting (d ∷ ds) = ((detailed_value d).fits, fitting ds)

low : (ds : List DetailedDifference) → items_depth (items_of (map detailed_data ds)) ≤ 6
low [] = omega arith
low (d ∷ ds) = let here = (detailed_value d).low in omega (arith, here, low ds)

pub differences_value : (ds : List DetailedDifference) → IsLowTree (differences_data ds)
differences_value ds = (trees ds, omega (arith, low ds))

pub list_text : (text : List ℕ) (ds : List DetailedDifference) → IsUtf8 text → text ≡ compact_text (differences_data ds) → IsDataText text (differences_data ds)
list_text text ds utf8 is = data_text text (differences_data ds) utf8 is (trees ds) (fitting ds) (omega (arith, low ds))

-- ---- the answers

-- if a report is refused
pub sides_refused : (π : Preference) (left right : List ℕ) (s : Side) (outcome : Outcome) (text : List ℕ) → RefusedSide π left right s
    → AnswersData (TellsSideAs (TellsRefusalAs outcome) s) text
    → IsComparedData π left right outcome text × IsListedData π left right outcome text
sides_refused π left right s outcome text is a =
    let names = λ (Both : Type 0). side_data (TellsRefusalAs outcome) (λ bytes. IsRefusalData π bytes outcome) π left right s a.value Both
    (λ bytes. refusal_data π bytes outcome) is a.says in
    (record { value = a.value; compared = names _; is_text = a.is_text }, record { value = a.value; listed = names _; is_text = a.is_text })

pub both_listed : (π : Preference) (left right text : List ℕ) (outcome : Outcome) (ds : List DetailedDifference) → AreDetailed π left right 0 any_size ds
    → outcome ≡ listing_outcome ds → IsDataText text (differences_data ds)
    → IsListedData π left right outcome text
both_listed π left right text outcome ds is ends written = record { value = differences_data ds; listed = inr (inr (ds, is, ends, refl)); is_text = written }

-- what holds of any answer
pub always : {T E : Type 0} (r : Result T E) (P : Type 0) → P → IfOk r (λ _. P)
always (Ok x) P p = p
always (Err e) P p = tt

-- what follows from two facts about an answer
pub both_facts : {T E : Type 0} (r : Result T E) (P Q R : T → Type 0) → ((x : T) → P x → Q x → R x) → IfOk r P → IfOk r Q → IfOk r R
both_facts (Ok x) P Q R follows p q = follows x p q
both_facts (Err e) P Q R follows p q = tt
