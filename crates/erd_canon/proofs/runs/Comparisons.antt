-- What a comparison of two accepted reports answers, and what is written of it.
use Rattle.erd_canon.proofs.Common.{◌≡◌, ℕ, List, [], ◌∷◌, map, OnOk, Some, codes, Option, refl, subst, inl, inr, Data, IsAccepted, Preference, meaning, IfOk}
use Rattle.erd_canon.proofs.Common.{Ok, Err, Result, IsDifference, Appends, fault_line, Difference, IsTreeOf, text_of_lines, IsRefusal, lines_of_side}
use Rattle.erd_canon.proofs.Common.{IsCompareText, IsComparison, IsReadWhole, IsSomeReport, RefusedAs, IsSideRefused, IsCompared, IsCompareWritten}
use Rattle.erd_canon.proofs.Common.{IsToldCompare, Refusal, refusal, Outcome, Bad, Good, NotJson, RunFault}
use Rattle.erd_compare.specs.DifferenceLine.{difference_line}
use Rattle.erd_canon.specs.Writing.{IsBrokenCompare, IsComparePartWritten}
use Rattle.erd_canon.specs.code.SideRefusals.{IsRefusalPartWritten, IsRefusalWritten, TellsRefusal}

-- the first difference of the meanings of two trees that bytes are
pub compared : (π : Preference) (left right : List ℕ) (t u r s : Data) (found : Option Difference) → IsTreeOf left t → IsAccepted π t → r ≡ t → IsTreeOf right u
    → IsAccepted π u → s ≡ u
    → IsDifference (meaning π r) (meaning π s) found → IsComparison π left right found
compared π left right t u r s found left_read left_accepted left_same right_read right_accepted right_same is = record {
  left_tree = t;
  right_tree = u;
  left_accepted = record { read = left_read; accepted = left_accepted };
  right_accepted = record { read = right_read; accepted = right_accepted };
  difference = subst (λ d. IsDifference (meaning π d) (meaning π u) found) left_same
      (subst (λ d. IsDifference (meaning π r) (meaning π d) found) right_same is);
}

-- what is written of the refusal of bytes tells why they are refused
pub side_refused : (π : Preference) (side bytes : List ℕ) (refused : Refusal) (outcome : Outcome) (text : List ℕ) → RefusedAs π bytes refused
    → TellsRefusal side refused outcome text
    → IsSideRefused π side bytes outcome text
side_refused π side bytes (refusal.Faults faults) Bad text (refused, none) is = (faults, refused, is)
side_refused π side bytes refusal.NotJson NotJson text not is = (not, is)
side_refused π side bytes refused outcome text said is = absurd is

-- where an answer holds what was written of the refusal of the left bytes
pub left_refusal_written : (π : Preference) (left right : List ℕ) (refused : Refusal) (r : Result Outcome RunFault) (before after : Option (List ℕ))
    → RefusedAs π left refused
    → IfOk r (λ outcome. IsRefusalWritten (codes "left: ") refused outcome before after)
    → IfOk r (λ outcome. IsCompareWritten π left right outcome before after)
left_refusal_written π left right refused (Ok outcome) before after is written = record {
  text = written.text;
  compared = inl (side_refused π (codes "left: ") left refused outcome written.text is written.tells);
  wrote = written.wrote;
}
left_refusal_written π left right refused (Err fault) before after is written = tt

-- where an answer holds what was written of the refusal of the right bytes
pub right_refusal_written : (π : Preference) (left right : List ℕ) (refused : Refusal) (r : Result Outcome RunFault) (before after : Option (List ℕ))
    → IsSomeReport π left → RefusedAs π right refused
    → IfOk r (λ outcome. IsRefusalWritten (codes "right: ") refused outcome before after)
    → IfOk r (λ outcome. IsCompareWritten π left right outcome before after)
right_refusal_written π left right refused (Ok outcome) before after accepted is written = record {
  text = written.text;
  compared = inr (inl (accepted, side_refused π (codes "right: ") right refused outcome written.text is written.tells));
  wrote = written.wrote;
}
right_refusal_written π left right refused (Err fault) before after accepted is written = tt

-- a first part of what is written of the refusal of the left bytes
pub left_refusal_part : (π : Preference) (left right : List ℕ) (refused : Refusal) (before after : Option (List ℕ)) → RefusedAs π left refused
    → IsRefusalPartWritten (codes "left: ") refused before after → IsComparePartWritten π left right before after
left_refusal_part π left right refused before after is written = record {
  outcome = written.outcome;
  text = written.text;
  compared = inl (side_refused π (codes "left: ") left refused written.outcome written.text is written.tells);
  part = written.part;
}

-- a first part of what is written of the refusal of the right bytes
pub right_refusal_part : (π : Preference) (left right : List ℕ) (refused : Refusal) (before after : Option (List ℕ)) → IsSomeReport π left
    → RefusedAs π right refused
    → IsRefusalPartWritten (codes "right: ") refused before after → IsComparePartWritten π left right before after
right_refusal_part π left right refused before after accepted is written = record {
  outcome = written.outcome;
  text = written.text;
  compared = inr (inl (accepted, side_refused π (codes "right: ") right refused written.outcome written.text is written.tells));
  part = written.part;
}

-- where an answer holds that the line of the first difference was written
pub difference_written : (π : Preference) (left right text : List ℕ) (d : Difference) (r : Result Outcome RunFault) (before after : Option (List ℕ))
    → IsComparison π left right (Some d)
    → text ≡ text_of_lines (difference_line d ∷ []) → IfOk r (λ outcome. outcome ≡ Bad) → OnOk r (Appends before after text)
    → IfOk r (λ outcome. IsCompareWritten π left right outcome before after)
difference_written π left right text d (Ok outcome) before after is text_is outcome_is wrote = record {
  text = text;
  compared = inr (inr (Some d, is, outcome_is, text_is));
  wrote = wrote;
}
difference_written π left right text d (Err fault) before after is text_is outcome_is wrote = tt

-- the lines of a side
side_lines : (π : Preference) (side bytes : List ℕ) (outcome : Outcome) (text : List ℕ) → IsSideRefused π side bytes outcome text
    → (lines : List (List ℕ)) × IsRefusal π bytes lines × (text ≡ text_of_lines (lines_of_side side lines))
side_lines π side bytes Good text is = absurd is
side_lines π side bytes Bad text (faults, refused, is) = (map fault_line faults, inr (faults, refused, refl), is)
side_lines π side bytes NotJson text (not, is) = (codes "not JSON" ∷ [], inl (not, refl), is)

-- the text of a comparison
pub compared_text : (π : Preference) (left right : List ℕ) (outcome : Outcome) (text : List ℕ) → IsCompared π left right outcome text
    → IsCompareText π left right text
compared_text π left right outcome text (inl refused) = inl (side_lines π (codes "left: ") left outcome text refused)
compared_text π left right outcome text (inr (inl ((t, accepted), refused))) =
    let told = side_lines π (codes "right: ") right outcome text refused in inr (inl (told.0, t, accepted, told.1, told.2))
compared_text π left right outcome text (inr (inr (found, is, outcome_is, text_is))) = inr (inr (found, is, text_is))

-- where an answer holds a whole comparison
pub told_of_compare : (π : Preference) (limit : ℕ) (r : Result Outcome RunFault) (left right : List ℕ)
    (left_before left_after right_before right_after out_before out_after : Option (List ℕ))
    → IsReadWhole limit left_before left_after left → IsReadWhole limit right_before right_after right
    → IfOk r (λ outcome. IsCompareWritten π left right outcome out_before out_after)
    → IfOk r (λ _. IsToldCompare π limit left_before left_after right_before right_after out_before out_after)
told_of_compare π limit (Ok outcome) left right left_before left_after right_before right_after out_before out_after left_whole right_whole written = record {
  left = left;
  right = right;
  text = written.text;
  left_whole = left_whole;
  right_whole = right_whole;
  is_text = compared_text π left right outcome written.text written.compared;
  wrote = written.wrote;
}
told_of_compare π limit (Err fault) left right left_before left_after right_before right_after out_before out_after left_whole right_whole written = tt

-- a first part of the text of a comparison of bytes that were read
pub broken_compare : {π : Preference} {limit : ℕ} {left right : List ℕ} {left_before left_after right_before right_after out_before out_after : Option (List ℕ)}
    {Fails : Type 0}
    → IsReadWhole limit left_before left_after left → IsReadWhole limit right_before right_after right
    → (Fails → IsComparePartWritten π left right out_before out_after)
    → Fails → IsBrokenCompare π limit left_before left_after right_before right_after out_before out_after
broken_compare {left = left} {right = right} left_whole right_whole written fails =
    record { left = left; right = right; left_whole = left_whole; right_whole = right_whole; written = written fails }
