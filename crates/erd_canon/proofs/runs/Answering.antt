-- What is written of an answer that is one text.
use Rattle.erd_canon.proofs.Common.{◌≡◌, ℕ, Bool, false, List, ◌∷◌, [], ◌++◌, OnOk, Option, codes, sym, refl, ap, ◌∙◌, subst, inl, inr, IfOk, Ok, Err, Result}
use Rattle.erd_canon.proofs.Common.{Preference, Appends, IsSomeReport, RefusedAs, IsReadWhole, IsPartWritten, Refusal, Outcome, RunFault, text_of_lines, map}
use Rattle.std.proofs.Common.{◌==◌, length, true≢false}
use Rattle.erd_canon.specs.Answering.{IsBrokenPair, IsBrokenReport, IsWholePair, IsWholeReport, IsListed, IsPairTold, IsPairPartWritten, IsPairWritten}
use Rattle.erd_canon.specs.Answering.{IsReportPartWritten, IsReportWritten, listing_lines}
use Rattle.erd_canon.specs.DataAnswers.{listing_outcome}
use Rattle.erd_canon.specs.EngineTexts.{AreCompared, AreDetailed}
use Rattle.erd_canon.specs.code.SideRefusals.{IsRefusalPartWritten, IsRefusalWritten}
use Rattle.erd_canon.proofs.data_values.PieceLines.{map_made, same_outcome}
use Rattle.erd_canon.proofs.runs.Comparisons.{side_refused}
use Rattle.erd_compare.specs.DifferenceLine.{difference_line}
use Rattle.erd_compare.specs.declared.detailed.DetailedDifference.{DetailedDifference}

-- where an answer holds that the text for the outcome was written
pub report_written : (Answers : List ℕ → Outcome → List ℕ → Type 0) (bytes text : List ℕ) (outcome : Outcome) (r : Result Outcome RunFault)
    (before after : Option (List ℕ)) → Answers bytes outcome text
    → IfOk r (λ found. found ≡ outcome) → OnOk r (Appends before after text) → IfOk r (λ found. IsReportWritten Answers bytes found before after)
report_written Answers bytes text outcome (Ok found) before after is outcome_is wrote =
    record { text = text; answers = subst (λ o. Answers bytes o text) (sym outcome_is) is; wrote = wrote }
report_written Answers bytes text outcome (Err fault) before after is outcome_is wrote = tt

pub pair_written : (Answers : List ℕ → List ℕ → Outcome → List ℕ → Type 0) (left right text : List ℕ) (outcome : Outcome) (r : Result Outcome RunFault)
    (before after : Option (List ℕ)) → Answers left right outcome text
    → IfOk r (λ found. found ≡ outcome) → OnOk r (Appends before after text) → IfOk r (λ found. IsPairWritten Answers left right found before after)
pair_written Answers left right text outcome (Ok found) before after is outcome_is wrote =
    record { text = text; answers = subst (λ o. Answers left right o text) (sym outcome_is) is; wrote = wrote }
pair_written Answers left right text outcome (Err fault) before after is outcome_is wrote = tt

-- where an answer holds that the text for bytes that were read was written
pub whole_report : (Answers : List ℕ → Outcome → List ℕ → Type 0) {limit : ℕ} {bytes : List ℕ} {before after : Option (List ℕ)}
    (out_before out_after : Option (List ℕ)) (r : Result Outcome RunFault) → IsReadWhole limit before after bytes
    → IfOk r (λ outcome. IsReportWritten Answers bytes outcome out_before out_after)
    → IfOk r (λ outcome. IsWholeReport Answers limit outcome before after out_before out_after)
whole_report Answers {bytes = bytes} out_before out_after (Ok outcome) whole written = record { input = bytes; whole = whole; written = written }
whole_report Answers out_before out_after (Err fault) whole written = tt

pub whole_pair : (Answers : List ℕ → List ℕ → Outcome → List ℕ → Type 0) {limit : ℕ} {left right : List ℕ}
    {left_before left_after right_before right_after : Option (List ℕ)} (out_before out_after : Option (List ℕ)) (r : Result Outcome RunFault)
    → IsReadWhole limit left_before left_after left → IsReadWhole limit right_before right_after right
    → IfOk r (λ outcome. IsPairWritten Answers left right outcome out_before out_after)
    → IfOk r (λ outcome. IsWholePair Answers limit outcome left_before left_after right_before right_after out_before out_after)
whole_pair Answers {left = left} {right = right} out_before out_after (Ok outcome) left_whole right_whole written =
    record { left = left; right = right; left_whole = left_whole; right_whole = right_whole; written = written }
whole_pair Answers out_before out_after (Err fault) left_whole right_whole written = tt

-- a first part of the text for bytes that were read
pub broken_report : {Answers : List ℕ → Outcome → List ℕ → Type 0} {limit : ℕ} {bytes : List ℕ} {before after out_before out_after : Option (List ℕ)}
    {Fails : Type 0} → IsReadWhole limit before after bytes
    → (Fails → IsReportPartWritten Answers bytes out_before out_after) → Fails → IsBrokenReport Answers limit before after out_before out_after
broken_report {bytes = bytes} whole written fails = record { input = bytes; whole = whole; written = written fails }

pub broken_pair : {Answers : List ℕ → List ℕ → Outcome → List ℕ → Type 0} {limit : ℕ} {left right : List ℕ}
    {left_before left_after right_before right_after out_before out_after : Option (List ℕ)} {Fails : Type 0}
    → IsReadWhole limit left_before left_after left → IsReadWhole limit right_before right_after right
    → (Fails → IsPairPartWritten Answers left right out_before out_after)
    → Fails → IsBrokenPair Answers limit left_before left_after right_before right_after out_before out_after
broken_pair {left = left} {right = right} left_whole right_whole written fails =
    record { left = left; right = right; left_whole = left_whole; right_whole = right_whole; written = written fails }

-- what is written of the refusal of the left bytes, and a first part of it
pub left_written : (π : Preference) (Both : List ℕ → List ℕ → Outcome → List ℕ → Type 0) (left right : List ℕ) (refused : Refusal) (r : Result Outcome RunFault)
    (before after : Option (List ℕ)) → RefusedAs π left refused
    → IfOk r (λ outcome. IsRefusalWritten (codes "left: ") refused outcome before after)
    → IfOk r (λ outcome. IsPairWritten (IsPairTold π Both) left right outcome before after)
left_written π Both left right refused (Ok outcome) before after is written =
    record { text = written.text; answers = inl (side_refused π (codes "left: ") left refused outcome written.text is written.tells); wrote = written.wrote }
left_written π Both left right refused (Err fault) before after is written = tt

pub left_part : (π : Preference) (Both : List ℕ → List ℕ → Outcome → List ℕ → Type 0) (left right : List ℕ) (refused : Refusal) (before after : Option (List ℕ))
    → RefusedAs π left refused
    → IsRefusalPartWritten (codes "left: ") refused before after → IsPairPartWritten (IsPairTold π Both) left right before after
left_part π Both left right refused before after is written = record {
  outcome = written.outcome;
  text = written.text;
  answers = inl (side_refused π (codes "left: ") left refused written.outcome written.text is written.tells);
  part = written.part;
}

-- the same of the right bytes
pub right_written : (π : Preference) (Both : List ℕ → List ℕ → Outcome → List ℕ → Type 0) (left right : List ℕ) (refused : Refusal)
    (r : Result Outcome RunFault) (before after : Option (List ℕ)) → IsSomeReport π left → RefusedAs π right refused
    → IfOk r (λ outcome. IsRefusalWritten (codes "right: ") refused outcome before after)
    → IfOk r (λ outcome. IsPairWritten (IsPairTold π Both) left right outcome before after)
right_written π Both left right refused (Ok outcome) before after accepted is written =
    record {
      text = written.text;
      answers = inr (inl (accepted, side_refused π (codes "right: ") right refused outcome written.text is written.tells));
      wrote = written.wrote;
    }
right_written π Both left right refused (Err fault) before after accepted is written = tt

pub right_part : (π : Preference) (Both : List ℕ → List ℕ → Outcome → List ℕ → Type 0) (left right : List ℕ) (refused : Refusal)
    (before after : Option (List ℕ)) → IsSomeReport π left → RefusedAs π right refused
    → IsRefusalPartWritten (codes "right: ") refused before after → IsPairPartWritten (IsPairTold π Both) left right before after
right_part π Both left right refused before after accepted is written = record {
  outcome = written.outcome;
  text = written.text;
  answers = inr (inl (accepted, side_refused π (codes "right: ") right refused written.outcome written.text is written.tells));
  part = written.part;
}

-- the differences of two accepted reports, as what is listed
pub all_listed : (π : Preference) (left right : List ℕ) (first most : ℕ) (ds : List DetailedDifference) → AreDetailed π left right first most ds
    → IsListed π left right (listing_outcome ds) (text_of_lines (listing_lines (map (λ d. d.difference) ds)))
all_listed π left right first most ds is = inr (inr (
  map (λ d. d.difference) ds,
  record {
    left_tree = is.left_tree;
    right_tree = is.right_tree;
    left_accepted = is.left_accepted;
    right_accepted = is.right_accepted;
    differences = is.differences.list;
  },
  same_outcome ds,
  refl,
))

-- the lines of differences, of which there are some
pub some_listed : (found : List DetailedDifference) (text : List ℕ) {empty : Bool} → empty ≡ false → empty ≡ (length found == 0)
    → text ≡ text_of_lines (map (λ d. difference_line d.difference) found)
    → text ≡ text_of_lines (listing_lines (map (λ d. d.difference) found))
some_listed [] text other is lines = absurd (true≢false (sym is ∙ other))
some_listed (d ∷ ds) text other is lines = lines ∙ ap text_of_lines (sym (map_made (λ d. d.difference) difference_line (d ∷ ds)))
