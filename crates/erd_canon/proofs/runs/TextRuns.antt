-- What is written of an answer that is two texts.
use Rattle.erd_canon.proofs.Common.{◌≡◌, ℕ, List, OnOk, Option, sym, subst, IfOk, Ok, Err, Result, Appends, IsReadWhole, Outcome, RunFault}
use Rattle.erd_canon.specs.Preparing.{AreBrokenTexts, AreTextsPartWritten, AreTextsWith, AreTextsWritten, AreWholeTexts, IsReadWith}

-- where an answer holds that the texts for the outcome were written
pub texts_written : (Answers : List ℕ → Outcome → List ℕ → List ℕ → Type 0) (bytes out_text err_text : List ℕ) (outcome : Outcome) (r : Result Outcome RunFault)
    (out_before out_after err_before err_after : Option (List ℕ))
    → Answers bytes outcome out_text err_text → IfOk r (λ found. found ≡ outcome) → OnOk r (Appends out_before out_after out_text)
    → OnOk r (Appends err_before err_after err_text)
    → IfOk r (λ found. AreTextsWritten Answers bytes found out_before out_after err_before err_after)
texts_written Answers bytes out_text err_text outcome (Ok found) out_before out_after err_before err_after is outcome_is wrote_out wrote_err = record {
  out_text = out_text;
  err_text = err_text;
  answers = subst (λ o. Answers bytes o out_text err_text) (sym outcome_is) is;
  wrote_out = wrote_out;
  wrote_err = wrote_err;
}
texts_written Answers bytes out_text err_text outcome (Err fault) out_before out_after err_before err_after is outcome_is wrote_out wrote_err = tt

-- where an answer holds that the texts for bytes that were read were written
pub whole_texts : (Answers : List ℕ → Outcome → List ℕ → List ℕ → Type 0) {limit : ℕ} {bytes : List ℕ} {before after : Option (List ℕ)}
    (out_before out_after err_before err_after : Option (List ℕ)) (r : Result Outcome RunFault)
    → IsReadWhole limit before after bytes → IfOk r (λ outcome. AreTextsWritten Answers bytes outcome out_before out_after err_before err_after)
    → IfOk r (λ outcome. AreWholeTexts Answers limit outcome before after out_before out_after err_before err_after)
whole_texts Answers {bytes = bytes} out_before out_after err_before err_after (Ok outcome) whole written =
    record { input = bytes; whole = whole; written = written }
whole_texts Answers out_before out_after err_before err_after (Err fault) whole written = tt

-- a first part of each text for bytes that were read
pub broken_texts : {Answers : List ℕ → Outcome → List ℕ → List ℕ → Type 0} {limit : ℕ} {bytes : List ℕ}
    {before after out_before out_after err_before err_after : Option (List ℕ)} {Fails : Type 0}
    → IsReadWhole limit before after bytes → (Fails → AreTextsPartWritten Answers bytes out_before out_after err_before err_after)
    → Fails → AreBrokenTexts Answers limit before after out_before out_after err_before err_after
broken_texts {bytes = bytes} whole written fails = record { input = bytes; whole = whole; written = written fails }

-- the texts for bytes that were read are such that this holds of them
pub read_with : {Answers : List ℕ → Outcome → List ℕ → List ℕ → Type 0} {Holds : List ℕ → List ℕ → Type 0} {limit : ℕ} {bytes : List ℕ}
    {before after : Option (List ℕ)} {Fails Early : Type 0}
    → IsReadWhole limit before after bytes → (Fails → Early → AreTextsWith Answers Holds bytes) → Fails → Early → IsReadWith Answers Holds limit before after
read_with {bytes = bytes} whole texts fails early = record { input = bytes; whole = whole; texts = texts fails early }
