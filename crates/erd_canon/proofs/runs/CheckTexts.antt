-- What checking and canonicalising write is what they are to write.
use Rattle.erd_canon.proofs.Common.{◌≡◌, ℕ, List, [], ◌∷◌, map, OnOk, codes, Option, sym, refl, subst, inl, inr, Preference, ◌≢◌, IfOk, Ok, Err, Result, Fault}
use Rattle.erd_canon.proofs.Common.{IsErrAnd, Appends, fault_line, text_of_lines, IsRefusal, IsSomeReport, IsCheckText, IsCanonicalOutput, IsCanonicalErrors}
use Rattle.erd_canon.proofs.Common.{IsRefusedReport, IsReadWhole, IsChecked, IsAnswered, IsAnswerWritten, IsCheckWritten, IsToldCheck, IsToldRun, Outcome, Bad}
use Rattle.erd_canon.proofs.Common.{Good, NotJson, RunFault}
use Rattle.erd_canon.specs.Run.{IsAcceptedInput, IsRefusedInput}
use Rattle.erd_canon.specs.Writing.{IsAnswerPartWritten, IsBrokenCheck, IsBrokenRun, IsCheckPartWritten}
use Rattle.erd_canon.specs.declared.engines.outcome.RunFault.TheVariants.{Write}
use Rattle.erd_canon.proofs.forms.Refusing.{refused_is_none}

-- the text of a check
pub checked_text : (π : Preference) (bytes : List ℕ) (outcome : Outcome) (text : List ℕ) → IsChecked π bytes outcome text → IsCheckText π bytes text
checked_text π bytes Good text ((t, accepted), is) = inl (t, accepted, is)
checked_text π bytes Bad text (faults, refused, is) = inr (map fault_line faults, inr (faults, refused, refl), is)
checked_text π bytes NotJson text (not, is) = inr (codes "not JSON" ∷ [], inl (not, refl), is)

-- the texts of canonicalising
pub answered_texts : (π : Preference) (bytes : List ℕ) (outcome : Outcome) (out err : List ℕ) → IsAnswered π bytes outcome out err
    → IsCanonicalOutput π bytes out × IsCanonicalErrors π bytes err
answered_texts π bytes Good out err (form, is) = (inl form, inl (form.report, form.is_accepted, is))
answered_texts π bytes Bad out err ((faults, refused, is), none) =
    (inr (λ t accepted. refused_is_none π bytes faults refused (t, accepted), none), inr (map fault_line faults, inr (faults, refused, refl), is))
answered_texts π bytes NotJson out err ((not, is), none) =
    (inr (λ t accepted. not t accepted.read, none), inr (codes "not JSON" ∷ [], inl (not, refl), is))

-- where an answer holds a whole check
pub told_of_check : (π : Preference) (limit : ℕ) (r : Result Outcome RunFault) (bytes : List ℕ) (before after out_before out_after : Option (List ℕ))
    → IsReadWhole limit before after bytes
    → IfOk r (λ outcome. IsCheckWritten π bytes outcome out_before out_after) → IfOk r (λ outcome. IsToldCheck π limit before after out_before out_after)
told_of_check π limit (Ok outcome) bytes before after out_before out_after whole written =
    record { input = bytes; text = written.text; whole = whole; is_text = checked_text π bytes outcome written.text written.checked; wrote = written.wrote }
told_of_check π limit (Err fault) bytes before after out_before out_after whole written = tt

-- where an answer holds a whole run
pub told_of_run : (π : Preference) (limit : ℕ) (r : Result Outcome RunFault) (bytes : List ℕ)
    (before after out_before out_after err_before err_after : Option (List ℕ)) → IsReadWhole limit before after bytes
    → IfOk r (λ outcome. IsAnswerWritten π bytes outcome out_before out_after err_before err_after)
    → IfOk r (λ outcome. IsToldRun π limit before after out_before out_after err_before err_after)
told_of_run π limit (Ok outcome) bytes before after out_before out_after err_before err_after whole written =
    let texts = answered_texts π bytes outcome written.out_text written.err_text written.answered in
    record {
      input = bytes;
      out_text = written.out_text;
      err_text = written.err_text;
      whole = whole;
      output = texts.0;
      errors = texts.1;
      wrote_out = written.wrote_out;
      wrote_err = written.wrote_err;
    }
told_of_run π limit (Err fault) bytes before after out_before out_after err_before err_after whole written = tt

-- where an answer holds that the lines of all faults were written
pub faults_written : (π : Preference) (bytes text : List ℕ) (faults : List Fault) (r : Result Outcome RunFault)
    (out_before out_after err_before err_after : Option (List ℕ)) → IsRefusedReport π bytes faults
    → text ≡ text_of_lines (map fault_line faults) → IfOk r (λ outcome. outcome ≡ Bad) → OnOk r (Appends out_before out_after [])
    → OnOk r (Appends err_before err_after text)
    → IfOk r (λ outcome. IsAnswerWritten π bytes outcome out_before out_after err_before err_after)
faults_written π bytes text faults (Ok outcome) out_before out_after err_before err_after refused text_is outcome_is wrote_out wrote_err = record {
  out_text = [];
  err_text = text;
  answered = subst (λ o. IsAnswered π bytes o [] text) (sym outcome_is) ((faults, refused, text_is), refl);
  wrote_out = wrote_out;
  wrote_err = wrote_err;
}
faults_written π bytes text faults (Err fault) out_before out_after err_before err_after refused text_is outcome_is wrote_out wrote_err = tt

-- where an answer of a check holds that the lines of all faults were written
pub check_faults_written : (π : Preference) (bytes text : List ℕ) (faults : List Fault) (r : Result Outcome RunFault) (out_before out_after : Option (List ℕ))
    → IsRefusedReport π bytes faults
    → text ≡ text_of_lines (map fault_line faults) → IfOk r (λ outcome. outcome ≡ Bad) → OnOk r (Appends out_before out_after text)
    → IfOk r (λ outcome. IsCheckWritten π bytes outcome out_before out_after)
check_faults_written π bytes text faults (Ok outcome) out_before out_after refused text_is outcome_is wrote = record {
  text = text;
  checked = subst (λ o. IsChecked π bytes o text) (sym outcome_is) (faults, refused, text_is);
  wrote = wrote;
}
check_faults_written π bytes text faults (Err fault) out_before out_after refused text_is outcome_is wrote = tt

-- a run that ended by another fault has no failed write
pub not_of_fault : (r : Result Outcome RunFault) (fault : RunFault) → IsErrAnd r (λ found. found ≡ fault) → fault ≢ Write → r ≡ Err Write → ⊥
not_of_fault (Ok outcome) fault is other e = absurd is
not_of_fault (Err found) fault is other e = other cc

-- a first part of the text of a check, or of the texts of a run, of bytes that were read
pub broken_check : {π : Preference} {limit : ℕ} {bytes : List ℕ} {before after out_before out_after : Option (List ℕ)} {Fails : Type 0}
    → IsReadWhole limit before after bytes
    → (Fails → IsCheckPartWritten π bytes out_before out_after) → Fails → IsBrokenCheck π limit before after out_before out_after
broken_check {bytes = bytes} whole written fails = record { input = bytes; whole = whole; written = written fails }

pub broken_run : {π : Preference} {limit : ℕ} {bytes : List ℕ} {before after out_before out_after err_before err_after : Option (List ℕ)} {Fails : Type 0}
    → IsReadWhole limit before after bytes
    → (Fails → IsAnswerPartWritten π bytes out_before out_after err_before err_after) → Fails
    → IsBrokenRun π limit before after out_before out_after err_before err_after
broken_run {bytes = bytes} whole written fails = record { input = bytes; whole = whole; written = written fails }

-- a report that was read is accepted, or refused
pub accepted_input : {limit : ℕ} {bytes : List ℕ} {before after : Option (List ℕ)} {Fails Early : Type 0} (π : Preference)
    → IsReadWhole limit before after bytes → (Fails → Early → IsSomeReport π bytes)
    → Fails → Early → IsAcceptedInput π limit before after
accepted_input {bytes = bytes} π whole accepted fails early = record { input = bytes; whole = whole; accepted = accepted fails early }

pub refused_input : {limit : ℕ} {bytes : List ℕ} {before after : Option (List ℕ)} {Fails Early : Type 0} (π : Preference) → IsReadWhole limit before after bytes
    → (Fails → Early → (lines : List (List ℕ)) × IsRefusal π bytes lines) → Fails → Early → IsRefusedInput π limit before after
refused_input {bytes = bytes} π whole refused fails early = let why = refused fails early in
    record { input = bytes; lines = why.0; whole = whole; refused = why.1 }
