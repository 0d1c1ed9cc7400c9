-- What is written of ballots.
use Rattle.erd_canon.proofs.Common.{◌≡◌, ℕ, List, [], ◌∷◌, Option, Result, Ok, Err, IfOk, map, ap, ◌∙◌, map-id, fault_line, Preference, RefusedAs, Outcome, Bad}
use Rattle.erd_canon.proofs.Common.{NotJson, Refusal, refusal, RunFault, text_of_lines}
use Rattle.erd_canon.specs.Answering.{IsReportPartWritten, IsReportWritten}
use Rattle.erd_canon.specs.BallotAnswering.{IsBallotLines}
use Rattle.erd_canon.specs.code.SideRefusals.{IsRefusalPartWritten, IsRefusalWritten, TellsRefusal}

-- what is told of a refusal with no words for a side
refusal_told : (π : Preference) (bytes : List ℕ) (refused : Refusal) (outcome : Outcome) (text : List ℕ) → RefusedAs π bytes refused
    → TellsRefusal [] refused outcome text → IsBallotLines π bytes outcome text
refusal_told π bytes (refusal.Faults faults) Bad text (is, none) tells = (faults, is, tells ∙ ap text_of_lines (map-id (map fault_line faults)))
refusal_told π bytes refusal.NotJson NotJson text not tells = (not, tells)
refusal_told π bytes refused outcome text is tells = absurd tells

pub refused_written : (π : Preference) (bytes : List ℕ) (refused : Refusal) (r : Result Outcome RunFault) (before after : Option (List ℕ))
    → RefusedAs π bytes refused
    → IfOk r (λ outcome. IsRefusalWritten [] refused outcome before after) → IfOk r (λ outcome. IsReportWritten (IsBallotLines π) bytes outcome before after)
refused_written π bytes refused (Ok outcome) before after is written =
    record { text = written.text; answers = refusal_told π bytes refused outcome written.text is written.tells; wrote = written.wrote }
refused_written π bytes refused (Err fault) before after is written = tt

pub refused_part : (π : Preference) (bytes : List ℕ) (refused : Refusal) (before after : Option (List ℕ)) → RefusedAs π bytes refused
    → IsRefusalPartWritten [] refused before after
    → IsReportPartWritten (IsBallotLines π) bytes before after
refused_part π bytes refused before after is written =
    record {
      outcome = written.outcome;
      text = written.text;
      answers = refusal_told π bytes refused written.outcome written.text is written.tells;
      part = written.part;
    }
