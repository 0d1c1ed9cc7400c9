use Rattle.erd_canon.proofs.Common.{[], ◌∷◌, map, codes, option_copied, sym, refl, subst, inl, inr, fault_line, IsCanonicalBytes, text_of_lines, RefusedAs, Bad}
use Rattle.erd_canon.proofs.Common.{Good, NotJson}
use Rattle.erd_canon.proofs.runs.CheckTexts.{faults_written}
use Rattle.erd_canon.proofs.engines.runs.write_answer.Goals as goal

pub returns-in-Err-Faults-clause-written : goal.returns-in-Err-Faults-clause-written
returns-in-Err-Faults-clause-written g c =
    let refused = subst (RefusedAs (option_copied c.args.prefer) c.args.bytes.items) c.in-Err-Faults.field-0-is c.in-Err-Faults.ensures.refused in
    faults_written (option_copied c.args.prefer) c.args.bytes.items (text_of_lines (map fault_line c.in-Err-Faults.faults)) c.in-Err-Faults.faults
    c.write_faults_to_err.result _ _ _ _
    refused.0 refl
    c.write_faults_to_err.ensures.outcome c.write_faults_to_err.ensures.wrote_out c.write_faults_to_err.ensures.wrote_err

pub returns-in-Err-Faults-clause-err_needed : goal.returns-in-Err-Faults-clause-err_needed
returns-in-Err-Faults-clause-err_needed g c = λ _ _.
    let refused = subst (RefusedAs (option_copied c.args.prefer) c.args.bytes.items) c.in-Err-Faults.field-0-is c.in-Err-Faults.ensures.refused in
    (map fault_line c.in-Err-Faults.faults, inr (c.in-Err-Faults.faults, refused.0, refl))

pub returns-in-Err-NotJson-clause-err_needed : goal.returns-in-Err-NotJson-clause-err_needed
returns-in-Err-NotJson-clause-err_needed g c = λ _ _.
    let refused = subst (RefusedAs (option_copied c.args.prefer) c.args.bytes.items) c.in-Err-NotJson.field-0-is c.in-Err-NotJson.ensures.refused in
    (codes "not JSON" ∷ [], inl (refused, refl))

pub returns-in-Ok-clause-broken : goal.returns-in-Ok-clause-broken
returns-in-Ok-clause-broken g c = λ _. record {
  outcome = Good;
  out_text = c.as_slice.result.now;
  err_text = [];
  answered = (
    subst (λ text. IsCanonicalBytes (option_copied c.args.prefer) c.args.bytes.items text) (sym c.as_slice.ensures.value) c.in-Ok.ensures.headline.form,
    refl,
  );
  part_out = c.write_both.ensures.part_out;
  part_err = c.write_both.ensures.part_err;
}

pub returns-in-Err-Faults-clause-broken : goal.returns-in-Err-Faults-clause-broken
returns-in-Err-Faults-clause-broken g c = λ _.
    let refused = subst (RefusedAs (option_copied c.args.prefer) c.args.bytes.items) c.in-Err-Faults.field-0-is c.in-Err-Faults.ensures.refused in
    let text = text_of_lines (map fault_line c.in-Err-Faults.faults) in
    record {
      outcome = Bad;
      out_text = [];
      err_text = text;
      answered = ((c.in-Err-Faults.faults, refused.0, refl), refl);
      part_out = c.write_faults_to_err.ensures.part_out;
      part_err = c.write_faults_to_err.ensures.part_err;
    }

pub returns-in-Err-NotJson-clause-broken : goal.returns-in-Err-NotJson-clause-broken
returns-in-Err-NotJson-clause-broken g c = λ _.
    let refused = subst (RefusedAs (option_copied c.args.prefer) c.args.bytes.items) c.in-Err-NotJson.field-0-is c.in-Err-NotJson.ensures.refused in
    record {
      outcome = NotJson;
      out_text = [];
      err_text = _;
      answered = ((refused, refl), refl);
      part_out = c.write_both-in-Err-NotJson.ensures.part_out;
      part_err = c.write_both-in-Err-NotJson.ensures.part_err;
    }

pub returns-in-Err-Memory-clause-broken : goal.returns-in-Err-Memory-clause-broken
returns-in-Err-Memory-clause-broken g c = λ e. absurd (cc)
