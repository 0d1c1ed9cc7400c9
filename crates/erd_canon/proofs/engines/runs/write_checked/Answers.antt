use Rattle.erd_canon.proofs.Common.{map, option_copied, refl, subst, fault_line, text_of_lines, RefusedAs, Bad, Good, NotJson}
use Rattle.erd_canon.proofs.runs.CheckTexts.{check_faults_written}
use Rattle.erd_canon.proofs.engines.runs.write_checked.Goals as goal

pub returns-in-Err-Faults-clause-written : goal.returns-in-Err-Faults-clause-written
returns-in-Err-Faults-clause-written g c =
    let refused = subst (RefusedAs (option_copied c.args.prefer) c.args.bytes.items) c.in-Err-Faults.field-0-is c.in-Err-Faults.ensures.refused in
    check_faults_written (option_copied c.args.prefer) c.args.bytes.items (text_of_lines (map fault_line c.in-Err-Faults.faults)) c.in-Err-Faults.faults
    c.write_faults.result _ _
    refused.0 refl c.write_faults.ensures.outcome c.write_faults.ensures.wrote

pub returns-in-Ok-clause-broken : goal.returns-in-Ok-clause-broken
returns-in-Ok-clause-broken g c = λ _. record { outcome = Good; text = _; checked = (c.in-Ok.ensures.ok, refl); part = c.write_one.ensures.part }

pub returns-in-Err-Faults-clause-broken : goal.returns-in-Err-Faults-clause-broken
returns-in-Err-Faults-clause-broken g c = λ _.
    let refused = subst (RefusedAs (option_copied c.args.prefer) c.args.bytes.items) c.in-Err-Faults.field-0-is c.in-Err-Faults.ensures.refused in
    record { outcome = Bad; text = _; checked = (c.in-Err-Faults.faults, refused.0, refl); part = c.write_faults.ensures.part }

pub returns-in-Err-NotJson-clause-broken : goal.returns-in-Err-NotJson-clause-broken
returns-in-Err-NotJson-clause-broken g c = λ _.
    let refused = subst (RefusedAs (option_copied c.args.prefer) c.args.bytes.items) c.in-Err-NotJson.field-0-is c.in-Err-NotJson.ensures.refused in
    record { outcome = NotJson; text = _; checked = (refused, refl); part = c.write_one-in-Err-NotJson.ensures.part }

pub returns-in-Err-Memory-clause-broken : goal.returns-in-Err-Memory-clause-broken
returns-in-Err-Memory-clause-broken g c = λ e. absurd (cc)
