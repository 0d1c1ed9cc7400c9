use Rattle.erd_canon.proofs.Common.{string_bytes, option_copied, IfOk-weaker}
use Rattle.erd_canon.proofs.data_values.DataTexts.{both_compared}
use Rattle.erd_canon.proofs.runs.Listings.{both_facts, sides_refused}
use Rattle.erd_canon.proofs.data.compare.compare_data_with.Goals as goal

pub returns-in-Ok : goal.returns-in-Ok
returns-in-Ok c =
    both_facts c.compared.result _ _ _
    (λ answer outcome text. both_compared (option_copied c.args.prefer) c.args.left.now c.args.right.now (string_bytes answer.text) answer.outcome c.in-Ok.found
    c.in-Ok.ensures.ok outcome text)
    c.compared.ensures.outcome c.compared.ensures.text

pub returns-in-Err : goal.returns-in-Err
returns-in-Err c =
    IfOk-weaker c.refused_side.result _ _
    (λ answer a. (sides_refused (option_copied c.args.prefer) c.args.left.now c.args.right.now c.in-Err.side answer.outcome (string_bytes answer.text)
    c.in-Err.ensures.refused a).0) c.refused_side.ensures
