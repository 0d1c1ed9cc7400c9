use Rattle.erd_canon.proofs.Common.{string_bytes, option_copied, IfOk-weaker}
use Rattle.erd_canon.proofs.data_values.DataTexts.{refused_check}
use Rattle.erd_canon.proofs.data.check.check_data_with.Goals as goal

pub returns-in-Err : goal.returns-in-Err
returns-in-Err c =
    IfOk-weaker c.refused.result _ _ (λ answer a. refused_check (option_copied c.args.prefer) c.args.bytes.now c.in-Err.refusal answer.outcome
    (string_bytes answer.text) c.in-Err.ensures.refused a)
    c.refused.ensures
