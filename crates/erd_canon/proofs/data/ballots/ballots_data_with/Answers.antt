use Rattle.erd_canon.proofs.Common.{string_bytes, option_copied, IfOk-weaker}
use Rattle.erd_canon.proofs.data_values.BallotTexts.{refused_ballots}
use Rattle.erd_canon.proofs.data.ballots.ballots_data_with.Goals as goal

pub returns-in-Err : goal.returns-in-Err
returns-in-Err c =
    IfOk-weaker c.refused.result _ _
    (λ answer a. refused_ballots c.args.asked (option_copied c.args.prefer) c.args.bytes.now c.in-Err.refusal answer.outcome (string_bytes answer.text)
    c.in-Err.ensures.refused a) c.refused.ensures
