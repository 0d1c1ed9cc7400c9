use Rattle.erd_canon.proofs.Common.{string_bytes, option_copied, IfOk-weaker}
use Rattle.erd_canon.proofs.data_values.BallotPairs.{refused_pair}
use Rattle.erd_canon.specs.BallotAnswers.{IsToldByJson, TellsDiffering}
use Rattle.erd_canon.proofs.data.ballot_pairs.ballot_differences_data_with.Goals as goal

pub returns-in-Err : goal.returns-in-Err
returns-in-Err c =
    let π = option_copied c.args.prefer in
    IfOk-weaker c.refused_side.result _ _
    (λ answer a. refused_pair (TellsDiffering IsToldByJson π) π c.args.left.now c.args.right.now c.in-Err.side answer.outcome (string_bytes answer.text)
    c.in-Err.ensures.refused a) c.refused_side.ensures
