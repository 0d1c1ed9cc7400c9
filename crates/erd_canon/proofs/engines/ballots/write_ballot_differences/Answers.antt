use Rattle.erd_canon.proofs.Common.{option_copied, subst, RefusedSide}
use Rattle.erd_canon.specs.BallotAnswering.{IsToldByLines}
use Rattle.erd_canon.specs.BallotAnswers.{AreBothTold, TellsDiffering}
use Rattle.erd_canon.proofs.runs.Answering.{right_part, right_written}
use Rattle.erd_canon.proofs.engines.ballots.write_ballot_differences.Goals as goal

pub returns-in-Err-Right-clause-written : goal.returns-in-Err-Right-clause-written
returns-in-Err-Right-clause-written g c =
    let π = option_copied c.args.prefer in
    let refused = subst (RefusedSide π c.args.left.now c.args.right.now) c.in-Err-Right.field-0-is c.in-Err-Right.ensures.refused in
    right_written π (AreBothTold (TellsDiffering IsToldByLines π) π) c.args.left.now c.args.right.now c.in-Err-Right.refusal c.write_refusal-in-Err-Right.result
    _ _ refused.0 refused.1
    c.write_refusal-in-Err-Right.ensures.written

pub returns-in-Err-Right-clause-broken : goal.returns-in-Err-Right-clause-broken
returns-in-Err-Right-clause-broken g c = λ fails.
    let π = option_copied c.args.prefer in
    let refused = subst (RefusedSide π c.args.left.now c.args.right.now) c.in-Err-Right.field-0-is c.in-Err-Right.ensures.refused in
    right_part π (AreBothTold (TellsDiffering IsToldByLines π) π) c.args.left.now c.args.right.now c.in-Err-Right.refusal _ _ refused.0 refused.1
    (c.write_refusal-in-Err-Right.ensures.broken fails)
