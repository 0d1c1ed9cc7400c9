use Rattle.erd_canon.proofs.Common.{option_copied}
use Rattle.erd_canon.proofs.runs.BallotRuns.{refused_part, refused_written}
use Rattle.erd_canon.proofs.engines.ballots.write_ballots.Goals as goal

pub returns-in-Err-clause-written : goal.returns-in-Err-clause-written
returns-in-Err-clause-written g c =
    refused_written (option_copied c.args.prefer) c.args.bytes.now c.in-Err.refusal c.write_refusal.result _ _ c.in-Err.ensures.refused
    c.write_refusal.ensures.written

pub returns-in-Err-clause-broken : goal.returns-in-Err-clause-broken
returns-in-Err-clause-broken g c = λ fails. refused_part (option_copied c.args.prefer) c.args.bytes.now c.in-Err.refusal _ _ c.in-Err.ensures.refused
    (c.write_refusal.ensures.broken fails)
