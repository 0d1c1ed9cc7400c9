use Rattle.erd_shown.proofs.RowLaws.{ballots_told}
use Rattle.erd_shown.proofs.laws.ballots_tell.Goals as goal

pub returns : goal.returns
returns c = record { law = ballots_told }
