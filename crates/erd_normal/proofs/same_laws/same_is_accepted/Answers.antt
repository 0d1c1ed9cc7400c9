use Rattle.erd_normal.proofs.same.accepted.Accepted.{same_is_accepted}
use Rattle.erd_normal.proofs.same_laws.same_is_accepted.Goals as goal

pub returns : goal.returns
returns c = record { law = same_is_accepted }
