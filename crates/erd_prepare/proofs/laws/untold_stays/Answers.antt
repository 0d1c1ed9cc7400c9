use Rattle.erd_prepare.proofs.Untold.{stays}
use Rattle.erd_prepare.proofs.laws.untold_stays.Goals as goal

pub returns : goal.returns
returns c = record { law = stays }
