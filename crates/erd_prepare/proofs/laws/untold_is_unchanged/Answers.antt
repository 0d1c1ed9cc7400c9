use Rattle.erd_prepare.proofs.Untold.{unchanged}
use Rattle.erd_prepare.proofs.laws.untold_is_unchanged.Goals as goal

pub returns : goal.returns
returns c = record { law = unchanged }
