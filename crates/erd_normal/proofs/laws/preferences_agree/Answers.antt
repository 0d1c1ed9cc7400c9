use Rattle.erd_normal.proofs.same.complete.Complete.{preferences_agree}
use Rattle.erd_normal.proofs.laws.preferences_agree.Goals as goal

pub returns : goal.returns
returns c = record { law = preferences_agree }
