use Rattle.erd_normal.proofs.unique.Unique.{names_agree}
use Rattle.erd_normal.proofs.laws.names_agree.Goals as goal

pub returns : goal.returns
returns c = record { law = names_agree }
