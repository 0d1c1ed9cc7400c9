use Rattle.erd_normal.proofs.unique.Unique.{references_agree}
use Rattle.erd_normal.proofs.laws.references_agree.Goals as goal

pub returns : goal.returns
returns c = record { law = references_agree }
