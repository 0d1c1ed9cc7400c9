use Rattle.erd_normal.proofs.unique.Unique.{objects_agree}
use Rattle.erd_normal.proofs.laws.objects_agree.Goals as goal

pub returns : goal.returns
returns c = record { law = objects_agree }
