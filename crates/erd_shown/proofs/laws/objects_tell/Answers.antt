use Rattle.erd_shown.proofs.told.Laws.{objects_tell}
use Rattle.erd_shown.proofs.laws.objects_tell.Goals as goal

pub returns : goal.returns
returns c = record { law = objects_tell }
