use Rattle.erd_shown.proofs.told.Laws.{members_tell}
use Rattle.erd_shown.proofs.laws.members_tell.Goals as goal

pub returns : goal.returns
returns c = record { law = members_tell }
