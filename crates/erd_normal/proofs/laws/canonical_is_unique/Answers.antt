use Rattle.erd_normal.proofs.unique.Unique.{unique}
use Rattle.erd_normal.proofs.laws.canonical_is_unique.Goals as goal

pub returns : goal.returns
returns c = record { law = unique }
