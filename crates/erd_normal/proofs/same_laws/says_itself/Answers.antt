use Rattle.erd_normal.proofs.same.Related.{says_itself}
use Rattle.erd_normal.proofs.same_laws.says_itself.Goals as goal

pub returns : goal.returns
returns c = record { law = says_itself }
