use Rattle.erd_normal.proofs.same.Related.{says_back}
use Rattle.erd_normal.proofs.same_laws.says_back.Goals as goal

pub returns : goal.returns
returns c = record { law = says_back }
