use Rattle.erd_normal.proofs.same.complete.Complete.{says_and_means}
use Rattle.erd_normal.proofs.same_laws.saying_and_meaning_agree.Goals as goal

pub returns : goal.returns
returns c = record { law = says_and_means }
