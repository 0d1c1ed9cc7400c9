use Rattle.erd_normal.proofs.same.complete.Complete.{meaning_says}
use Rattle.erd_normal.proofs.same_laws.meaning_the_same_says_the_same.Goals as goal

pub returns : goal.returns
returns c = record { law = meaning_says }
