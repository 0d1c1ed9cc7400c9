use Rattle.erd_normal.proofs.rearranged.RearrangedReports.{exchanged_says}
use Rattle.erd_normal.proofs.same_laws.exchanged_says_the_same.Goals as goal

pub returns : goal.returns
returns c = record { law = exchanged_says }
