use Rattle.erd_normal.proofs.rearranged.RearrangedReports.{rearranged_says_the_same}
use Rattle.erd_normal.proofs.same_laws.rearranged_says_the_same.Goals as goal

pub returns : goal.returns
returns c = record { law = rearranged_says_the_same }
