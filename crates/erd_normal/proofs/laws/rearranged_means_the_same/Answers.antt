use Rattle.erd_normal.proofs.rearranged.RearrangedReports.{rearranged_means_the_same}
use Rattle.erd_normal.proofs.laws.rearranged_means_the_same.Goals as goal

pub returns : goal.returns
returns c = record { law = rearranged_means_the_same }
