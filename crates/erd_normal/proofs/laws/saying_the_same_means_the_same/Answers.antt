use Rattle.erd_normal.proofs.same.means.Meanings.{saying_the_same_means_the_same}
use Rattle.erd_normal.proofs.laws.saying_the_same_means_the_same.Goals as goal

pub returns : goal.returns
returns c = record { law = saying_the_same_means_the_same }
