use Rattle.erd_normal.proofs.rearranged.RearrangedReports.{renamed_says_the_same}
use Rattle.erd_normal.proofs.same_laws.renamed_says_the_same.Goals as goal

pub returns : goal.returns
returns c = record { law = renamed_says_the_same }
