use Rattle.erd_normal.proofs.same.Owners.{references_name_the_same}
use Rattle.erd_normal.proofs.same_laws.references_name_the_same.Goals as goal

pub returns : goal.returns
returns c = record { law = references_name_the_same }
