use Rattle.erd_shown.proofs.alike.Styles.{same_ballots_told}
use Rattle.erd_shown.proofs.laws.same_ballots_tell.Goals as goal

pub returns : goal.returns
returns c = record { law = same_ballots_told }
