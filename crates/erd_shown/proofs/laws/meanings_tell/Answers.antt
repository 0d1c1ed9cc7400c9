use Rattle.erd_shown.proofs.alike.Styles.{meanings_told}
use Rattle.erd_shown.proofs.laws.meanings_tell.Goals as goal

pub returns : goal.returns
returns c = record { law = meanings_told }
