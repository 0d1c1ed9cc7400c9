use Rattle.erd_normal.proofs.view.ViewForms.{form_says}
use Rattle.erd_normal.proofs.same_laws.canonical_says_the_same.Goals as goal

pub returns : goal.returns
returns c = record { law = form_says }
