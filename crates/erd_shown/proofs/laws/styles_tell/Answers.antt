use Rattle.erd_shown.proofs.StyleLaws.{styles_told}
use Rattle.erd_shown.proofs.laws.styles_tell.Goals as goal

pub returns : goal.returns
returns c = record { law = styles_told }
