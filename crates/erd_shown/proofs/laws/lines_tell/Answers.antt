use Rattle.erd_shown.proofs.LinesTold.{lines_told}
use Rattle.erd_shown.proofs.laws.lines_tell.Goals as goal

pub returns : goal.returns
returns c = record { law = lines_told }
