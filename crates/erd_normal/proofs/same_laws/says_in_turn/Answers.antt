use Rattle.erd_normal.proofs.same.InTurn.{says_in_turn}
use Rattle.erd_normal.proofs.same_laws.says_in_turn.Goals as goal

pub returns : goal.returns
returns c = record { law = says_in_turn }
