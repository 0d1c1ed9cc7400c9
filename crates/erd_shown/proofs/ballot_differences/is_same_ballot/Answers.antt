use Rattle.erd_shown.proofs.Common.{◌&&◌, not, ap₂, ◌∙◌}
use Rattle.erd_shown.proofs.ballot_differences.is_same_ballot.Goals as goal

pub returns : goal.returns
returns c = c.is_same.ensures ∙ ap₂ (λ x y. x && y) c.in_ok-lines.ensures (ap₂ (λ x y. x && not y) c.in_ok-selections.ensures c.in_ok-reworded.ensures)
