use Rattle.erd_shown.proofs.Common.{ap₂, ◌∙◌, bytes_eq, view}
use Rattle.erd_shown.proofs.BallotTrees.{same_ballots}
use Rattle.erd_shown.proofs.ballot_differences.has_same_lines.Goals as goal

pub returns : goal.returns
returns c =
    let left = c.args.left.now in
    let right = c.args.right.now in
    c.is_same_text.ensures
    ∙ ap₂ bytes_eq (c.as_str.ensures.value ∙ c.in_ok-one.ensures) (c.as_str-2.ensures.value ∙ c.in_ok-other.ensures)
    ∙ same_ballots left.prefer (view left.tree) right.prefer (view right.tree) c.args.one c.args.other
