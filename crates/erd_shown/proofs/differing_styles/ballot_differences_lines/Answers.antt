use Rattle.erd_shown.proofs.Common.{map, ap, ◌∙◌, IfOk-weaker}
use Rattle.erd_shown.specs.BallotLines.{told_text}
use Rattle.erd_shown.specs.code.Pairs.{of_told}
use Rattle.erd_shown.proofs.differing_styles.ballot_differences_lines.Goals as goal

pub returns : goal.returns
returns c =
    let told = c.in_ok-told.told.items in
    IfOk-weaker c.told_text.result _ _
    (λ text is. (map of_told told, c.in_ok-told.ensures, is ∙ ap (λ ts. told_text (map of_told ts)) c.deref.ensures.value))
    c.told_text.ensures
