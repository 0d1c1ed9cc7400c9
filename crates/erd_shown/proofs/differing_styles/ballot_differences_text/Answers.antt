use Rattle.erd_shown.proofs.Common.{◌++◌, map, ap, ◌∙◌, IfOk-weaker, value_tokens}
use Rattle.erd_shown.specs.BallotLines.{told_style}
use Rattle.erd_shown.specs.KeyData.{array_of}
use Rattle.erd_shown.specs.code.Pairs.{of_told}
use Rattle.erd_shown.proofs.differing_styles.ballot_differences_text.Goals as goal

pub returns : goal.returns
returns c =
    let told = map of_told c.in_ok-told.told.items in
    let value = array_of (map told_style told) in
    IfOk-weaker c.text_of.result _ _
    (λ text is. (
      told,
      c.in_ok-told.ensures,
      is value
          (c.in_ok-write_styles.ensures
          ∙ ap (λ ts. c.new-out.result ++ value_tokens (array_of (map told_style (map of_told ts)))) c.deref.ensures.value
          ∙ ap (λ ts. ts ++ value_tokens value) c.new-out.ensures),
    ))
    c.text_of.ensures
