use Rattle.erd_shown.proofs.Common.{◌++◌, ap, ◌∙◌, IfOk-weaker, value_tokens}
use Rattle.erd_shown.proofs.beside_texts.ballots_beside_text.Goals as goal

pub returns : goal.returns
returns c =
    let wrote = c.in_ok-write_beside_at.ensures in
    IfOk-weaker c.text_of.result _ _ (λ text is. (wrote.0, wrote.1, is wrote.0 (wrote.2 ∙ ap (λ ts. ts ++ value_tokens wrote.0) c.new-out.ensures)))
    c.text_of.ensures
