use Rattle.erd_shown.proofs.Common.{◌++◌, ap, ◌∙◌, IfOk-weaker, value_tokens}
use Rattle.erd_shown.specs.KeyData.{shown_key}
use Rattle.erd_shown.proofs.side_values.text_of_key.Goals as goal

pub returns : goal.returns
returns c =
    let told = shown_key c.args.key.now in
    IfOk-weaker c.text_of.result _ _ (λ text is. is told (c.in_ok-write_key.ensures ∙ ap (λ ts. ts ++ value_tokens told) c.new-out.ensures)) c.text_of.ensures
