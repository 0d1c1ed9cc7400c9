use Rattle.erd_shown.proofs.Common.{◌++◌, ap, ◌∙◌, IfOk-weaker, value_tokens}
use Rattle.erd_shown.specs.KeyData.{shown_key}
use Rattle.erd_shown.proofs.ballot_lines.key_text.Goals as goal

pub returns : goal.returns
returns c =
    let key = shown_key c.args.key.now in
    IfOk-weaker c.text_of.result _ _ (λ text is. is key (c.in_ok-write_key.ensures ∙ ap (λ ts. ts ++ value_tokens key) c.new-out.ensures)) c.text_of.ensures
