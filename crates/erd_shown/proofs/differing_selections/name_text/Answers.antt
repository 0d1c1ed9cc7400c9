use Rattle.erd_shown.proofs.Common.{◌++◌, Some, ap, ◌∙◌, IfOk-weaker, value_tokens}
use Rattle.erd_shown.specs.KeyData.{shown_name}
use Rattle.erd_shown.proofs.differing_selections.name_text.Goals as goal

pub returns : goal.returns
returns c =
    let name = shown_name (Some c.args.name.now) in
    IfOk-weaker c.text_of.result _ _ (λ text is. is name (c.in_ok-write_name.ensures ∙ ap (λ ts. ts ++ value_tokens name) c.new-out.ensures)) c.text_of.ensures
