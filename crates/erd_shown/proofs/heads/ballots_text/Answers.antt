use Rattle.erd_shown.proofs.Common.{◌++◌, ap, ◌∙◌, view, IfOk-weaker, value_tokens}
use Rattle.erd_shown.specs.Heads.{heads_data}
use Rattle.erd_shown.proofs.heads.ballots_text.Goals as goal

pub returns : goal.returns
returns c =
    let heads = heads_data c.args.report.now.prefer (view c.args.report.now.tree) in
    IfOk-weaker c.text_of.result _ _ (λ text is. is heads (c.in_ok-write_heads.ensures ∙ ap (λ ts. ts ++ value_tokens heads) c.new-out.ensures))
    c.text_of.ensures
