use Rattle.erd_shown.proofs.Common.{◌++◌, ap, ◌∙◌, view, IfOk-weaker, value_tokens}
use Rattle.erd_shown.specs.BallotWords.{selections_in}
use Rattle.erd_shown.proofs.selection_words.selections_text.Goals as goal

pub returns : goal.returns
returns c =
    let told = selections_in c.args.report.now.prefer (view c.args.report.now.tree) c.args.position in
    IfOk-weaker c.text_of.result _ _ (λ text is. is told (c.in_ok-write_selections.ensures ∙ ap (λ ts. ts ++ value_tokens told) c.new-out.ensures))
    c.text_of.ensures
