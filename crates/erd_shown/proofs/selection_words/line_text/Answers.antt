use Rattle.erd_shown.proofs.Common.{◌++◌, ap, ◌∙◌, view, IfOk-weaker, value_tokens}
use Rattle.erd_shown.specs.BallotWords.{selection_words}
use Rattle.erd_shown.proofs.selection_words.line_text.Goals as goal

pub returns : goal.returns
returns c =
    let report = c.args.report.now in
    let words = selection_words report.prefer (view report.tree) (view c.args.node.now) in
    IfOk-weaker c.text_of.result _ _ (λ text is. is words (c.in_ok-write_line.ensures ∙ ap (λ ts. ts ++ value_tokens words) c.new-out.ensures))
    c.text_of.ensures
