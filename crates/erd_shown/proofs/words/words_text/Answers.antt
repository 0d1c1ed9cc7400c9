use Rattle.erd_shown.proofs.Common.{◌++◌, ap, ◌∙◌, view, IfOk-weaker, value_tokens}
use Rattle.erd_shown.specs.BallotWords.{words_data}
use Rattle.erd_shown.proofs.words.words_text.Goals as goal

pub returns : goal.returns
returns c =
    let words = words_data c.args.report.now.prefer (view c.args.report.now.tree) c.args.family (view c.args.object.now) in
    IfOk-weaker c.text_of.result _ _ (λ text is whole. is words (c.in_ok-write_words.ensures whole ∙ ap (λ ts. ts ++ value_tokens words) c.new-out.ensures))
    c.text_of.ensures
