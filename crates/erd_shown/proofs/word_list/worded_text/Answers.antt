use Rattle.erd_shown.proofs.Common.{◌++◌, ap, ◌∙◌, view, IfOk-weaker, value_tokens}
use Rattle.erd_shown.specs.WordList.{worded_data}
use Rattle.erd_shown.proofs.word_list.worded_text.Goals as goal

pub returns : goal.returns
returns c =
    let entry = worded_data c.args.report.now.prefer (view c.args.report.now.tree) c.args.object.now in
    IfOk-weaker c.text_of.result _ _ (λ text is. is entry (c.in_ok-write_worded.ensures ∙ ap (λ ts. ts ++ value_tokens entry) c.new-out.ensures))
    c.text_of.ensures
