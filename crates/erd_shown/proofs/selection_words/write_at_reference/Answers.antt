use Rattle.erd_shown.proofs.Common.{◌++◌, option_map_or, ap, ◌∙◌, on_ok_weaker, family, view, null, value_tokens}
use Rattle.erd_shown.specs.BallotWords.{words_data}
use Rattle.erd_shown.proofs.selection_words.write_at_reference.Goals as goal

pub returns-in-Some : goal.returns-in-Some
returns-in-Some c =
    let words = words_data c.args.report.now.prefer (view c.args.report.now.tree) family.Selection in
    on_ok_weaker c.write_words.result
    (λ wrote. wrote c.in-Some.ensures.whole ∙ ap (λ o. c.args.out.now ++ value_tokens (option_map_or words o null)) c.in-Some.ensures.there)
    c.write_words.ensures
