use Rattle.erd_shown.proofs.Common.{◌++◌, [], map, sym, refl, ap, ◌∙◌, on_ok_weaker, family, view, value_tokens}
use Rattle.erd_shown.specs.BallotWords.{in_name_order, words_data}
use Rattle.erd_shown.specs.KeyData.{array_of}
use Rattle.erd_shown.specs.ListedNames.{selections_named}
use Rattle.erd_shown.proofs.MarkLists.{else_so, then_so}
use Rattle.erd_shown.proofs.selection_words.write_all.Goals as goal

pub returns-then-is_header : goal.returns-then-is_header
returns-then-is_header c =
    let π = c.args.report.now.prefer in
    let t = view c.args.report.now.tree in
    on_ok_weaker c.write_nothing.result
    (λ wrote.
    wrote
    ∙ ap (λ ds. c.args.out.now ++ value_tokens (array_of (map (words_data π t family.Selection) (in_name_order π t ds))))
    (then_so _ [] _ [] (sym c.is_header.ensures ∙ c.if-is_header.true) refl))
    c.write_nothing.ensures

pub returns-else-is_header : goal.returns-else-is_header
returns-else-is_header c =
    let π = c.args.report.now.prefer in
    let t = view c.args.report.now.tree in
    on_ok_weaker c.write_named.result
    (λ wrote.
    wrote
    ∙ ap (λ ds. c.args.out.now ++ value_tokens (array_of (map (words_data π t family.Selection) (in_name_order π t ds))))
    (else_so _ [] _ _ (sym c.is_header.ensures ∙ c.if-is_header.false) (ap (selections_named t) c.text_at.ensures)))
    c.write_named.ensures
