use Rattle.erd_shown.proofs.Common.{◌++◌, map, sym, refl, ap, ◌∙◌, on_ok_weaker, family, view, value_tokens}
use Rattle.erd_shown.specs.BallotWords.{words_at_reference}
use Rattle.erd_shown.specs.KeyData.{array_of}
use Rattle.erd_shown.proofs.MarkLists.{else_so, then_so}
use Rattle.erd_shown.proofs.selection_words.write_line.Goals as goal

pub returns-then-lists_selections : goal.returns-then-lists_selections
returns-then-lists_selections c =
    let π = c.args.report.now.prefer in
    let t = view c.args.report.now.tree in
    on_ok_weaker c.write_listed.result
    (λ wrote.
    wrote
    ∙ ap (λ d. c.args.out.now ++ value_tokens d)
    (then_so _ _ _ _ (sym c.lists_selections.ensures ∙ c.if-lists_selections.true)
    (ap (λ ds. array_of (map (words_at_reference π t family.Selection) ds)) c.entries_at-references.ensures)))
    c.write_listed.ensures

pub returns-else-lists_selections : goal.returns-else-lists_selections
returns-else-lists_selections c =
    on_ok_weaker c.write_all.result
    (λ wrote.
    wrote ∙ ap (λ d. c.args.out.now ++ value_tokens d) (else_so _ _ _ _ (sym c.lists_selections.ensures ∙ c.if-lists_selections.false) refl))
    c.write_all.ensures
