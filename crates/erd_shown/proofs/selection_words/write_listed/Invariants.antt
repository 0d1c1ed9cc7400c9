use Rattle.erd_shown.proofs.Common.{◌≡◌, ◌++◌, map, drop, items_of, items_tokens, family, view}
use Rattle.erd_shown.specs.BallotWords.{words_at_reference}
use Rattle.erd_shown.proofs.selection_words.write_listed.Given as goal

abbrev pub invariant-loop-reference : goal.invariant-loop-reference
invariant-loop-reference l =
    l.out ++ items_tokens
    (items_of (map (words_at_reference l.report.prefer (view l.report.tree) family.Selection) (map view (drop l.reference-index l.references))))
    ≡ l.initial.out ++ items_tokens (items_of (map (words_at_reference l.report.prefer (view l.report.tree) family.Selection) (map view l.references)))
