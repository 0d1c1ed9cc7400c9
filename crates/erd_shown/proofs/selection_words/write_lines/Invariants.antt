use Rattle.erd_text.proofs.Common.{◌≡◌, ◌++◌, drop, map, view, items_of, items_tokens}
use Rattle.erd_shown.specs.BallotWords.{selection_words}
use Rattle.erd_shown.specs.code.LineLists.{of_line}
use Rattle.erd_shown.proofs.selection_words.write_lines.Given as goal

abbrev pub invariant-loop-line : goal.invariant-loop-line
invariant-loop-line l =
    l.out ++ items_tokens (items_of (map (λ x. selection_words l.report.prefer (view l.report.tree) (of_line x).1) (drop l.line-index l.lines)))
    ≡ l.initial.out ++ items_tokens (items_of (map (λ x. selection_words l.report.prefer (view l.report.tree) (of_line x).1) l.lines))
