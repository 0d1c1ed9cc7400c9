use Rattle.erd_text.proofs.Common.{◌≡◌, ◌++◌, drop, map, view, items_of, items_tokens}
use Rattle.erd_shown.proofs.ballots.write_lines.Given as goal
use Rattle.erd_shown.specs.Ballots.{line_data}
use Rattle.erd_shown.specs.code.LineLists.{of_line}

abbrev pub invariant-loop-line : goal.invariant-loop-line
invariant-loop-line l =
    l.out ++ items_tokens (items_of (map (λ x. line_data l.report.prefer (view l.report.tree) (of_line x)) (drop l.line-index l.lines)))
    ≡ l.initial.out ++ items_tokens (items_of (map (λ x. line_data l.report.prefer (view l.report.tree) (of_line x)) l.lines))
