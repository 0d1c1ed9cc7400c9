use Rattle.erd_shown.proofs.Common.{◌≡◌, drop, list_any, view}
use Rattle.erd_shown.specs.Reworded.{is_line_reworded}
use Rattle.erd_shown.specs.code.LineLists.{of_line}
use Rattle.erd_shown.proofs.reworded_lines.any_line_reworded.Given as goal

abbrev pub invariant-loop-line : goal.invariant-loop-line
invariant-loop-line l =
    list_any (λ x. is_line_reworded l.left.prefer (view l.left.tree) l.right.prefer (view l.right.tree) (of_line x).1) l.lines
    ≡ list_any (λ x. is_line_reworded l.left.prefer (view l.left.tree) l.right.prefer (view l.right.tree) (of_line x).1) (drop l.line-index l.lines)
