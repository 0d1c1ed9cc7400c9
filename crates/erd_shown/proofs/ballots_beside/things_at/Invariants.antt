use Rattle.erd_text.proofs.Common.{◌≡◌, ◌++◌, drop, map, view}
use Rattle.erd_shown.proofs.ballots_beside.things_at.Given as goal
use Rattle.erd_shown.specs.Ballots.{thing_at}
use Rattle.erd_shown.specs.code.LineLists.{of_line, of_thing}

abbrev pub invariant-loop-line : goal.invariant-loop-line
invariant-loop-line l =
    map of_thing l.things.items ++ map (λ x. thing_at l.report.prefer (view l.report.tree) (of_line x).1) (drop l.line-index l.lines)
    ≡ map (λ x. thing_at l.report.prefer (view l.report.tree) (of_line x).1) l.lines
