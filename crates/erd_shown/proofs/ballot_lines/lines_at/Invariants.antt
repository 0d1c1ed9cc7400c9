use Rattle.erd_shown.proofs.Common.{◌≡◌, ◌++◌, drop, map, string_bytes, view}
use Rattle.erd_shown.specs.BallotLines.{head_line, lines_text}
use Rattle.erd_shown.specs.code.LineLists.{of_place}
use Rattle.erd_shown.proofs.ballot_lines.lines_at.Given as goal

-- with those that are left, all are appended
abbrev pub invariant-loop-place : goal.invariant-loop-place
invariant-loop-place l =
    string_bytes l.text ++ lines_text (map (λ p. head_line (view l.report.tree) (of_place p)) (drop l.place-index l.places))
    ≡ lines_text (map (λ p. head_line (view l.report.tree) (of_place p)) l.places)
