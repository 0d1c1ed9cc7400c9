use Rattle.erd_shown.proofs.Common.{◌≡◌, ◌++◌, drop, flat_map, string_bytes}
use Rattle.erd_shown.specs.BallotLines.{lines_text}
use Rattle.erd_shown.specs.code.Pairs.{row_lines_in}
use Rattle.erd_shown.proofs.differing_lines.push_rows.Given as goal

-- with those that are left, all are appended
abbrev pub invariant-loop-row : goal.invariant-loop-row
invariant-loop-row l =
    string_bytes l.text ++ flat_map (λ row. lines_text (row_lines_in l.pair l.ones l.others row)) (drop l.row-index l.rows)
    ≡ string_bytes l.initial.text ++ flat_map (λ row. lines_text (row_lines_in l.pair l.ones l.others row)) l.rows
