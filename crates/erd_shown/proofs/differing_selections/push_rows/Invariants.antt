use Rattle.erd_shown.proofs.Common.{◌≡◌, ◌++◌, drop, flat_map, map, string_bytes}
use Rattle.erd_shown.specs.BallotLines.{lines_text, selection_row_lines}
use Rattle.erd_shown.specs.code.LentNames.{lent}
use Rattle.erd_shown.proofs.differing_selections.push_rows.Given as goal

-- with those that are left, all are appended
abbrev pub invariant-loop-row : goal.invariant-loop-row
invariant-loop-row l =
    string_bytes l.text ++ flat_map (λ row. lines_text (selection_row_lines (map lent l.lefts) (map lent l.rights) row)) (drop l.row-index l.rows)
    ≡ string_bytes l.initial.text ++ flat_map (λ row. lines_text (selection_row_lines (map lent l.lefts) (map lent l.rights) row)) l.rows
