use Rattle.erd_text.proofs.Common.{◌≡◌, ◌++◌, drop, map, items_of, items_tokens}
use Rattle.erd_shown.proofs.row_texts.write_rows.Given as goal
use Rattle.erd_shown.specs.RowData.{row_data}
use Rattle.erd_shown.specs.code.SelectionsFound.{of_row}

abbrev pub invariant-loop-row : goal.invariant-loop-row
invariant-loop-row l =
    l.out ++ items_tokens (items_of (map (λ r. row_data (of_row r)) (drop l.row-index l.rows))) ≡ l.initial.out
    ++ items_tokens (items_of (map (λ r. row_data (of_row r)) l.rows))
