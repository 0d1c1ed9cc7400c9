-- The selections of a contest on two ballots, as they are found.
use Rattle.std.specs.Prelude.{map}
use Rattle.erd_shown.specs.SelectionRows.{Beside}
use Rattle.erd_shown.specs.code.LentNames.{lent}
use Rattle.erd_shown.specs.declared.selection_rows.SelectionRows.{SelectionRows}
use Rattle.erd_shown.specs.declared.rows.Row.{Row}

abbrev pub of_selections : SelectionRows → Beside
of_selections s = record { lefts = map lent s.lefts.items; rights = map lent s.rights.items; rows = s.rows.items }

-- A row with its selections.
abbrev pub of_row : Row × SelectionRows → Row × Beside
of_row r = (r.0, of_selections r.1)
