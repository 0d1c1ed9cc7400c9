-- Two reports with the marks of what has other words, and the lines that are told of them.
use Rattle.std.specs.Prelude.{ℕ, ◌≡◌, List, Bool, Option, map, string_bytes, String}
use Rattle.std.specs.declared.alloc.Global.{Global}
use Rattle.serde_json.specs.Data.{Data}
use Rattle.serde_json.specs.View.{view}
use Rattle.erd_tables.specs.declared.class.Family.{Family}
use Rattle.erd_shown.specs.BallotDifferences.{StyleFound, of_style}
use Rattle.erd_shown.specs.BallotLines.{AreDifferingLines, AreLinesBelow, AreToldBelow, IsStyleTold, has_same_voters}
use Rattle.erd_shown.specs.BallotLines.{is_same_line, lines_text, moved_lines, pair_lines, row_lines, voter_lines}
use Rattle.erd_shown.specs.code.LineLists.{of_line}
use Rattle.erd_shown.specs.code.Marks.{AreMarks}
use Rattle.erd_shown.specs.code.SelectionsFound.{of_row}
use Rattle.erd_shown.specs.SelectionRows.{Beside}
use Rattle.erd_shown.specs.declared.ballot_differences.BallotDifference.{BallotDifference}
use Rattle.erd_shown.specs.declared.lines.Line.{Line}
use Rattle.erd_shown.specs.declared.pairs.Pair.{Pair}
use Rattle.erd_shown.specs.declared.rows.Row.{Row}
use Rattle.erd_shown.specs.declared.selection_rows.SelectionRows.{SelectionRows}

-- The marks are those of the two reports.
abbrev pub IsMarked : Pair → Type 0
IsMarked p = AreMarks p.left.now.prefer (view p.left.now.tree) p.right.now.prefer (view p.right.now.tree) p.marks

-- What is said of two reports, of a pair of them.
abbrev pub has_same_voters_in : Pair → Family → List ℕ → Data → Data → Bool
has_same_voters_in p = has_same_voters p.left.now.prefer (view p.left.now.tree) p.right.now.prefer (view p.right.now.tree)

abbrev pub voter_lines_in : Pair → Data → Data → List (List ℕ)
voter_lines_in p d e = voter_lines p.left.now.prefer (view p.left.now.tree) d p.right.now.prefer (view p.right.now.tree) e

abbrev pub is_same_line_in : Pair → ℕ × Data → ℕ × Data → Bool
is_same_line_in p = is_same_line p.left.now.prefer (view p.left.now.tree) p.right.now.prefer (view p.right.now.tree)

abbrev pub pair_lines_in : Pair → Option (ℕ × Data) → Option (ℕ × Data) → Beside → List (List ℕ)
pair_lines_in p = pair_lines p.left.now.prefer (view p.left.now.tree) p.right.now.prefer (view p.right.now.tree)

abbrev pub moved_lines_in : Pair → Option (ℕ × Data) → Option (ℕ × Data) → Beside → List (List ℕ)
moved_lines_in p = moved_lines p.left.now.prefer (view p.left.now.tree) p.right.now.prefer (view p.right.now.tree)

abbrev pub row_lines_in : Pair → List Line → List Line → Row × SelectionRows → List (List ℕ)
row_lines_in p ones others row =
    row_lines p.left.now.prefer (view p.left.now.tree) (map of_line ones) p.right.now.prefer (view p.right.now.tree) (map of_line others) (of_row row)

-- The text is what is told of two styles, or of two that may be missing.
abbrev pub TellsStyles : Pair → Data → Data → List ℕ → Type 0
TellsStyles p d e text =
    (told : List (List ℕ)) × AreDifferingLines p.left.now.prefer (view p.left.now.tree) d p.right.now.prefer (view p.right.now.tree) e told
    × (text ≡ lines_text told)

abbrev pub TellsBelow : Pair → Option Data → Option Data → List ℕ → Type 0
TellsBelow p d e text =
    (told : List (List ℕ)) × AreLinesBelow p.left.now.prefer (view p.left.now.tree) d p.right.now.prefer (view p.right.now.tree) e told
    × (text ≡ lines_text told)

-- What is told of a style.
abbrev pub of_told : BallotDifference × String Global → StyleFound × List ℕ
of_told p = (of_style p.0, string_bytes p.1)

abbrev pub IsToldIn : Pair → StyleFound × List ℕ → Type 0
IsToldIn p = IsStyleTold p.left.now.prefer (view p.left.now.tree) p.right.now.prefer (view p.right.now.tree)

abbrev pub AreToldIn : Pair → List StyleFound → List (BallotDifference × String Global) → Type 0
AreToldIn p found told = AreToldBelow p.left.now.prefer (view p.left.now.tree) p.right.now.prefer (view p.right.now.tree) found (map of_told told)
