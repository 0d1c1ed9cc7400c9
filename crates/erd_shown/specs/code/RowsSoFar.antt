-- The rows of the first lines of two ballots.
use Rattle.std.specs.Prelude.{ℕ, ◌≡◌, List, Option, Some, None}
use Rattle.std.specs.List.{AllByRecursion}
use Rattle.erd_shown.specs.declared.rows.Row.{Row}
use Rattle.erd_shown.specs.declared.rows.Row.TheVariants.{Removed, Added, MovedAway, MovedHere}
use Rattle.erd_shown.specs.Rows.{IsRow, from, lefts, rights}

-- The row of a line of the left ballot alone, and of one of the right ballot.
abbrev pub left_row : ℕ → Option ℕ → Row
left_row i None = Removed i
left_row i (Some j) = MovedAway i j

abbrev pub right_row : ℕ → Option ℕ → Row
right_row j None = Added j
right_row j (Some i) = MovedHere i j

-- The rows have the first i lines of the left ballot and the first j lines of the right one.
pub record AreUpTo (left right : List (Option ℕ)) (rows : List Row) (i j : ℕ) : Type 0 where
  pub left_lines : lefts rows ≡ from 0 i
  pub right_lines : rights rows ≡ from 0 j
  pub so : AllByRecursion (IsRow left right) rows
