-- The lines of two ballots beside each other. All of this is the profile's own.
use Rattle.std.specs.Prelude.{ℕ, zero, suc, ◌≡◌, ◌+◌, List, [], ◌∷◌, Option, Some, None, length, slice_get}
use Rattle.std.specs.List.{AllByRecursion}
use Rattle.erd_shown.specs.declared.rows.Row.{Row}
use Rattle.erd_shown.specs.declared.rows.Row.TheVariants.{Both, Removed, Added, MovedAway, MovedHere}

-- The positions of the lines of the left ballot that the rows have, in their order.
abbrev pub lefts : List Row → List ℕ
lefts [] = []
lefts (Both i j ∷ rows) = i ∷ lefts rows
lefts (Removed i ∷ rows) = i ∷ lefts rows
lefts (MovedAway i j ∷ rows) = i ∷ lefts rows
lefts (Added j ∷ rows) = lefts rows
lefts (MovedHere i j ∷ rows) = lefts rows

-- And those of the right one.
abbrev pub rights : List Row → List ℕ
rights [] = []
rights (Both i j ∷ rows) = j ∷ rights rows
rights (Added j ∷ rows) = j ∷ rights rows
rights (MovedHere i j ∷ rows) = j ∷ rights rows
rights (Removed i ∷ rows) = rights rows
rights (MovedAway i j ∷ rows) = rights rows

-- The numbers from i on, so many of them.
abbrev pub from : ℕ → ℕ → List ℕ
from i zero = []
from i (suc n) = i ∷ from (i + 1) n

-- Each row says what is so, given for each line of either ballot where its partner stands: a line of the other ballot that is the
-- same thing. A line without a partner is removed or added.
abbrev pub IsRow : List (Option ℕ) → List (Option ℕ) → Row → Type 0
IsRow left right (Both i j) = slice_get left i ≡ Some (Some j)
IsRow left right (Removed i) = slice_get left i ≡ Some None
IsRow left right (MovedAway i j) = slice_get left i ≡ Some (Some j)
IsRow left right (Added j) = slice_get right j ≡ Some None
IsRow left right (MovedHere i j) = slice_get right j ≡ Some (Some i)

-- The rows have each line of either ballot exactly once, in the order of its ballot, and each says what is so. So no line is lost
-- or made up, and the lines that are on both sides of rows stand in one order on both ballots.
pub record AreRows (left right : List (Option ℕ)) (rows : List Row) : Type 0 where
  pub left_lines : lefts rows ≡ from 0 (length left)
  pub right_lines : rights rows ≡ from 0 (length right)
  pub so : AllByRecursion (IsRow left right) rows
