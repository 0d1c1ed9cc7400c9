-- The selections of a contest on two ballots beside each other. All of this is the profile's own.
use Rattle.std.specs.Prelude.{ℕ, ◌≡◌, List, [], Bool, ◌&&◌, Option, Some, slice_get, map, codes}
use Rattle.std.specs.Ordering.{eq_by_cmp}
use Rattle.serde_json.specs.Data.{Data, string, object, no_members, member}
use Rattle.erd_meaning.specs.Keys.{Preference}
use Rattle.erd_meaning.specs.NameParts.{NameParts}
use Rattle.erd_meaning.specs.SelectionNames.{name_cmp}
use Rattle.erd_shown.specs.KeyData.{array_of, shown_name}
use Rattle.erd_shown.specs.ListedNames.{lists_selections, names_in_order, names_on}
use Rattle.erd_shown.specs.Partners.{partners}
use Rattle.erd_shown.specs.Rows.{AreRows}
use Rattle.erd_shown.specs.declared.rows.Row.{Row}
use Rattle.erd_shown.specs.declared.rows.Row.TheVariants.{Both, Removed, Added, MovedAway, MovedHere}

-- The names on both ballots, and rows of them.
pub record Beside : Type 0 where
  pub lefts : List NameParts
  pub rights : List NameParts
  pub rows : List Row

-- No names, and no rows.
abbrev pub no_names : Beside
no_names = record { lefts = []; rights = []; rows = [] }

-- True if both ballots list the selections of a contest.
abbrev pub are_listed : Data → Data → Bool
are_listed d e = lists_selections d && lists_selections e

-- The names are those of a line of either ballot, and each of them stands in one row, in its order.
pub record AreSelections (π : Preference) (t d : Data) (ρ : Preference) (u e : Data) (b : Beside) : Type 0 where
  pub left_names : b.lefts ≡ names_in_order (are_listed d e) (names_on π t d)
  pub right_names : b.rights ≡ names_in_order (are_listed d e) (names_on ρ u e)
  pub are_rows : AreRows (partners (eq_by_cmp name_cmp) b.lefts b.rights) (partners (eq_by_cmp name_cmp) b.rights b.lefts) b.rows

-- The same of the lines at two positions.
abbrev pub AreSelectionsAt : Preference → Data → List (ℕ × Data) → Preference → Data → List (ℕ × Data) → ℕ → ℕ → Beside → Type 0
AreSelectionsAt π t ls ρ u rs i j b = (l r : ℕ × Data) → slice_get ls i ≡ Some l → slice_get rs j ≡ Some r → AreSelections π t l.1 ρ u r.1 b

-- What stands in a row of lines: the selections of a line of both ballots. Those of a line that moved stand where it is now.
abbrev pub IsInside : (ℕ → ℕ → Beside → Type 0) → Row × Beside → Type 0
IsInside are (Both i j, b) = are i j b
IsInside are (MovedHere i j, b) = are i j b
IsInside are (row, b) = b ≡ no_names

-- A row of a selection with this name.
abbrev pub named_row : List ℕ → Option NameParts → Data
named_row how name = object (member (codes "how") (string how) (member (codes "name") (shown_name name) no_members))

-- A row of a selection: what it says, and the name.
abbrev pub selection_row : List NameParts → List NameParts → Row → Data
selection_row ns ms (Both i j) = named_row (codes "both") (slice_get ns i)
selection_row ns ms (Removed i) = named_row (codes "removed") (slice_get ns i)
selection_row ns ms (Added j) = named_row (codes "added") (slice_get ms j)
selection_row ns ms (MovedAway i j) = named_row (codes "moved away") (slice_get ns i)
selection_row ns ms (MovedHere i j) = named_row (codes "moved here") (slice_get ms j)

-- Rows of selections.
abbrev pub rows_of_selections : Beside → Data
rows_of_selections b = array_of (map (selection_row b.lefts b.rights) b.rows)
