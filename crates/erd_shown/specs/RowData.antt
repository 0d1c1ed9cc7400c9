-- Two ballots beside each other as JSON. All of this is the profile's own.
use Rattle.std.specs.Prelude.{ℕ, pos, ◌≡◌, List, Bool, Option, Some, None, map, option_map, slice_get, codes}
use Rattle.std.specs.declared.cmp.Ordering.{Ordering}
use Rattle.std.specs.Ordering.{bool_cmp, eq_by_cmp, ordering_then}
use Rattle.std.specs.List.{AllByRecursion}
use Rattle.std.specs.Option.{option_cmp}
use Rattle.serde_json.specs.Data.{Data, null, string, object, Members, no_members, member}
use Rattle.serde_json.specs.Written.{compact_text}
use Rattle.erd_tables.specs.declared.class.Family.TheVariants as family
use Rattle.erd_meaning.specs.Keys.{Preference, key_cmp}
use Rattle.erd_meaning.specs.Objects.{objects}
use Rattle.erd_meaning.specs.declared.keys.key.Key.{Key}
use Rattle.erd_shown.specs.Ballots.{lines_data, lines_of, thing_at}
use Rattle.erd_shown.specs.KeyData.{array_of, shown_whole}
use Rattle.erd_shown.specs.Partners.{partners}
use Rattle.erd_shown.specs.Rows.{AreRows}
use Rattle.erd_shown.specs.SelectionRows.{AreSelectionsAt, Beside, IsInside, rows_of_selections}
use Rattle.erd_shown.specs.declared.rows.Row.{Row}
use Rattle.erd_shown.specs.declared.rows.Row.TheVariants.{Both, Removed, Added, MovedAway, MovedHere}

-- A position, or null.
abbrev pub number_or_null : Option ℕ → Data
number_or_null None = null
number_or_null (Some i) = shown_whole (pos i)

-- The rows inside a row, as the last member of its object.
abbrev pub inside_members : Beside → Members
inside_members b = member (codes "selections") (rows_of_selections b) no_members

-- The positions of a row and the rows inside it, as the last members of its object.
abbrev pub places_members : Option ℕ → Option ℕ → Beside → Members
places_members left right b = member (codes "left") (number_or_null left) (member (codes "right") (number_or_null right) (inside_members b))

-- A row of this kind.
abbrev pub row_of : List ℕ → Option ℕ → Option ℕ → Beside → Data
row_of how left right b = object (member (codes "how") (string how) (places_members left right b))

-- A row: what it says, the positions of the line in the left ballot and in the right one, and the rows of its selections.
abbrev pub row_data : Row × Beside → Data
row_data (Both i j, b) = row_of (codes "both") (Some i) (Some j) b
row_data (Removed i, b) = row_of (codes "removed") (Some i) None b
row_data (Added j, b) = row_of (codes "added") None (Some j) b
row_data (MovedAway i j, b) = row_of (codes "moved away") (Some i) (Some j) b
row_data (MovedHere i j, b) = row_of (codes "moved here") (Some i) (Some j) b

-- The order of things: headers are greater, and then by the key.
abbrev pub thing_cmp : Bool × Option Key → Bool × Option Key → Ordering
thing_cmp a b = ordering_then (bool_cmp a.0 b.0) (option_cmp key_cmp a.1 b.1)

-- What the lines of a ballot are, in their order.
abbrev pub things_of : Preference → Data → Data → List (Bool × Option Key)
things_of π t d = map (λ l. thing_at π t l.1) (lines_of d)

-- The rows have each line of the ballots of two styles once, in the order of its ballot.
abbrev pub AreLineRows : Preference → Data → Data → Preference → Data → Data → List Row → Type 0
AreLineRows π t d ρ u e rows =
    let same = eq_by_cmp thing_cmp in
    AreRows (partners same (things_of π t d) (things_of ρ u e)) (partners same (things_of ρ u e) (things_of π t d)) rows

-- The rows, as the last member of an object.
abbrev pub rows_members : List (Row × Beside) → Members
rows_members rows = member (codes "rows") (array_of (map row_data rows)) no_members

-- Two ballots with these rows: the lines of both, and the rows.
abbrev pub beside_data : Data → Data → List (Row × Beside) → Data
beside_data left right rows = object (member (codes "left") left (member (codes "right") right (rows_members rows)))

-- The ballots of two styles, in two reports, are told beside each other. Each line of either stands in one row, in its order,
-- and so do the selections inside it; what a ballot lists several times is told apart by the number of the occurrence.
pub record AreBeside (π : Preference) (t d : Data) (ρ : Preference) (u e : Data) (told : Data) : Type 0 where
  pub rows : List (Row × Beside)
  pub are_rows : AreLineRows π t d ρ u e (map (λ r. r.0) rows)
  pub inside : AllByRecursion (IsInside (AreSelectionsAt π t (lines_of d) ρ u (lines_of e))) rows
  pub tells : told ≡ beside_data (lines_data π t d) (lines_data ρ u e) rows

-- The same of two styles of which either may be missing: then null is told.
abbrev pub AreBesideIf : Preference → Data → Option Data → Preference → Data → Option Data → Data → Type 0
AreBesideIf π t (Some d) ρ u (Some e) told = AreBeside π t d ρ u e told
AreBesideIf π t (Some d) ρ u None told = told ≡ null
AreBesideIf π t None ρ u o told = told ≡ null

-- The style at this position, or none.
abbrev pub style_in : Data → ℕ → Option Data
style_in t i = option_map (λ o. o.value) (slice_get (objects family.Style t) i)

-- The text tells the ballots of the styles at these positions beside each other, or null if there is no such style on a side.
abbrev pub IsBesideText : Preference → Data → ℕ → Preference → Data → ℕ → List ℕ → Type 0
IsBesideText π t i ρ u j text = (told : Data) × AreBesideIf π t (style_in t i) ρ u (style_in u j) told × (text ≡ compact_text told)
