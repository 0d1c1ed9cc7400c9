-- The styles whose ballots are not the same in two reports. All of this is the profile's own.
use Rattle.std.specs.Prelude.{ℕ, ◌≡◌, List, Bool, false, not, ◌&&◌, if◌then◌else◌, Option, Some, None, map, option_copied, option_map, slice_get, codes}
use Rattle.std.specs.List.{filter_map}
use Rattle.std.specs.Option.{option_cmp, option_map_or}
use Rattle.std.specs.Ordering.{eq_by_cmp}
use Rattle.std.specs.Str.{bytes_eq}
use Rattle.serde_json.specs.Data.{Data, null, Members, no_members, member}
use Rattle.serde_json.specs.Written.{compact_text}
use Rattle.erd_tables.specs.declared.class.Family.TheVariants as family
use Rattle.erd_check.specs.Trees.{is_same_json}
use Rattle.erd_meaning.specs.Keys.{Preference, key_cmp}
use Rattle.erd_meaning.specs.Lookups.{rising_keys}
use Rattle.erd_meaning.specs.Objects.{objects}
use Rattle.erd_meaning.specs.declared.keys.key.Key.{Key}
use Rattle.erd_shown.specs.BallotWords.{selections_in}
use Rattle.erd_shown.specs.Ballots.{compared_ballot}
use Rattle.erd_shown.specs.KeyData.{shown_key_or_null}
use Rattle.erd_shown.specs.Partners.{partners}
use Rattle.erd_shown.specs.Reworded.{is_ballot_reworded}
use Rattle.erd_shown.specs.RowData.{number_or_null}
use Rattle.erd_shown.specs.Rows.{AreRows}
use Rattle.erd_shown.specs.declared.ballot_differences.BallotDifference.{BallotDifference}
use Rattle.erd_shown.specs.declared.rows.Row.{Row}
use Rattle.erd_shown.specs.declared.rows.Row.TheVariants.{Both, Removed, Added, MovedAway, MovedHere}

-- Where a style stands in the right report, or null, as the last member of its object.
abbrev pub right_members : Option ℕ → Members
right_members right = member (codes "right") (number_or_null right) no_members

-- A style: its key, and where either report has it.
pub record StyleFound : Type 0 where
  pub key : Option Key
  pub left : Option ℕ
  pub right : Option ℕ

-- A style as it is told.
abbrev pub of_style : BallotDifference → StyleFound
of_style s = record { key = option_copied s.key; left = s.left; right = s.right }

-- A style, as the last members of its object: its key, and where it stands, with null where it doesn't.
abbrev pub style_members : StyleFound → Members
style_members s = member (codes "key") (shown_key_or_null s.key) (member (codes "left") (number_or_null s.left) (right_members s.right))

-- The ballot of the style at this position as it is compared, or null if there is none.
abbrev pub compared_in : Preference → Data → ℕ → Data
compared_in π t i = option_map_or (λ o. compared_ballot π t o.value) (slice_get (objects family.Style t) i) null

-- True if the ballots of the styles at two positions are one value, whichever elections hold them: their lines, and which voters
-- get them.
abbrev pub has_same_lines : Preference → Data → Preference → Data → ℕ → ℕ → Bool
has_same_lines π t ρ u i j = is_same_json (compared_in π t i) (compared_in ρ u j)

-- True if the ballot of the style at this position prints other words in the other report.
abbrev pub is_reworded_at : Preference → Data → Preference → Data → ℕ → Bool
is_reworded_at π t ρ u i = option_map_or (λ o. is_ballot_reworded π t ρ u o.value) (slice_get (objects family.Style t) i) false

-- True if the same is printed of the selections on each line of the ballots of the styles at two positions.
abbrev pub has_same_selections : Preference → Data → Preference → Data → ℕ → ℕ → Bool
has_same_selections π t ρ u i j = bytes_eq (compact_text (selections_in π t i)) (compact_text (selections_in ρ u j))

-- True if two styles have the same ballot: its lines, their selections, and all words.
abbrev pub is_same_ballot : Preference → Data → Preference → Data → ℕ → ℕ → Bool
is_same_ballot π t ρ u i j = has_same_lines π t ρ u i j && (has_same_selections π t ρ u i j && not (is_reworded_at π t ρ u i))

-- What is told of a style of both reports: nothing if its ballots are the same.
abbrev pub told_of_both : (ℕ → ℕ → Bool) → Option (Option Key × ℕ) → Option (Option Key × ℕ) → Option StyleFound
told_of_both same (Some a) (Some b) = if same a.1 b.1 then None else Some (record { key = a.0; left = Some a.1; right = Some b.1 })
told_of_both same (Some a) None = None
told_of_both same None b = None

-- What is told of a style of the left report alone, and of one of the right report alone.
abbrev pub told_of_left : Option (Option Key × ℕ) → Option StyleFound
told_of_left a = option_map (λ a. record { key = a.0; left = Some a.1; right = None }) a

abbrev pub told_of_right : Option (Option Key × ℕ) → Option StyleFound
told_of_right b = option_map (λ b. record { key = b.0; left = None; right = Some b.1 }) b

-- What is told of a row of the styles of two reports. A style that moved is told where it is now.
abbrev pub told_of_row : (ℕ → ℕ → Bool) → List (Option Key × ℕ) → List (Option Key × ℕ) → Row → Option StyleFound
told_of_row same ls rs (Both i j) = told_of_both same (slice_get ls i) (slice_get rs j)
told_of_row same ls rs (Removed i) = told_of_left (slice_get ls i)
told_of_row same ls rs (Added j) = told_of_right (slice_get rs j)
told_of_row same ls rs (MovedAway i j) = None
told_of_row same ls rs (MovedHere i j) = told_of_both same (slice_get ls i) (slice_get rs j)

-- True if both are one key, or none.
abbrev pub is_one_key : Option Key → Option Key → Bool
is_one_key = eq_by_cmp (option_cmp key_cmp)

-- The keys of styles.
abbrev pub style_keys : List (Option Key × ℕ) → List (Option Key)
style_keys ps = map (λ p. p.0) ps

-- The rows have each style of either list once.
abbrev pub AreStyleRows : List (Option Key × ℕ) → List (Option Key × ℕ) → List Row → Type 0
AreStyleRows ls rs rows = AreRows (partners is_one_key (style_keys ls) (style_keys rs)) (partners is_one_key (style_keys rs) (style_keys ls)) rows

-- The styles whose ballots differ are told: each style of either report stands in one row, and those of both are told if their
-- ballots are not the same.
pub record AreBallotDifferences (π : Preference) (t : Data) (ρ : Preference) (u : Data) (found : List StyleFound) : Type 0 where
  pub rows : List Row
  pub are_rows : AreStyleRows (rising_keys π t family.Style) (rising_keys ρ u family.Style) rows
  pub tells : found ≡ filter_map (told_of_row (is_same_ballot π t ρ u) (rising_keys π t family.Style) (rising_keys ρ u family.Style)) rows
