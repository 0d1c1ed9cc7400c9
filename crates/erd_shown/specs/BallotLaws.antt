-- The laws of what is told of two ballots, and of the ballots of two reports. All of this is the profile's own.
use Rattle.std.specs.Prelude.{ℕ, ◌≡◌, ◌⊎◌, ◌↔◌, List, [], Bool, true, false, Option, Some, None, Contains, map, slice_get}
use Rattle.std.specs.List.{AllByRecursion}
use Rattle.serde_json.specs.Data.{Data}
use Rattle.serde_json.specs.Written.{compact_text}
use Rattle.erd_tables.specs.declared.class.Family.TheVariants as family
use Rattle.erd_meaning.specs.Keys.{Preference, key_of}
use Rattle.erd_meaning.specs.Lookups.{rising_keys}
use Rattle.erd_meaning.specs.Objects.{IsObject, Placed}
use Rattle.erd_meaning.specs.Records.{meaning}
use Rattle.erd_meaning.specs.declared.keys.key.Key.{Key}
use Rattle.erd_shown.specs.BallotDifferences.{AreBallotDifferences, StyleFound, is_one_key, is_same_ballot, style_keys}
use Rattle.erd_shown.specs.BallotDifferences.{told_of_both, told_of_left, told_of_right}
use Rattle.erd_shown.specs.BallotLines.{AreDifferingLines}
use Rattle.erd_shown.specs.BallotWords.{printed_selections}
use Rattle.erd_shown.specs.Ballots.{ballot_data, compared_ballot, line_data, lines_data, lines_of}
use Rattle.erd_shown.specs.Laws.{IsTaken}
use Rattle.erd_shown.specs.Partners.{partners}
use Rattle.erd_shown.specs.Reworded.{is_ballot_reworded}
use Rattle.erd_shown.specs.RowData.{AreLineRows, style_in}
use Rattle.erd_shown.specs.declared.rows.Row.{Row}
use Rattle.erd_shown.specs.declared.rows.Row.TheVariants.{Both}

-- The row tells no difference: it is of a line of both, which is the same in these two lists.
abbrev pub TellsNoDifference : {A : Type 0} → List A → List A → Row → Type 0
TellsNoDifference ls rs (Both i j) = slice_get ls i ≡ slice_get rs j
TellsNoDifference ls rs row = ⊥

-- The lines of two ballots are equal if no row of them tells a difference.
abbrev pub BallotsTell : Type 0
BallotsTell =
    (π ρ : Preference) (t u d e : Data) (rows : List Row)
    → AreLineRows π t d ρ u e rows
    → AllByRecursion (TellsNoDifference (map (line_data π t) (lines_of d)) (map (line_data ρ u) (lines_of e))) rows
    → lines_data π t d ≡ lines_data ρ u e

-- The ballots of two styles are one, whichever elections hold them: who gets them, their lines, what is printed of the
-- selections, and all words.
abbrev pub IsOneBallot : Preference → Data → Data → Preference → Data → Data → Type 0
IsOneBallot π t d ρ u e =
    (compared_ballot π t d ≡ compared_ballot ρ u e)
    × (compact_text (printed_selections π t d) ≡ compact_text (printed_selections ρ u e))
    × (is_ballot_reworded π t ρ u d ≡ false)

-- The ballots of two styles with one key are one if no line says that they differ. So a style whose ballots are not the same
-- has a line below it.
abbrev pub LinesTell : Type 0
LinesTell =
    (π ρ : Preference) (t u d e : Data) → key_of π d ≡ key_of ρ e → AreDifferingLines π t d ρ u e [] → IsOneBallot π t d ρ u e

-- ---- the ballots of two reports

-- For each style of the first list, where the style with its key stands in the second list, or none.
abbrev pub style_partners : List (Option Key × ℕ) → List (Option Key × ℕ) → List (Option ℕ)
style_partners ls rs = partners is_one_key (style_keys ls) (style_keys rs)

-- The style is of the left report alone, of the right report alone, or of both, and its ballots are not the same.
abbrev pub IsLeftAlone : List (Option Key × ℕ) → List (Option Key × ℕ) → StyleFound → Type 0
IsLeftAlone ls rs s = (i : ℕ) × (slice_get (style_partners ls rs) i ≡ Some None) × (told_of_left (slice_get ls i) ≡ Some s)

abbrev pub IsRightAlone : List (Option Key × ℕ) → List (Option Key × ℕ) → StyleFound → Type 0
IsRightAlone ls rs s = (j : ℕ) × (slice_get (style_partners rs ls) j ≡ Some None) × (told_of_right (slice_get rs j) ≡ Some s)

abbrev pub DiffersInBoth : (ℕ → ℕ → Bool) → List (Option Key × ℕ) → List (Option Key × ℕ) → StyleFound → Type 0
DiffersInBoth same ls rs s =
    (i : ℕ) × (j : ℕ) × (slice_get (style_partners ls rs) i ≡ Some (Some j)) × (told_of_both same (slice_get ls i) (slice_get rs j) ≡ Some s)

abbrev pub IsDifferingStyle : (ℕ → ℕ → Bool) → List (Option Key × ℕ) → List (Option Key × ℕ) → StyleFound → Type 0
IsDifferingStyle same ls rs s = IsLeftAlone ls rs s ⊎ (IsRightAlone ls rs s ⊎ DiffersInBoth same ls rs s)

-- A style is told exactly if one report alone has it, or both have it and its ballots are not the same.
abbrev pub StylesTell : Type 0
StylesTell =
    (π ρ : Preference) (t u : Data) (found : List StyleFound) → AreBallotDifferences π t ρ u found
    → (s : StyleFound) → Contains found s ↔ IsDifferingStyle (is_same_ballot π t ρ u) (rising_keys π t family.Style) (rising_keys ρ u family.Style) s

-- ---- reports that mean the same

-- Two ballots pass the test if and only if they are one.
abbrev pub SameBallotsTell : Type 0
SameBallotsTell =
    (π ρ : Preference) (t u d e : Data) (i j : ℕ) → style_in t i ≡ Some d → style_in u j ≡ Some e
    → (is_same_ballot π t ρ u i j ≡ true) ↔ IsOneBallot π t d ρ u e

-- In reports that mean the same, two styles with one key have one ballot. It is told alike, its election too, and no style is
-- told as one that differs.
abbrev pub MeaningsTell : Type 0
MeaningsTell =
    (π ρ : Preference) (t u : Data) → IsTaken π t → IsTaken ρ u → meaning π t ≡ meaning ρ u
    → ((o p : Placed) → IsObject t family.Style o → IsObject u family.Style p → key_of π o.value ≡ key_of ρ p.value
    → IsOneBallot π t o.value ρ u p.value × (ballot_data π t o ≡ ballot_data ρ u p))
    × ((found : List StyleFound) → AreBallotDifferences π t ρ u found → found ≡ [])
