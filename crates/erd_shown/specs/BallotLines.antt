-- The lines that say which ballots a report has, and what differs on those of two reports. All of this is the profile's own.
use Rattle.std.specs.Prelude.{ℕ, List, [], ◌∷◌, ◌++◌, Option, Some, None, length, map}
use Rattle.std.specs.Prelude.{slice_get, codes, decimal, ◌≡◌, ◌==◌, Bool, ◌&&◌, not, if◌then◌else◌, option_and_then}
use Rattle.std.specs.List.{flat_map, AllByRecursion}
use Rattle.std.specs.Option.{option_map_or}
use Rattle.std.specs.Bool.{beq}
use Rattle.std.specs.Str.{bytes_eq}
use Rattle.serde_json.specs.Data.{Data, string, object, member}
use Rattle.serde_json.specs.Written.{compact_text}
use Rattle.erd_tables.specs.declared.class.Family.TheVariants as family
use Rattle.erd_tables.specs.declared.class.Family.{Family}
use Rattle.erd_check.specs.Values.{entries_at}
use Rattle.erd_meaning.specs.Keys.{Preference}
use Rattle.erd_meaning.specs.Lookups.{rising_keys}
use Rattle.erd_meaning.specs.Objects.{objects}
use Rattle.erd_meaning.specs.declared.keys.key.Key.{Key}
use Rattle.erd_meaning.specs.NameParts.{NameParts}
use Rattle.erd_shown.specs.BallotDifferences.{StyleFound, style_members}
use Rattle.erd_shown.specs.Ballots.{lines_of, thing_at}
use Rattle.erd_shown.specs.KeyData.{shown_key, array_of, shown_name}
use Rattle.erd_shown.specs.BallotWords.{selection_words}
use Rattle.erd_shown.specs.ListedNames.{lists_selections}
use Rattle.erd_shown.specs.Reworded.{is_line_reworded, is_reworded, true_of_any_named}
use Rattle.erd_shown.specs.RowData.{AreLineRows, style_in}
use Rattle.erd_shown.specs.SelectionRows.{AreSelectionsAt, Beside, IsInside}
use Rattle.erd_shown.specs.Shown.{keys_data}
use Rattle.erd_shown.specs.declared.rows.Row.{Row}
use Rattle.erd_shown.specs.declared.rows.Row.TheVariants.{Both, Removed, Added, MovedAway, MovedHere}

-- A space and the key as compact JSON, or the empty text if there is no key.
abbrev pub key_words : Option Key → List ℕ
key_words None = []
key_words (Some k) = codes " " ++ compact_text (shown_key k)

-- The line of the ballot of a style: its key, a colon, a space and these words.
abbrev pub ballot_line : Option Key → List ℕ → List ℕ
ballot_line key words = codes "ballot" ++ (key_words key ++ (codes ": " ++ words))

-- How many lines the ballot of the style at this position has, or 0 if there is no such style.
abbrev pub count_at : Data → ℕ → ℕ
count_at t i = option_map_or (λ o. length (lines_of o.value)) (slice_get (objects family.Style t) i) 0

-- The line that says how many lines a ballot has.
abbrev pub head_line : Data → Option Key × ℕ → List ℕ
head_line t (key, i) = ballot_line key (decimal (count_at t i) ++ codes " lines")

-- The lines for the ballots of a report, in the rising order of the keys of their styles.
abbrev pub head_lines : Preference → Data → List (List ℕ)
head_lines π t = map (head_line t) (rising_keys π t family.Style)

-- The words for a style whose ballots are not the same.
abbrev pub side_words : Option ℕ → Option ℕ → List ℕ
side_words left None = codes "only in the left report"
side_words None (Some j) = codes "only in the right report"
side_words (Some i) (Some j) = codes "differs"

-- The line for it.
abbrev pub found_line : StyleFound → List ℕ
found_line s = ballot_line s.key (side_words s.left s.right)

-- The text of the lines, each ended by one line feed.
abbrev pub lines_text : List (List ℕ) → List ℕ
lines_text lines = flat_map (λ line. line ++ 10 ∷ []) lines

-- ---- who gets the ballots

-- This line, unless it is so.
abbrev pub line_unless : Bool → List ℕ → List (List ℕ)
line_unless so line = if so then [] else line ∷ []

-- True if two lists of references name objects of the same keys.
abbrev pub has_same_keys : Preference → Data → Preference → Data → Family → List Data → List Data → Bool
has_same_keys π t ρ u f ds es = bytes_eq (compact_text (keys_data π t f ds)) (compact_text (keys_data ρ u f es))

-- True if the members with this name of two styles name the same objects of the family, and the right report has no other words
-- of them.
abbrev pub has_same_voters : Preference → Data → Preference → Data → Family → List ℕ → Data → Data → Bool
has_same_voters π t ρ u f name d e =
    has_same_keys π t ρ u f (entries_at name d) (entries_at name e) && not (true_of_any_named (is_reworded π t ρ u f) t f (entries_at name d))

-- The lines for the parties and for the units whose voters get the ballots of two styles: none if they are the same.
abbrev pub voter_lines : Preference → Data → Data → Preference → Data → Data → List (List ℕ)
voter_lines π t d ρ u e =
    line_unless (has_same_voters π t ρ u family.Party (codes "PartyIds") d e) (codes "  changed parties")
    ++ line_unless (has_same_voters π t ρ u family.Unit (codes "GpUnitIds") d e) (codes "  changed units")

-- ---- the selections of a contest

-- The line that says how the selection with this name differs, or no line if there is no name.
abbrev pub name_lines : List ℕ → Option NameParts → List (List ℕ)
name_lines how None = []
name_lines how (Some n) = (codes "    " ++ (how ++ (codes " selection " ++ compact_text (shown_name (Some n))))) ∷ []

-- The lines for a row of selections. One that moved is told where it is now.
abbrev pub selection_row_lines : List NameParts → List NameParts → Row → List (List ℕ)
selection_row_lines ns ms (Both i j) = []
selection_row_lines ns ms (Removed i) = name_lines (codes "removed") (slice_get ns i)
selection_row_lines ns ms (Added j) = name_lines (codes "added") (slice_get ms j)
selection_row_lines ns ms (MovedAway i j) = []
selection_row_lines ns ms (MovedHere i j) = name_lines (codes "moved") (slice_get ms j)

-- The lines for the selections of a contest on two ballots.
abbrev pub nested_lines : Beside → List (List ℕ)
nested_lines b = flat_map (selection_row_lines b.lefts b.rights) b.rows

-- ---- headers and contests

-- The words for a header or a contest: which it is, and its key.
abbrev pub thing_words : Bool × Option Key → List ℕ
thing_words (is_header, key) = (if is_header then codes "header" else codes "contest") ++ key_words key

-- The line that says how a header or a contest differs.
abbrev pub thing_line : List ℕ → Bool × Option Key → List ℕ
thing_line how thing = codes "  " ++ (how ++ (codes " " ++ thing_words thing))

-- True if a line of the left ballot and one of the right ballot, of one thing, are as deep, list selections both or neither, and
-- print the same words.
abbrev pub is_same_line : Preference → Data → Preference → Data → ℕ × Data → ℕ × Data → Bool
is_same_line π t ρ u l r =
    (l.0 == r.0)
    && (beq (lists_selections l.1) (lists_selections r.1)
    && (bytes_eq (compact_text (selection_words π t l.1)) (compact_text (selection_words ρ u r.1))
    && not (is_line_reworded π t ρ u l.1)))

-- This line and those below it. Without any below, nothing if it is so.
abbrev pub headed_unless : Bool → List ℕ → List (List ℕ) → List (List ℕ)
headed_unless so line [] = line_unless so line
headed_unless so line (below ∷ more) = line ∷ below ∷ more

-- The lines for a line of both ballots, with those for its selections: none if it is the same.
abbrev pub pair_lines : Preference → Data → Preference → Data → Option (ℕ × Data) → Option (ℕ × Data) → Beside → List (List ℕ)
pair_lines π t ρ u (Some l) (Some r) b = headed_unless (is_same_line π t ρ u l r) (thing_line (codes "changed") (thing_at π t l.1)) (nested_lines b)
pair_lines π t ρ u (Some l) None b = []
pair_lines π t ρ u None r b = []

-- The line for a line of one ballot, if there is one.
abbrev pub side_lines : Preference → Data → List ℕ → Option (ℕ × Data) → List (List ℕ)
side_lines π t how None = []
side_lines π t how (Some l) = thing_line how (thing_at π t l.1) ∷ []

-- The lines for a line that moved: where it is now, and if it is not the same, that it changed.
abbrev pub moved_lines : Preference → Data → Preference → Data → Option (ℕ × Data) → Option (ℕ × Data) → Beside → List (List ℕ)
moved_lines π t ρ u l r b = side_lines ρ u (codes "moved") r ++ pair_lines π t ρ u l r b

-- The lines for a row.
abbrev pub row_lines : Preference → Data → List (ℕ × Data) → Preference → Data → List (ℕ × Data) → Row × Beside → List (List ℕ)
row_lines π t ls ρ u rs (Both i j, b) = pair_lines π t ρ u (slice_get ls i) (slice_get rs j) b
row_lines π t ls ρ u rs (Removed i, b) = side_lines π t (codes "removed") (slice_get ls i)
row_lines π t ls ρ u rs (Added j, b) = side_lines ρ u (codes "added") (slice_get rs j)
row_lines π t ls ρ u rs (MovedAway i j, b) = []
row_lines π t ls ρ u rs (MovedHere i j, b) = moved_lines π t ρ u (slice_get ls i) (slice_get rs j) b

-- ---- two ballots

-- The lines tell what differs on the ballots of two styles: who gets them, and rows. Each line of either ballot stands in one
-- row, in its order, and so do the selections inside it.
pub record AreDifferingLines (π : Preference) (t d : Data) (ρ : Preference) (u e : Data) (told : List (List ℕ)) : Type 0 where
  pub rows : List (Row × Beside)
  pub are_rows : AreLineRows π t d ρ u e (map (λ r. r.0) rows)
  pub inside : AllByRecursion (IsInside (AreSelectionsAt π t (lines_of d) ρ u (lines_of e))) rows
  pub tells : told ≡ voter_lines π t d ρ u e ++ flat_map (row_lines π t (lines_of d) ρ u (lines_of e)) rows

-- The same of two styles of which either may be missing: then there are no lines.
abbrev pub AreLinesBelow : Preference → Data → Option Data → Preference → Data → Option Data → List (List ℕ) → Type 0
AreLinesBelow π t (Some d) ρ u (Some e) told = AreDifferingLines π t d ρ u e told
AreLinesBelow π t (Some d) ρ u None told = told ≡ []
AreLinesBelow π t None ρ u o told = told ≡ []

-- ---- two reports

-- The style at this position of the report, if there is a position.
abbrev pub style_at : Data → Option ℕ → Option Data
style_at t place = option_and_then (style_in t) place

-- A style that is told, and the text of the lines below it.
abbrev pub IsStyleTold : Preference → Data → Preference → Data → StyleFound × List ℕ → Type 0
IsStyleTold π t ρ u (s, below) =
    (lines : List (List ℕ)) × AreLinesBelow π t (style_at t s.left) ρ u (style_at u s.right) lines × (below ≡ lines_text lines)

-- These are the styles, each with the text of the lines below it.
pub record AreToldBelow (π : Preference) (t : Data) (ρ : Preference) (u : Data) (found : List StyleFound) (told : List (StyleFound × List ℕ)) : Type 0 where
  pub styles : map (λ p. p.0) told ≡ found
  pub below : AllByRecursion (IsStyleTold π t ρ u) told

-- The text for a style: its line, and those below it.
abbrev pub style_text : StyleFound × List ℕ → List ℕ
style_text (s, below) = found_line s ++ 10 ∷ below

-- The text for the styles whose ballots are not the same: the line `same ballots` if there are none, or else that of each.
abbrev pub told_text : List (StyleFound × List ℕ) → List ℕ
told_text [] = codes "same ballots\n"
told_text (p ∷ ps) = flat_map style_text (p ∷ ps)

-- The text tells these styles of two reports: a line for each, and below it what differs on its ballots.
abbrev pub AreStylesTold : Preference → Data → Preference → Data → List StyleFound → List ℕ → Type 0
AreStylesTold π t ρ u found text = (told : List (StyleFound × List ℕ)) × AreToldBelow π t ρ u found told × (text ≡ told_text told)

-- A style as JSON: the text of the lines below it, its key, and where it stands, with null where it doesn't.
abbrev pub told_style : StyleFound × List ℕ → Data
told_style (s, below) = object (member (codes "below") (string below) (style_members s))

-- The same as JSON.
abbrev pub AreStylesText : Preference → Data → Preference → Data → List StyleFound → List ℕ → Type 0
AreStylesText π t ρ u found text =
    (told : List (StyleFound × List ℕ)) × AreToldBelow π t ρ u found told × (text ≡ compact_text (array_of (map told_style told)))
