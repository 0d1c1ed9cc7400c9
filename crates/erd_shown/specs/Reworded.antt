-- Ballots with other words in another report. Objects of the two reports are one if they have one key. All of this is the
-- profile's own.
use Rattle.std.specs.Prelude.{ℕ, List, Bool, false, not, ◌||◌, if◌then◌else◌, Option, option_and_then, option_map, codes}
use Rattle.std.specs.List.{list_any}
use Rattle.std.specs.Option.{option_map_or}
use Rattle.std.specs.Str.{bytes_eq}
use Rattle.serde_json.specs.Data.{Data}
use Rattle.serde_json.specs.Find.{as_str, get}
use Rattle.erd_tables.specs.declared.class.Family.{Family}
use Rattle.erd_tables.specs.declared.class.Family.TheVariants as family
use Rattle.erd_check.specs.Values.{entries_at, text_at}
use Rattle.erd_meaning.specs.Keys.{Preference, key_of}
use Rattle.erd_meaning.specs.Objects.{owner}
use Rattle.erd_meaning.specs.Records.{class_of_node, is_header_class, placed_with_key}
use Rattle.erd_meaning.specs.declared.keys.key.Key.{Key}
use Rattle.erd_shown.specs.Ballots.{lines_of}
use Rattle.erd_shown.specs.ListedNames.{listed_at, lists_selections, selections_named}
use Rattle.erd_shown.specs.BallotWords.{words_text}

-- ---- references

-- True if the reference names an object of the family of which this is true.
abbrev pub true_of_named : (Data → Bool) → Data → Family → Data → Bool
true_of_named P t f r = option_map_or P (option_and_then (owner t f) (as_str r)) false

-- True if the reference in this member does. An absent one names no object, even if an `@id` is empty.
abbrev pub true_of_named_at : List ℕ → (Data → Bool) → Data → Family → Data → Bool
true_of_named_at name P t f d = option_map_or (true_of_named P t f) (get name d) false

-- True if one of the references does.
abbrev pub true_of_any_named : (Data → Bool) → Data → Family → List Data → Bool
true_of_any_named P t f rs = list_any (true_of_named P t f) rs

-- ---- objects

-- The object of the family that has the key, or none.
abbrev pub with_key : Preference → Data → Family → Key → Option Data
with_key π t f k = option_map (λ o. o.value) (placed_with_key π t f k)

-- True if ballots print other words of these two objects of the family.
abbrev pub has_other_words : Preference → Data → Preference → Data → Family → Data → Data → Bool
has_other_words π t ρ u f d e = not (bytes_eq (words_text π t f d) (words_text ρ u f e))

-- True if the other report has other words of the object.
abbrev pub is_reworded : Preference → Data → Preference → Data → Family → Data → Bool
is_reworded π t ρ u f d = option_map_or (λ k. option_map_or (has_other_words π t ρ u f d) (with_key ρ u f k) false) (key_of π d) false

-- A candidate: of itself, its party, or its person.
abbrev pub is_candidate_reworded : Preference → Data → Preference → Data → Data → Bool
is_candidate_reworded π t ρ u d =
    is_reworded π t ρ u family.Candidate d
    || (true_of_named_at (codes "PartyId") (is_reworded π t ρ u family.Party) t family.Party d
    || true_of_named_at (codes "PersonId") (is_reworded π t ρ u family.Person) t family.Person d)

-- A contest, without its selections: of itself, the parties whose primary it is, or the candidate to be retained.
abbrev pub is_contest_reworded : Preference → Data → Preference → Data → Data → Bool
is_contest_reworded π t ρ u d =
    is_reworded π t ρ u family.Contest d
    || (true_of_any_named (is_reworded π t ρ u family.Party) t family.Party (entries_at (codes "PrimaryPartyIds") d)
    || true_of_named_at (codes "CandidateId") (is_candidate_reworded π t ρ u) t family.Candidate d)

-- A selection: of its candidates, its parties, or the parties that endorse it.
abbrev pub is_selection_reworded : Preference → Data → Preference → Data → Data → Bool
is_selection_reworded π t ρ u d =
    true_of_any_named (is_candidate_reworded π t ρ u) t family.Candidate (entries_at (codes "CandidateIds") d)
    || (true_of_any_named (is_reworded π t ρ u family.Party) t family.Party (entries_at (codes "PartyIds") d)
    || true_of_any_named (is_reworded π t ρ u family.Party) t family.Party (entries_at (codes "EndorsementPartyIds") d))

-- ---- ballots

-- A selection of a contest on a ballot: one that it lists, or if it lists none any of the contest.
abbrev pub are_selections_reworded : Preference → Data → Preference → Data → Data → Bool
are_selections_reworded π t ρ u d =
    if lists_selections d
    then true_of_any_named (is_selection_reworded π t ρ u) t family.Selection (listed_at d)
    else list_any (is_selection_reworded π t ρ u) (selections_named t (text_at (codes "ContestId") d))

-- A line of a ballot.
abbrev pub is_line_reworded : Preference → Data → Preference → Data → Data → Bool
is_line_reworded π t ρ u d =
    if is_header_class (class_of_node d)
    then true_of_named_at (codes "HeaderId") (is_reworded π t ρ u family.Header) t family.Header d
    else true_of_named_at (codes "ContestId") (is_contest_reworded π t ρ u) t family.Contest d || are_selections_reworded π t ρ u d

-- Those whose voters get the ballot of a style.
abbrev pub are_voters_reworded : Preference → Data → Preference → Data → Data → Bool
are_voters_reworded π t ρ u d =
    true_of_any_named (is_reworded π t ρ u family.Party) t family.Party (entries_at (codes "PartyIds") d)
    || true_of_any_named (is_reworded π t ρ u family.Unit) t family.Unit (entries_at (codes "GpUnitIds") d)

-- The ballot of a style.
abbrev pub is_ballot_reworded : Preference → Data → Preference → Data → Data → Bool
is_ballot_reworded π t ρ u d = list_any (λ l. is_line_reworded π t ρ u l.1) (lines_of d) || are_voters_reworded π t ρ u d
