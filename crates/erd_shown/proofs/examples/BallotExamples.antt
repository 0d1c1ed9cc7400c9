-- The ballots of small reports, and two of them beside each other, by computation.
use Rattle.erd_shown.proofs.Common.{◌≡◌, ℕ, true, false, List, [], ◌∷◌, ◌++◌, Some, None, codes, sym, refl}
use Rattle.erd_shown.proofs.Common.{◌∙◌, subst, same_Some, slice_get, Data, compact_text}
use Rattle.erd_shown.proofs.Common.{tree_of, small_ballot, small_ballot_with, one_unit, local_key, NameParts, AllByRecursion}
unfoldable use Rattle.erd_shown.proofs.Common.{digits, serde_json_on_literals}
use Rattle.erd_check.proofs.Reports.{contest_node, header_node}
use Rattle.erd_tables.specs.declared.class.Class.TheVariants as class
use Rattle.erd_shown.specs.BallotDifferences.{AreBallotDifferences, StyleFound}
use Rattle.erd_shown.specs.BallotLines.{AreDifferingLines, IsStyleTold, head_lines, told_text}
use Rattle.erd_shown.specs.BallotWords.{selection_words}
use Rattle.erd_shown.specs.Ballots.{lines_data, lines_of}
use Rattle.erd_shown.specs.Heads.{heads_data}
use Rattle.erd_shown.specs.ListedNames.{names_in_order, names_on}
use Rattle.erd_shown.specs.RowData.{AreBeside, beside_data}
use Rattle.erd_shown.specs.SelectionRows.{AreSelections, AreSelectionsAt, Beside, IsInside, no_names}
use Rattle.erd_shown.specs.declared.rows.Row.{Row}
use Rattle.erd_shown.specs.declared.rows.Row.TheVariants.{Both, MovedAway, MovedHere, Removed}

-- the small ballot, the same with its order exchanged, and a report without ballots
abbrev one : Data
one = tree_of small_ballot

abbrev exchanged : Data
exchanged = tree_of (small_ballot_with (codes "K3") (contest_node ++ codes "," ++ header_node))

abbrev without : Data
without = tree_of one_unit

-- a header, a contest inside it and one behind it, for the voters of a precinct
head_there : compact_text (heads_data None one) ≡ codes
    "[{\"at\":0,\"key\":[\"local-level\",\"\",\"S1\"],\"lines\":3,\"parties\":[],\"units\":[[\"local-level\",\"\",\"U2\"]]}]"
unfolding digits serde_json_on_literals
head_there = refl

line_there : head_lines None one ≡ codes "ballot [\"local-level\",\"\",\"S1\"]: 3 lines" ∷ []
unfolding digits serde_json_on_literals
line_there = refl

-- ---- which ballots are not the same

abbrev on_both : StyleFound
on_both = record { key = Some (local_key (codes "S1")); left = Some 0; right = Some 0 }

abbrev on_the_left : StyleFound
on_the_left = record { key = Some (local_key (codes "S1")); left = Some 0; right = None }

none_differs : AreBallotDifferences None one None one []
unfolding digits serde_json_on_literals
none_differs = record { rows = Both 0 0 ∷ []; are_rows = record { left_lines = refl; right_lines = refl; so = (refl, tt) }; tells = refl }

other_order : AreBallotDifferences None one None exchanged (on_both ∷ [])
unfolding serde_json_on_literals
other_order = record { rows = Both 0 0 ∷ []; are_rows = record { left_lines = refl; right_lines = refl; so = (refl, tt) }; tells = refl }

one_alone : AreBallotDifferences None one None without (on_the_left ∷ [])
unfolding serde_json_on_literals
one_alone = record { rows = Removed 0 ∷ []; are_rows = record { left_lines = refl; right_lines = refl; so = (refl, tt) }; tells = refl }

none_told : told_text [] ≡ codes "same ballots\n"
none_told = refl

line_told : told_text ((on_the_left, []) ∷ (on_both, codes "  changed units\n") ∷ [])
    ≡ codes "ballot [\"local-level\",\"\",\"S1\"]: only in the left report\nballot [\"local-level\",\"\",\"S1\"]: differs\n  changed units\n"
unfolding serde_json_on_literals
line_told = refl

alone_below : IsStyleTold None one None without (on_the_left, [])
unfolding serde_json_on_literals
alone_below = ([], refl, refl)

-- ---- the selections of a contest

abbrev for_two : NameParts
for_two = record {
  class = class.CandidateSelection;
  keys = local_key (codes "K1") ∷ local_key (codes "K2") ∷ [];
  write_in = false;
  order = None;
  label = None;
  identifier = None;
}

abbrev for_one : NameParts
for_one = record { class = class.CandidateSelection; keys = local_key (codes "K3") ∷ []; write_in = false; order = None; label = None; identifier = None }

abbrev write_in_line : NameParts
write_in_line = record { class = class.CandidateSelection; keys = []; write_in = true; order = None; label = None; identifier = None }

abbrev listing : List ℕ → Data
listing ids = tree_of (codes "{\"@type\":\"ElectionResults.OrderedContest\",\"ContestId\":\"a8\",\"OrderedContestSelectionIds\":[" ++ ids ++ codes "]}")

-- a header has no selections, not even those of a contest whose `@id` is empty
abbrev without_id : Data
without_id = tree_of
    (codes "{\"Election\":[{\"Contest\":[{\"@id\":\"\",\"@type\":\"ElectionResults.CandidateContest\","
    ++ codes "\"ContestSelection\":[{\"@type\":\"ElectionResults.CandidateSelection\",\"IsWriteIn\":true}]}]}]}")

none_of_header : (names_on None without_id (tree_of header_node) ≡ []) × (compact_text (selection_words None without_id (tree_of header_node)) ≡ codes "[]")
unfolding serde_json_on_literals
none_of_header = (refl, refl)

-- three that are listed, and two of them in another order: one stays, one moves, one is gone
abbrev listed : Beside
listed = record {
  lefts = for_one ∷ for_two ∷ write_in_line ∷ [];
  rights = for_two ∷ for_one ∷ [];
  rows = MovedHere 1 0 ∷ Both 0 1 ∷ MovedAway 1 0 ∷ Removed 2 ∷ [];
}

two_lists : AreSelections None one (listing (codes "\"a10\",\"a9\",\"a11\"")) None one (listing (codes "\"a9\",\"a10\"")) listed
unfolding serde_json_on_literals
two_lists = record {
  left_names = refl;
  right_names = refl;
  are_rows = record { left_lines = refl; right_lines = refl; so = (refl, (refl, (refl, (refl, tt)))) };
}

-- against a ballot that lists none, both are told in the order of the names, and nothing moves
abbrev by_name : Beside
by_name = record { lefts = write_in_line ∷ for_two ∷ for_one ∷ []; rights = write_in_line ∷ for_two ∷ for_one ∷ []; rows = Both 0 0 ∷ Both 1 1 ∷ Both 2 2 ∷ [] }

against_none : AreSelections None one (listing (codes "\"a10\",\"a9\",\"a11\"")) None one
    (tree_of (codes "{\"@type\":\"ElectionResults.OrderedContest\",\"ContestId\":\"a8\"}")) by_name
unfolding serde_json_on_literals
against_none = record { left_names = refl; right_names = refl; are_rows = record { left_lines = refl; right_lines = refl; so = (refl, (refl, (refl, tt))) } }

-- ---- two ballots beside each other

abbrev ballot : List ℕ → Data
ballot content = tree_of (codes "{\"OrderedContent\":[" ++ content ++ codes "]}")

abbrev three_listed : List ℕ
three_listed = codes "{\"@type\":\"ElectionResults.OrderedContest\",\"ContestId\":\"a8\",\"OrderedContestSelectionIds\":[\"a10\",\"a9\",\"a11\"]}"

abbrev two_listed : List ℕ
two_listed = codes "{\"@type\":\"ElectionResults.OrderedContest\",\"ContestId\":\"a8\",\"OrderedContestSelectionIds\":[\"a9\",\"a10\"]}"

abbrev before : Data
before = ballot (three_listed ++ codes "," ++ contest_node)

abbrev after : Data
after = ballot (contest_node ++ codes "," ++ two_listed)

-- the selections of the measure, which no ballot lists
abbrev of_measure : Beside
of_measure =
    let names = names_on None one (tree_of contest_node) in
    record { lefts = names_in_order false names; rights = names_in_order false names; rows = Both 0 0 ∷ Both 1 1 ∷ [] }

-- the measure moves to the front; the selections of the contest stand in its row
abbrev rows_there : List (Row × Beside)
rows_there = (MovedHere 1 0, of_measure) ∷ (Both 0 1, listed) ∷ (MovedAway 1 0, no_names) ∷ []

at_known : (t u : Data) (ls rs : List (ℕ × Data)) (i j : ℕ) (b : Beside) (x y : ℕ × Data) → slice_get ls i ≡ Some x → slice_get rs j ≡ Some y
    → AreSelections None t x.1 None u y.1 b → AreSelectionsAt None t ls None u rs i j b
at_known t u ls rs i j b x y left right are l r one_is other_is =
    subst (λ (z : ℕ × Data). AreSelections None t l.1 None u z.1 b) (same_Some y r (sym right ∙ other_is))
    (subst (λ (z : ℕ × Data). AreSelections None t z.1 None u y.1 b) (same_Some x l (sym left ∙ one_is)) are)

measure_there : AreSelections None one (tree_of contest_node) None one (tree_of contest_node) of_measure
unfolding serde_json_on_literals
measure_there = record { left_names = refl; right_names = refl; are_rows = record { left_lines = refl; right_lines = refl; so = (refl, (refl, tt)) } }

inside_there : AllByRecursion (IsInside (AreSelectionsAt None one (lines_of before) None one (lines_of after))) rows_there
unfolding serde_json_on_literals
inside_there =
    let ls = lines_of before in
    let rs = lines_of after in (
      at_known one one ls rs 1 0 of_measure (0, tree_of contest_node) (0, tree_of contest_node) refl refl measure_there,
      (at_known one one ls rs 0 1 listed (0, tree_of three_listed) (0, tree_of two_listed) refl refl two_lists, (refl, tt)),
    )

beside_there : AreBeside None one before None one after (beside_data (lines_data None one before) (lines_data None one after) rows_there)
unfolding serde_json_on_literals
beside_there = record {
  rows = rows_there;
  are_rows = record { left_lines = refl; right_lines = refl; so = (refl, (refl, (refl, tt))) };
  inside = inside_there;
  tells = refl;
}

-- and line by line: the measure is the same where it is now
abbrev lines_there : List (List ℕ)
lines_there =
    codes "  moved contest [\"local-level\",\"\",\"C2\"]"
    ∷ codes "  changed contest [\"local-level\",\"\",\"C1\"]"
    ∷ codes "    moved selection [\"ElectionResults.CandidateSelection\",[[\"local-level\",\"\",\"K1\"],[\"local-level\",\"\",\"K2\"]],false,null,null,null]"
    ∷ codes "    removed selection [\"ElectionResults.CandidateSelection\",[],true,null,null,null]"
    ∷ []

differing_there : AreDifferingLines None one before None one after lines_there
unfolding digits serde_json_on_literals
differing_there = record {
  rows = rows_there;
  are_rows = record { left_lines = refl; right_lines = refl; so = (refl, (refl, (refl, tt))) };
  inside = inside_there;
  tells = refl;
}
