use Rattle.erd_shown.proofs.Common.{◌≡◌, ℕ, List, Option, ◌++◌, map, option_map, slice_get, slice_get-map}
use Rattle.erd_shown.proofs.Common.{string_bytes, sym, ap, ap₂, ◌∙◌, append-nil, view, on_ok_weaker, codes}
use Rattle.erd_shown.specs.BallotLines.{lines_text, side_lines}
use Rattle.erd_shown.specs.code.LineLists.{of_line}
use Rattle.erd_shown.specs.code.Pairs.{moved_lines_in, pair_lines_in, row_lines_in}
use Rattle.erd_shown.specs.code.SelectionsFound.{of_selections}
use Rattle.erd_shown.specs.declared.lines.Line.{Line}
use Rattle.erd_shown.specs.declared.pairs.Pair.{Pair}
use Rattle.erd_shown.specs.declared.rows.Row.{Row}
use Rattle.erd_shown.specs.declared.rows.Row.TheVariants.{Both, Removed, Added, MovedAway, MovedHere}
use Rattle.erd_shown.specs.declared.selection_rows.SelectionRows.{SelectionRows}
use Rattle.erd_shown.proofs.differing_lines.push_row.Goals as goal

line_there : (ls : List Line) (i : ℕ) (o : Option Line) → o ≡ slice_get ls i → option_map of_line o ≡ slice_get (map of_line ls) i
line_there ls i o is = ap (option_map of_line) is ∙ sym (slice_get-map of_line ls i)

module _ (p : Pair) (ones others : List Line) (r : Row × SelectionRows) (old new : List ℕ) where
  abbrev IsTold : Type 0
  IsTold = new ≡ old ++ lines_text (row_lines_in p ones others r)

  -- what is told of a row is told of this one
  told : (row : Row) → r.0 ≡ row → new ≡ old ++ lines_text (row_lines_in p ones others (row, r.1)) → IsTold
  told row is h = h ∙ sym (ap (λ (k : Row). old ++ lines_text (row_lines_in p ones others (k, r.1))) is)

  both : (i j : ℕ) (one other : Option Line) → r.0 ≡ Both i j → one ≡ slice_get ones i → other ≡ slice_get others j
      → new ≡ old ++ lines_text (pair_lines_in p (option_map of_line one) (option_map of_line other) (of_selections r.1)) → IsTold
  both i j one other is left right h =
      told (Both i j) is (h ∙ ap₂ (λ x y. old ++ lines_text (pair_lines_in p x y (of_selections r.1))) (line_there ones i one left)
      (line_there others j other right))

  moved : (i j : ℕ) (one other : Option Line) → r.0 ≡ MovedHere i j → one ≡ slice_get ones i → other ≡ slice_get others j
      → new ≡ old ++ lines_text (moved_lines_in p (option_map of_line one) (option_map of_line other) (of_selections r.1)) → IsTold
  moved i j one other is left right h =
      told (MovedHere i j) is (h ∙ ap₂ (λ x y. old ++ lines_text (moved_lines_in p x y (of_selections r.1))) (line_there ones i one left)
      (line_there others j other right))

  removed : (i : ℕ) (one : Option Line) → r.0 ≡ Removed i → one ≡ slice_get ones i
      → new ≡ old ++ lines_text (side_lines p.left.now.prefer (view p.left.now.tree) (codes "removed") (option_map of_line one)) → IsTold
  removed i one is left h =
      told (Removed i) is (h ∙ ap (λ x. old ++ lines_text (side_lines p.left.now.prefer (view p.left.now.tree) (codes "removed") x))
      (line_there ones i one left))

  added : (j : ℕ) (other : Option Line) → r.0 ≡ Added j → other ≡ slice_get others j
      → new ≡ old ++ lines_text (side_lines p.right.now.prefer (view p.right.now.tree) (codes "added") (option_map of_line other)) → IsTold
  added j other is right h =
      told (Added j) is (h ∙ ap (λ x. old ++ lines_text (side_lines p.right.now.prefer (view p.right.now.tree) (codes "added") x))
      (line_there others j other right))

pub returns-in-Both : goal.returns-in-Both
returns-in-Both c =
    on_ok_weaker c.push_pair.result
    (both c.args.pair.now c.args.ones.now c.args.others.now c.args.row.now (string_bytes c.args.text.now) (string_bytes c.push_pair.new.text) c.in-Both.one
    c.in-Both.other c.line_in-one.result c.line_in-other.result
    c.in-Both.is c.line_in-one.ensures c.line_in-other.ensures)
    c.push_pair.ensures

pub returns-in-Removed : goal.returns-in-Removed
returns-in-Removed c =
    on_ok_weaker c.push_side.result
    (removed c.args.pair.now c.args.ones.now c.args.others.now c.args.row.now (string_bytes c.args.text.now) (string_bytes c.push_side.new.text)
    c.in-Removed.one c.line_in.result c.in-Removed.is c.line_in.ensures)
    c.push_side.ensures

pub returns-in-Added : goal.returns-in-Added
returns-in-Added c =
    on_ok_weaker c.push_side-in-Added.result
    (added c.args.pair.now c.args.ones.now c.args.others.now c.args.row.now (string_bytes c.args.text.now) (string_bytes c.push_side-in-Added.new.text)
    c.in-Added.other c.line_in-in-Added.result c.in-Added.is
    c.line_in-in-Added.ensures)
    c.push_side-in-Added.ensures

pub returns-in-MovedAway : goal.returns-in-MovedAway
returns-in-MovedAway c =
    told c.args.pair.now c.args.ones.now c.args.others.now c.args.row.now (string_bytes c.args.text.now) (string_bytes c.args.text.now)
    (MovedAway c.in-MovedAway.field-0 c.in-MovedAway.field-1) c.in-MovedAway.is
    (sym (append-nil (string_bytes c.args.text.now)))

pub returns-in-MovedHere : goal.returns-in-MovedHere
returns-in-MovedHere c =
    on_ok_weaker c.push_moved.result
    (moved c.args.pair.now c.args.ones.now c.args.others.now c.args.row.now (string_bytes c.args.text.now) (string_bytes c.push_moved.new.text)
    c.in-MovedHere.one c.in-MovedHere.other
    c.line_in-one-in-MovedHere.result c.line_in-other-in-MovedHere.result c.in-MovedHere.is c.line_in-one-in-MovedHere.ensures
    c.line_in-other-in-MovedHere.ensures)
    c.push_moved.ensures
