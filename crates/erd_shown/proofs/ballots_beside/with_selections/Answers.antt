use Rattle.erd_shown.proofs.Common.{◌≡◌, ℕ, ◌+◌, ◌<◌, List, [], ◌∷◌, ◌++◌, length, get_or, drop, drop_more, map, map-append, sym, ap, ◌∙◌, subst, view}
use Rattle.erd_shown.proofs.Common.{AllByRecursion}
use Rattle.erd_shown.specs.SelectionRows.{AreSelectionsAt, Beside, IsInside}
use Rattle.erd_shown.specs.code.LineLists.{of_line}
use Rattle.erd_shown.specs.code.SelectionsFound.{of_row}
use Rattle.erd_shown.specs.declared.rows.Row.{Row}
use Rattle.erd_shown.specs.declared.selection_rows.SelectionRows.{SelectionRows}
use Rattle.erd_shown.proofs.NameLists.{keep_next}
use Rattle.erd_shown.proofs.RowLists.{all_more}
use Rattle.erd_shown.proofs.ballots_beside.with_selections.Goals as goal

-- one row more, with what is inside it
next_row : (P : Row × Beside → Type 0) (all : List Row) (i : ℕ) (none : Row) (old new : List (Row × SelectionRows)) (s : SelectionRows)
    → new ≡ old ++ (get_or all i none, s) ∷ [] → i < length all
    → P (of_row (get_or all i none, s)) → map (λ (r : Row × SelectionRows). r.0) old ++ drop i all ≡ all → AllByRecursion P (map of_row old)
    → (map (λ (r : Row × SelectionRows). r.0) new ++ drop (i + 1) all ≡ all) × AllByRecursion P (map of_row new)
next_row P all i none old new s is low inside before each = (
  keep_next (λ (r : Row × SelectionRows). r.0) old new (get_or all i none, s) all i (drop_more all i none low) is before,
  subst (λ (rs : List (Row × Beside)). AllByRecursion P rs) (sym (ap (map of_row) is ∙ map-append of_row old ((get_or all i none, s) ∷ [])))
      (all_more P (map of_row old) (of_row (get_or all i none, s)) each inside),
)

pub loop-row-preserved : goal.loop-row-preserved
loop-row-preserved c =
    next_row
    (IsInside (AreSelectionsAt c.args.left.now.prefer (view c.args.left.now.tree) (map of_line c.args.ones.now) c.args.right.now.prefer
    (view c.args.right.now.tree) (map of_line c.args.others.now)))
    c.args.rows.now c.loop-row.row-index _ c.loop-row.found.items c.push.new.self.items c.in_ok-inside.inside c.in_ok-push.ensures.items
    c.loop-row-test.true c.in_ok-inside.ensures
    c.loop-row.invariant.0 c.loop-row.invariant.1
