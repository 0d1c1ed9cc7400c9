use Rattle.erd_shown.proofs.Common.{◌≡◌, ℕ, List, slice_get, map, Some, sym, ◌∙◌, subst, IfOk-weaker, option_map-Some, slice_get-map, view, Data, Preference}
use Rattle.erd_shown.specs.SelectionRows.{AreSelections, AreSelectionsAt, Beside, IsInside}
use Rattle.erd_shown.specs.code.LineLists.{of_line}
use Rattle.erd_shown.specs.code.SelectionsFound.{of_selections}
use Rattle.erd_shown.specs.declared.lines.Line.{Line}
use Rattle.erd_shown.specs.declared.rows.Row.{Row}
use Rattle.erd_shown.proofs.ballots_beside.selections_of_row.Goals as goal

at_lines : (π : Preference) (t : Data) (ls : List Line) (ρ : Preference) (u : Data) (rs : List Line) (i j : ℕ) (b : Beside)
    → ((l r : Line) → slice_get ls i ≡ Some l → slice_get rs j ≡ Some r → AreSelections π t (of_line l).1 ρ u (of_line r).1 b)
    → AreSelectionsAt π t (map of_line ls) ρ u (map of_line rs) i j b
at_lines π t ls ρ u rs i j b each l r le re =
    let one = option_map-Some of_line (slice_get ls i) l (sym (slice_get-map of_line ls i) ∙ le) in
    let other = option_map-Some of_line (slice_get rs j) r (sym (slice_get-map of_line rs j) ∙ re) in
    subst (λ (x : ℕ × Data). AreSelections π t x.1 ρ u r.1 b) one.2
    (subst (λ (x : ℕ × Data). AreSelections π t (of_line one.0).1 ρ u x.1 b) other.2 (each one.0 other.0 one.1 other.1))

pub returns-in-Both : goal.returns-in-Both
returns-in-Both c =
    let π = c.args.left.now.prefer in
    let t = view c.args.left.now.tree in
    let ls = c.args.ones.now in
    let ρ = c.args.right.now.prefer in
    let u = view c.args.right.now.tree in
    let rs = c.args.others.now in
    let are = AreSelectionsAt π t (map of_line ls) ρ u (map of_line rs) in
    IfOk-weaker c.selections_at.result _ _
    (λ found each.
    subst (λ (r : Row). IsInside are (r, of_selections found)) (sym c.in-Both.is)
    (at_lines π t ls ρ u rs c.in-Both.one c.in-Both.other (of_selections found)
    (λ l r le re. each l r (c.line_in-one.ensures ∙ le) (c.line_in-other.ensures ∙ re))))
    c.selections_at.ensures

pub returns-in-MovedHere : goal.returns-in-MovedHere
returns-in-MovedHere c =
    let π = c.args.left.now.prefer in
    let t = view c.args.left.now.tree in
    let ls = c.args.ones.now in
    let ρ = c.args.right.now.prefer in
    let u = view c.args.right.now.tree in
    let rs = c.args.others.now in
    let are = AreSelectionsAt π t (map of_line ls) ρ u (map of_line rs) in
    IfOk-weaker c.selections_at-in-MovedHere.result _ _
    (λ found each.
    subst (λ (r : Row). IsInside are (r, of_selections found)) (sym c.in-MovedHere.is)
    (at_lines π t ls ρ u rs c.in-MovedHere.one c.in-MovedHere.other (of_selections found)
    (λ l r le re. each l r (c.line_in-one-in-MovedHere.ensures ∙ le) (c.line_in-other-in-MovedHere.ensures ∙ re))))
    c.selections_at-in-MovedHere.ensures
