use Rattle.erd_text.proofs.Common.{◌≡◌, ◌++◌, ℕ, List, Option, codes, map, sym, refl, ap, ap₂, ◌∙◌, subst, view, Data, value_tokens, AllByRecursion}
use Rattle.std.proofs.lemmas.Result.{on_ok_weaker}
use Rattle.std.proofs.lemmas.Simd.{map-map}
use Rattle.std.specs.Ordering.{eq_by_cmp}
use Rattle.erd_meaning.specs.Keys.{Preference}
use Rattle.erd_shown.specs.Ballots.{line_data, lines_data, lines_of, thing_at}
use Rattle.erd_shown.specs.KeyData.{array_of}
use Rattle.erd_shown.specs.Partners.{partners}
use Rattle.erd_shown.proofs.Written.{two_then}
use Rattle.erd_shown.specs.RowData.{beside_data, rows_members, thing_cmp, things_of}
use Rattle.erd_shown.specs.Rows.{AreRows}
use Rattle.erd_shown.specs.code.LineLists.{of_line}
use Rattle.erd_shown.specs.code.LineTexts.{things_in, written_lines}
use Rattle.erd_shown.specs.declared.lines.Line.{Line}
use Rattle.erd_shown.specs.SelectionRows.{AreSelectionsAt, Beside, IsInside}
use Rattle.erd_shown.specs.code.SelectionsFound.{of_row}
use Rattle.erd_shown.specs.declared.rows.Row.{Row}
use Rattle.erd_shown.specs.declared.selection_rows.SelectionRows.{SelectionRows}
use Rattle.erd_shown.proofs.ballots_beside.write_ballots_beside.Goals as goal

-- what the lines of the ballot of a style are, and their objects
things_there : (π : Preference) (t d : Data) (ls : List Line) → map of_line ls ≡ lines_of d → things_in π t ls ≡ things_of π t d
things_there π t d ls is = sym (map-map (λ (l : ℕ × Data). thing_at π t l.1) of_line ls) ∙ ap (map (λ (l : ℕ × Data). thing_at π t l.1)) is

lines_there : (π : Preference) (t d : Data) (ls : List Line) → map of_line ls ≡ lines_of d → written_lines π t ls ≡ lines_data π t d
lines_there π t d ls is = ap array_of (sym (map-map (line_data π t) of_line ls) ∙ ap (map (line_data π t)) is)

pub returns : goal.returns
returns c =
    let π = c.args.left.now.prefer in
    let t = view c.args.left.now.tree in
    let d = view c.args.style.now in
    let ρ = c.args.right.now.prefer in
    let u = view c.args.right.now.tree in
    let e = view c.args.other.now in
    let same = eq_by_cmp thing_cmp in
    let left = things_there π t d c.deref.result.now (ap (map of_line) c.deref.ensures.value ∙ c.in_ok-ones.ensures) in
    let right = things_there ρ u e c.deref-2.result.now (ap (map of_line) c.deref-2.ensures.value ∙ c.in_ok-others.ensures) in
    let nested = c.deref-8.result.now in
    let firsts : map (λ (r : Row × Beside). r.0) (map of_row nested) ≡ c.in_ok-rows.rows.items =
    map-map (λ (r : Row × Beside). r.0) of_row nested ∙ ap (map (λ (r : Row × SelectionRows). r.0)) c.deref-8.ensures.value ∙ c.in_ok-nested.ensures.rows
    ∙ c.deref-5.ensures.value in
    let inside = λ (ls rs : List (ℕ × Data)). IsInside (AreSelectionsAt π t ls ρ u rs) in
    on_ok_weaker c.write_rows_member.result
    (λ last. (
      beside_data (lines_data π t d) (lines_data ρ u e) (map of_row nested),
      record {
        rows = map of_row nested;
        are_rows =
            subst (λ (xs : List (Option ℕ)). AreRows (partners same (things_of π t d) (things_of ρ u e)) xs
            (map (λ (r : Row × Beside). r.0) (map of_row nested))) (ap₂ (partners same) right left)
            (subst (λ (xs : List (Option ℕ)). AreRows xs (partners same (things_in ρ u c.deref-2.result.now) (things_in π t c.deref.result.now))
            (map (λ (r : Row × Beside). r.0) (map of_row nested))) (ap₂ (partners same) left right)
            (subst (λ (rows : List Row). AreRows (partners same (things_in π t c.deref.result.now) (things_in ρ u c.deref-2.result.now))
            (partners same (things_in ρ u c.deref-2.result.now) (things_in π t c.deref.result.now)) rows)
            (sym firsts) c.in_ok-rows.ensures));
        inside =
            subst (λ (ns : List (Row × SelectionRows)). AllByRecursion (inside (lines_of d) (lines_of e)) (map of_row ns)) (sym c.deref-8.ensures.value)
            (subst (λ (rs : List (ℕ × Data)). AllByRecursion (inside (lines_of d) rs) (map of_row c.in_ok-nested.nested.items))
            (ap (map of_line) c.deref-4.ensures.value ∙ c.in_ok-others.ensures)
            (subst (λ (ls : List (ℕ × Data)). AllByRecursion (inside ls (map of_line c.deref-4.result.now)) (map of_row c.in_ok-nested.nested.items))
            (ap (map of_line) c.deref-3.ensures.value ∙ c.in_ok-ones.ensures)
            c.in_ok-nested.ensures.inside));
        tells = refl;
      },
      two_then c.args.out.now c.begin_object.new.self c.key.new.self c.write_lines.new.out c.key-2.new.self c.write_lines-2.new.out c.write_rows_member.new.out
          (codes "left") (codes "right")
          (written_lines π t c.deref-6.result.now) (written_lines ρ u c.deref-7.result.now) (rows_members (map of_row nested))
          c.in_ok-begin_object.ensures c.in_ok-key.ensures c.in_ok-write_lines.ensures c.in_ok-key-2.ensures c.in_ok-write_lines-2.ensures last
          ∙ ap₂ (λ (a b : Data). c.args.out.now ++ value_tokens (beside_data a b (map of_row nested)))
          (lines_there π t d c.deref-6.result.now (ap (map of_line) c.deref-6.ensures.value ∙ c.in_ok-ones.ensures))
          (lines_there ρ u e c.deref-7.result.now (ap (map of_line) c.deref-7.ensures.value ∙ c.in_ok-others.ensures)),
    ))
    c.write_rows_member.ensures
