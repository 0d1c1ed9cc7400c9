use Rattle.erd_shown.proofs.Common.{◌≡◌, ◌++◌, ℕ, List, [], Option, flat_map, map, string_bytes, refl}
use Rattle.erd_shown.proofs.Common.{sym, ap, ap₂, ◌∙◌, subst, view, Data, Preference, AllByRecursion, eq_by_cmp}
use Rattle.std.proofs.lemmas.List.Folds.{flat_map-map}
use Rattle.std.proofs.lemmas.Simd.{map-map}
use Rattle.erd_shown.proofs.LineLaws.{lines_flat, two_pieces}
use Rattle.erd_shown.specs.BallotLines.{lines_text, row_lines}
use Rattle.erd_shown.specs.Ballots.{lines_of, thing_at}
use Rattle.erd_shown.specs.Partners.{partners}
use Rattle.erd_shown.specs.RowData.{AreLineRows, thing_cmp, things_of}
use Rattle.erd_shown.specs.Rows.{AreRows}
use Rattle.erd_shown.specs.SelectionRows.{AreSelectionsAt, Beside, IsInside}
use Rattle.erd_shown.specs.code.LineLists.{of_line}
use Rattle.erd_shown.specs.code.LineTexts.{things_in}
use Rattle.erd_shown.specs.code.Pairs.{row_lines_in, voter_lines_in}
use Rattle.erd_shown.specs.code.SelectionsFound.{of_row}
use Rattle.erd_shown.specs.declared.lines.Line.{Line}
use Rattle.erd_shown.specs.declared.pairs.Pair.{Pair}
use Rattle.erd_shown.specs.declared.rows.Row.{Row}
use Rattle.erd_shown.specs.declared.selection_rows.SelectionRows.{SelectionRows}
use Rattle.erd_shown.proofs.differing_lines.differing_text.Goals as goal

abbrev AreThingRows : Pair → List Line → List Line → List Row → Type 0
AreThingRows p ones others rows =
    let same = eq_by_cmp thing_cmp in
    let here = things_in p.left.now.prefer (view p.left.now.tree) ones in
    let there = things_in p.right.now.prefer (view p.right.now.tree) others in
    AreRows (partners same here there) (partners same there here) rows

abbrev AreInside : Pair → List Line → List Line → List (Row × SelectionRows) → Type 0
AreInside p ones others nested =
    let are = AreSelectionsAt p.left.now.prefer (view p.left.now.tree) (map of_line ones) p.right.now.prefer (view p.right.now.tree) (map of_line others) in
    AllByRecursion (IsInside are) (map of_row nested)

abbrev rows_told : Pair → Data → Data → List (Row × SelectionRows) → List (List ℕ)
rows_told p d e nested =
    flat_map (row_lines p.left.now.prefer (view p.left.now.tree) (lines_of d) p.right.now.prefer (view p.right.now.tree) (lines_of e)) (map of_row nested)

-- what the lines of the ballot of a style are
things_there : (π : Preference) (t d : Data) (ls : List Line) → map of_line ls ≡ lines_of d → things_in π t ls ≡ things_of π t d
things_there π t d ls is = sym (map-map (λ (l : ℕ × Data). thing_at π t l.1) of_line ls) ∙ ap (map (λ (l : ℕ × Data). thing_at π t l.1)) is

firsts_there : (rows : List (Row × SelectionRows)) → map (λ (r : Row × Beside). r.0) (map of_row rows) ≡ map (λ (r : Row × SelectionRows). r.0) rows
firsts_there rows = map-map (λ (r : Row × Beside). r.0) of_row rows

module _ (p : Pair) (d e : Data) (ones others : List Line) (left : map of_line ones ≡ lines_of d) (right : map of_line others ≡ lines_of e) where
  abbrev π : Preference
  π = p.left.now.prefer

  abbrev t : Data
  t = view p.left.now.tree

  abbrev ρ : Preference
  ρ = p.right.now.prefer

  abbrev u : Data
  u = view p.right.now.tree

  rows_there : (rows : List Row) (nested : List (Row × SelectionRows)) → AreThingRows p ones others rows
      → map (λ (r : Row × SelectionRows). r.0) nested ≡ rows → AreLineRows π t d ρ u e (map (λ (r : Row × Beside). r.0) (map of_row nested))
  rows_there rows nested are firsts =
      let same = eq_by_cmp thing_cmp in
      let one = things_there π t d ones left in
      let other = things_there ρ u e others right in
      subst (λ (rs : List Row). AreLineRows π t d ρ u e rs) (sym (firsts_there nested ∙ firsts))
      (subst (λ (xs : List (Option ℕ)). AreRows (partners same (things_of π t d) (things_of ρ u e)) xs rows) (ap₂ (partners same) other one)
      (subst (λ (xs : List (Option ℕ)). AreRows xs (partners same (things_in ρ u others) (things_in π t ones)) rows) (ap₂ (partners same) one other) are))

  inside_there : (nested : List (Row × SelectionRows)) → AreInside p ones others nested
      → AllByRecursion (IsInside (AreSelectionsAt π t (lines_of d) ρ u (lines_of e))) (map of_row nested)
  inside_there nested inside =
      subst (λ (rs : List (ℕ × Data)). AllByRecursion (IsInside (AreSelectionsAt π t (lines_of d) ρ u rs)) (map of_row nested)) right
      (subst (λ (ls : List (ℕ × Data)). AllByRecursion (IsInside (AreSelectionsAt π t ls ρ u (map of_line others))) (map of_row nested)) left inside)

  told_there : (nested : List (Row × SelectionRows)) → flat_map (λ row. lines_text (row_lines_in p ones others row)) nested ≡ lines_text
      (rows_told p d e nested)
  told_there nested =
      sym (lines_flat (row_lines_in p ones others) nested)
      ∙ ap lines_text (sym (flat_map-map (row_lines π t (map of_line ones) ρ u (map of_line others)) of_row nested))
      ∙ ap₂ (λ (ls rs : List (ℕ × Data)). lines_text (flat_map (row_lines π t ls ρ u rs) (map of_row nested))) left right

pub returns : goal.returns
returns c =
    let p = c.args.pair.now in
    let d = view c.args.style.now in
    let e = view c.args.other.now in
    let one = string_bytes c.push_voters.new.text in
    let new = string_bytes c.push_rows.new.text in
    let ones = c.in_ok-ones.ones.items in
    let others = c.in_ok-others.others.items in
    let nested = c.in_ok-nested.nested.items in
    let left = c.in_ok-ones.ensures in
    let right = c.in_ok-others.ensures in
    let tell = λ (ls rs : List Line) (rows : List (Row × SelectionRows)). flat_map (λ row. lines_text (row_lines_in p ls rs row)) rows in
    let told = rows_told p d e in (
      voter_lines_in p d e ++ told nested,
      record {
        rows = map of_row nested;
        are_rows =
            rows_there p d e ones others left right c.in_ok-rows.rows.items nested
            (subst (λ (ls : List Line). AreThingRows p ls others c.in_ok-rows.rows.items) c.deref.ensures.value
            (subst (λ (rs : List Line). AreThingRows p c.deref.result.now rs c.in_ok-rows.rows.items) c.deref-2.ensures.value c.in_ok-rows.ensures))
            (c.in_ok-nested.ensures.rows ∙ c.deref-5.ensures.value);
        inside =
            inside_there p d e ones others left right nested
            (subst (λ (ls : List Line). AreInside p ls others nested) c.deref-3.ensures.value
            (subst (λ (rs : List Line). AreInside p c.deref-3.result.now rs nested) c.deref-4.ensures.value c.in_ok-nested.ensures.inside));
        tells = refl;
      },
      two_pieces [] one new (voter_lines_in p d e) (told nested) (c.in_ok-push_voters.ensures
          ∙ ap (λ ts. ts ++ lines_text (voter_lines_in p d e)) c.new-text.ensures.bytes)
          (c.in_ok-push_rows.ensures
          ∙ ap₂ (λ (ls rs : List Line). one ++ tell ls rs c.deref-8.result.now) c.deref-6.ensures.value c.deref-7.ensures.value
          ∙ ap (λ (rows : List (Row × SelectionRows)). one ++ tell ones others rows) c.deref-8.ensures.value
          ∙ ap (λ ts. one ++ ts) (told_there p d e ones others left right nested)),
    )
