use Rattle.erd_shown.proofs.Common.{◌++◌, List, Bor, NameParts, flat_map, map, string_bytes, sym, ap, ap₂, ◌∙◌, on_ok_weaker}
use Rattle.erd_shown.proofs.LineLaws.{lines_flat}
use Rattle.erd_shown.specs.BallotLines.{lines_text, selection_row_lines}
use Rattle.erd_shown.specs.code.LentNames.{lent}
use Rattle.erd_shown.specs.declared.rows.Row.{Row}
use Rattle.erd_shown.proofs.differing_selections.push_nested.Goals as goal

pub returns : goal.returns
returns c =
    let inside = c.args.inside.now in
    let old = string_bytes c.args.text.now in
    let tell = λ (ns ms : List (Bor NameParts)) (rows : List Row). flat_map (λ row. lines_text (selection_row_lines (map lent ns) (map lent ms) row)) rows in
    on_ok_weaker c.push_rows.result
    (λ is.
    is
    ∙ ap₂ (λ (ns ms : List (Bor NameParts)). old ++ tell ns ms c.deref-3.result.now) c.deref.ensures.value c.deref-2.ensures.value
    ∙ ap (λ (rows : List Row). old ++ tell inside.lefts.items inside.rights.items rows) c.deref-3.ensures.value
    ∙ ap (λ ts. old ++ ts) (sym (lines_flat (selection_row_lines (map lent inside.lefts.items) (map lent inside.rights.items)) inside.rows.items)))
    c.push_rows.ensures
