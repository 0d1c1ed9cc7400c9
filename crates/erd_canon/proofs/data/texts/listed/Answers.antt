use Rattle.erd_canon.proofs.Common.{string_bytes, ap, sym, subst, length, map, codes}
use Rattle.erd_compare.specs.DifferenceLine.{difference_line}
use Rattle.erd_canon.specs.Pieces.{IsFoundLines, whole_line}
use Rattle.erd_canon.specs.code.Fronts.{AppendsEntries}
use Rattle.erd_canon.specs.declared.data.piece.Told.{Told}
use Rattle.erd_canon.proofs.data_values.PieceLines.{found_lines, lines_made, lines_of_piece}
use Rattle.erd_canon.proofs.data.texts.listed.Goals as goal

pub returns-clause-text : goal.returns-clause-text
returns-clause-text c =
    let told : Told = record { count = c.in_ok-count.count; all = length c.args.found.now } in
    subst (IsFoundLines c.args.piece.now (map (λ d. d.difference) c.args.found.now) told) (ap (λ v. v.items) (sym c.into_bytes.ensures.value))
    (found_lines c.args.piece.now c.args.found.now told (string_bytes c.push_entries.new.text) c.if-is_empty.false c.is_empty.ensures
    (lines_made (λ d. d.difference) difference_line (codes "") c.args.piece.now c.args.found.now told (string_bytes c.push_entries.new.text)
    (lines_of_piece (λ d. difference_line d.difference) (λ x. Unit {0}) (codes "") c.args.piece.now c.args.found.now told (string_bytes c.new-text.result)
    (string_bytes c.push_entries.new.text) c.new-text.ensures.bytes
    (subst (λ xs. AppendsEntries (λ x. length (whole_line (codes "") (difference_line x.difference)))
    (λ later x. whole_line (codes "") (difference_line x.difference)) (λ x. Unit {0}) c.args.piece.now xs
    (record { count = c.in_ok-count.count; all = length xs }) (string_bytes c.new-text.result) (string_bytes c.push_entries.new.text))
    c.iter.ensures.rest c.in_ok-count.ensures))))
