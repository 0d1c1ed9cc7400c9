use Rattle.erd_canon.proofs.Common.{string_bytes, ap, sym, subst, length, fault_line, Bad}
use Rattle.erd_canon.specs.Pieces.{IsPieceLines, whole_line}
use Rattle.erd_canon.specs.code.Fronts.{AppendsEntries, TellsLinesAs}
use Rattle.erd_canon.specs.declared.data.piece.Told.{Told}
use Rattle.erd_canon.proofs.data_values.PieceLines.{lines_of_piece}
use Rattle.erd_canon.proofs.data.texts.refused.Goals as goal

pub returns-in_ok-count-in-Faults : goal.returns-in_ok-count-in-Faults
returns-in_ok-count-in-Faults c =
    let told : Told = record { count = c.in_ok-count-in-Faults.count; all = c.len.result } in
    subst (TellsLinesAs c.args.piece.now Bad told c.into_bytes.result.items c.args.side.now) (sym c.in-Faults.is)
    (subst (IsPieceLines fault_line c.args.side.now c.args.piece.now c.in-Faults.faults told) (ap (λ v. v.items) (sym c.into_bytes.ensures.value))
    (lines_of_piece fault_line (λ x. Unit {0}) c.args.side.now c.args.piece.now c.in-Faults.faults told (string_bytes c.new-text.result)
    (string_bytes c.push_entries.new.text) c.new-text.ensures.bytes
    (subst (λ n. AppendsEntries (λ x. length (whole_line c.args.side.now (fault_line x))) (λ later x. whole_line c.args.side.now (fault_line x)) (λ x. Unit {0})
    c.args.piece.now c.in-Faults.faults
    (record { count = c.in_ok-count-in-Faults.count; all = n }) (string_bytes c.new-text.result) (string_bytes c.push_entries.new.text)) (sym c.len.ensures)
    (subst (λ xs. AppendsEntries (λ x. length (whole_line c.args.side.now (fault_line x))) (λ later x. whole_line c.args.side.now (fault_line x))
    (λ x. Unit {0}) c.args.piece.now xs
    (record { count = c.in_ok-count-in-Faults.count; all = length xs }) (string_bytes c.new-text.result) (string_bytes c.push_entries.new.text))
    c.iter.ensures.rest c.in_ok-count-in-Faults.ensures))))
