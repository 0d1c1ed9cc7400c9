use Rattle.std.proofs.Common.{◌∙◌, sym}
use Rattle.erd_prepare.proofs.Scanned.{all_told, number_told, other_told}
use Rattle.erd_prepare.proofs.numbers.changed_numbers.Goals.{then-begins_number+in_ok-tell_number, else-begins_number}
use Rattle.erd_prepare.proofs.numbers.changed_numbers.Goals as goal

pub loop-at-preserved : goal.loop-at-preserved
loop-at-preserved c = (
  c.piece_end-end.ensures.within,
  c.line_after-line.ensures,
  elim c.if-begins_number.branch [
    | then-begins_number+in_ok-tell_number w ↦
        rw w.told-is
        (number_told c.args.file.now c.loop-at.at c.piece_end-end.result c.loop-at.line _ _ c.loop-at-test.true c.piece_end-end.ensures.end
        c.piece_end-end.ensures.forward
        (sym c.begins_number.ensures ∙ w.if-begins_number.true) c.loop-at.invariant.1 c.loop-at.invariant.2 w.in_ok-tell_number.ensures)
    | else-begins_number w ↦
        rw w.told-is
        (other_told c.args.file.now c.loop-at.at c.piece_end-end.result _ c.loop-at-test.true c.piece_end-end.ensures.end c.piece_end-end.ensures.forward
        (sym c.begins_number.ensures ∙ w.if-begins_number.false) c.loop-at.invariant.2)
  ],
)

pub returns : goal.returns
returns c = all_told c.args.file.now c.loop-at.at _ c.loop-at-test.false c.loop-at.invariant.2
