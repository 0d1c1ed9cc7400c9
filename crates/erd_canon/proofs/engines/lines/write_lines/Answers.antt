use Rattle.erd_canon.proofs.Common.{◌≡◌, [], ◌++◌, map, subst, rules, fault_line, text_of_lines, lines_of_side, IsMoved}
use Rattle.erd_canon.proofs.runs.Moving.{IsPartWritten-moved, part_of_last}
use Rattle.erd_canon.proofs.engines.lines.write_lines.Goals as goal

pub returns-in_err-write_each-clause-part : goal.returns-in_err-write_each-clause-part
returns-in_err-write_each-clause-part g c =
    let front = c.in_err-write_each.ensures.part in
    let none : c.new-buffer.result.items ≡ [] = search rules in
    IsPartWritten-moved
    (subst (λ l. IsMoved (g.O.Sink.writer.contents c.args.out.now) (g.O.Sink.writer.contents c.write_each.new.out)
    (l ++ text_of_lines (lines_of_side c.args.side.now (map fault_line c.args.faults.now))) front.0) none front.1)

pub returns-clause-part : goal.returns-clause-part
returns-clause-part g c =
    let none : c.new-buffer.result.items ≡ [] = search rules in
    part_of_last c.write_buffer.result c.write_buffer.new.buffer.items
    (subst (λ l. IsMoved (g.O.Sink.writer.contents c.args.out.now) (g.O.Sink.writer.contents c.write_each.new.out)
    (l ++ text_of_lines (lines_of_side c.args.side.now (map fault_line c.args.faults.now))) c.write_each.new.buffer.items) none
    c.in_ok-write_each.ensures.moved)
    c.write_buffer.ensures.moved c.write_buffer.ensures.part
