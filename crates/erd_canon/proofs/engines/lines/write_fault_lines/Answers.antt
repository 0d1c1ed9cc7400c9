use Rattle.erd_canon.proofs.Common.{map, OnOk, subst, map-id, Appends, fault_line, text_of_lines, IsPartWritten}
use Rattle.erd_canon.proofs.engines.lines.write_fault_lines.Goals as goal

pub returns-clause-written : goal.returns-clause-written
returns-clause-written g c =
    subst (λ lines. OnOk c.write_lines.result (Appends (g.O.Sink.writer.contents c.args.out.now) (g.O.Sink.writer.contents c.write_lines.new.out)
    (text_of_lines lines)))
    (map-id (map fault_line c.args.faults.now)) c.write_lines.ensures.written

pub returns-clause-part : goal.returns-clause-part
returns-clause-part g c =
    subst (λ lines. IsPartWritten (g.O.Sink.writer.contents c.args.out.now) (g.O.Sink.writer.contents c.write_lines.new.out) (text_of_lines lines))
    (map-id (map fault_line c.args.faults.now)) c.write_lines.ensures.part
