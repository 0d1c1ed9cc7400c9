use Rattle.erd_canon.proofs.Common.{◌≡◌, false, ◌++◌, map, iter_rest, fault_line, text_of_lines, lines_of_side, IsMoved}
use Rattle.erd_canon.proofs.engines.lines.write_each.Given as goal

abbrev pub invariant-loop-fault : goal.invariant-loop-fault
invariant-loop-fault g l = record {
  works : g.O.Sink.writer.has_failed l.out ≡ false;
  counted : g.O.Sink.writer.flushes l.out ≡ g.O.Sink.writer.flushes l.fn.out;
  moved : IsMoved (g.O.Sink.writer.contents l.fn.out) (g.O.Sink.writer.contents l.out)
      (l.fn.buffer.items ++ text_of_lines (lines_of_side l.side (map fault_line l.faults)))
      (l.buffer.items ++ text_of_lines (lines_of_side l.side (map fault_line (iter_rest l.fault-iterator))));
}
