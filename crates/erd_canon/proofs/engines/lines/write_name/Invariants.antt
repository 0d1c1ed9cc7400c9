use Rattle.erd_canon.proofs.Common.{◌≡◌, false, ◌++◌, drop, escaped_name, IsMoved}
use Rattle.erd_canon.proofs.engines.lines.write_name.Given as goal

abbrev pub invariant-loop-byte : goal.invariant-loop-byte
invariant-loop-byte g l = record {
  works : g.O.Sink.writer.has_failed l.out ≡ false;
  counted : g.O.Sink.writer.flushes l.out ≡ g.O.Sink.writer.flushes l.fn.out;
  moved : IsMoved (g.O.Sink.writer.contents l.fn.out) (g.O.Sink.writer.contents l.out) (l.fn.buffer.items ++ escaped_name l.name)
      (l.buffer.items ++ escaped_name (drop l.byte-index l.name));
}
