use Rattle.erd_canon.proofs.Common.{◌≡◌, false, ◌++◌, iter_rest, pointer_text, IsMoved}
use Rattle.erd_canon.proofs.engines.lines.write_place.Given as goal

abbrev pub invariant-loop-step : goal.invariant-loop-step
invariant-loop-step g l = record {
  works : g.O.Sink.writer.has_failed l.out ≡ false;
  counted : g.O.Sink.writer.flushes l.out ≡ g.O.Sink.writer.flushes l.fn.out;
  moved : IsMoved (g.O.Sink.writer.contents l.fn.out) (g.O.Sink.writer.contents l.out) (l.fn.buffer.items ++ pointer_text l.place)
      (l.buffer.items ++ pointer_text (iter_rest l.step-iterator));
}
