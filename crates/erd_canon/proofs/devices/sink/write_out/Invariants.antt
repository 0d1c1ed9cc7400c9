use Rattle.erd_canon.proofs.Common.{◌≡◌, ◌-◌, ◌≤◌, false, length, take, Appends}
use Rattle.erd_canon.proofs.devices.sink.write_out.Given as goal

abbrev pub invariant-loop-at : goal.invariant-loop-at
invariant-loop-at g l = record {
  in_range : l.at ≤ length l.bytes;
  works : g.W.Sink.writer.has_failed l.sink ≡ false;
  counted : g.W.Sink.writer.flushes l.sink ≡ g.W.Sink.writer.flushes l.fn.sink;
  empty : length l.bytes ≡ 0 → l.sink ≡ l.fn.sink;
  written : Appends (g.W.Sink.writer.contents l.fn.sink) (g.W.Sink.writer.contents l.sink) (take l.at l.bytes);
}

abbrev pub decreases-loop-at : goal.decreases-loop-at
decreases-loop-at g l = length l.bytes - l.at
