use Rattle.erd_canon.proofs.Common.{subst, IsPartWritten, on_error}
use Rattle.erd_canon.proofs.runs.Moving.{IsFrontMoved-part}
use Rattle.erd_canon.proofs.engines.buffered.write_buffer.Goals as goal

pub returns-in_err-write_out-clause-part : goal.returns-in_err-write_out-clause-part
returns-in_err-write_out-clause-part g c =
    on_error c.from_residual.result
    (IsFrontMoved-part (subst (IsPartWritten (g.O.Sink.writer.contents c.args.out.now) (g.O.Sink.writer.contents c.write_out.new.sink))
    c.as_slice.ensures.value c.write_out.ensures.part))
