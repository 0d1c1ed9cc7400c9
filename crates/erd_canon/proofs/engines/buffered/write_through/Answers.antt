use Rattle.erd_canon.proofs.Common.{on_error}
use Rattle.erd_canon.proofs.runs.Moving.{IsFrontMoved-behind, IsFrontMoved-through, IsMoved-through}
use Rattle.erd_canon.proofs.engines.buffered.write_through.Goals as goal

pub returns-in_err-write_buffer-clause-part : goal.returns-in_err-write_buffer-clause-part
returns-in_err-write_buffer-clause-part g c = on_error c.from_residual.result (IsFrontMoved-behind c.args.bytes.now c.in_err-write_buffer.ensures.part)

pub returns-in_err-write_out-clause-part : goal.returns-in_err-write_out-clause-part
returns-in_err-write_out-clause-part g c =
    on_error c.from_residual-in_err-write_out.result (IsFrontMoved-through c.in_ok-write_buffer.ensures.moved c.in_ok-write_buffer.ensures.emptied
    c.write_out.ensures.part)

pub returns-clause-moved : goal.returns-clause-moved
returns-clause-moved g c =
    IsMoved-through (g.O.Sink.writer.contents c.write_out.new.sink) c.args.bytes.now c.in_ok-write_buffer.ensures.moved c.in_ok-write_buffer.ensures.emptied
    c.in_ok-write_out.ensures.written
