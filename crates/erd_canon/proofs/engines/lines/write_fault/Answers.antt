use Rattle.erd_canon.proofs.Common.{◌++◌, codes, refl, reason_text, fault_line, pointer_text, on_error}
use Rattle.erd_canon.proofs.runs.Moving.{IsFrontMoved-first, IsFrontMoved-more, IsMoved-first, IsMoved-more, last_moved, last_part}
use Rattle.erd_canon.proofs.engines.lines.write_fault.Goals as goal

pub returns-in_err-write_place-clause-part : goal.returns-in_err-write_place-clause-part
returns-in_err-write_place-clause-part g c =
    on_error c.from_residual.result (IsFrontMoved-first c.args.buffer.now.items (pointer_text c.args.fault.now.place)
    (codes ": " ++ reason_text c.args.fault.now.reason) (fault_line c.args.fault.now) refl c.in_err-write_place.ensures.part)

pub returns-in_err-write_buffered-clause-part : goal.returns-in_err-write_buffered-clause-part
returns-in_err-write_buffered-clause-part g c =
    on_error c.from_residual-in_err-write_buffered.result (IsFrontMoved-more c.write_place.new.buffer.items (codes ": ") (reason_text c.args.fault.now.reason)
    (IsMoved-first c.args.buffer.now.items (pointer_text c.args.fault.now.place) (codes ": " ++ reason_text c.args.fault.now.reason)
    (fault_line c.args.fault.now) refl c.in_ok-write_place.ensures.moved) refl c.in_err-write_buffered.ensures.part)

pub returns-clause-moved : goal.returns-clause-moved
returns-clause-moved g c =
    last_moved c.write_reason.result (g.O.Sink.writer.contents c.write_reason.new.out) c.write_reason.new.buffer.items
    (IsMoved-more c.write_place.new.buffer.items (codes ": ") (reason_text c.args.fault.now.reason)
    (IsMoved-first c.args.buffer.now.items (pointer_text c.args.fault.now.place) (codes ": " ++ reason_text c.args.fault.now.reason)
    (fault_line c.args.fault.now) refl c.in_ok-write_place.ensures.moved) refl c.in_ok-write_buffered.ensures.moved) c.write_reason.ensures.moved

pub returns-clause-part : goal.returns-clause-part
returns-clause-part g c =
    last_part c.write_reason.result (g.O.Sink.writer.contents c.write_reason.new.out)
    (IsMoved-more c.write_place.new.buffer.items (codes ": ") (reason_text c.args.fault.now.reason)
    (IsMoved-first c.args.buffer.now.items (pointer_text c.args.fault.now.place) (codes ": " ++ reason_text c.args.fault.now.reason)
    (fault_line c.args.fault.now) refl c.in_ok-write_place.ensures.moved) refl c.in_ok-write_buffered.ensures.moved) c.write_reason.ensures.part
