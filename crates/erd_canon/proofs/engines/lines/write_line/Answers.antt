use Rattle.erd_canon.proofs.Common.{[], ◌∷◌, ◌++◌, refl, append_assoc, fault_line, on_error}
use Rattle.erd_canon.proofs.runs.Moving.{IsFrontMoved-first, IsFrontMoved-more, IsMoved-first, IsMoved-more, last_moved, last_part}
use Rattle.erd_canon.proofs.engines.lines.write_line.Goals as goal

pub returns-in_err-write_buffered-clause-part : goal.returns-in_err-write_buffered-clause-part
returns-in_err-write_buffered-clause-part g c =
    on_error c.from_residual.result (IsFrontMoved-first c.args.buffer.now.items c.args.side.now (fault_line c.args.fault.now ++ 10 ∷ [])
    ((c.args.side.now ++ fault_line c.args.fault.now) ++ 10 ∷ [])
    (append_assoc c.args.side.now (fault_line c.args.fault.now) (10 ∷ [])) c.in_err-write_buffered.ensures.part)

pub returns-in_err-write_fault-clause-part : goal.returns-in_err-write_fault-clause-part
returns-in_err-write_fault-clause-part g c =
    on_error c.from_residual-in_err-write_fault.result (IsFrontMoved-more c.write_buffered.new.buffer.items (fault_line c.args.fault.now) (10 ∷ [])
    (IsMoved-first c.args.buffer.now.items c.args.side.now (fault_line c.args.fault.now ++ 10 ∷ [])
    ((c.args.side.now ++ fault_line c.args.fault.now) ++ 10 ∷ []) (append_assoc c.args.side.now (fault_line c.args.fault.now) (10 ∷ []))
    c.in_ok-write_buffered.ensures.moved) refl c.in_err-write_fault.ensures.part)

pub returns-clause-moved : goal.returns-clause-moved
returns-clause-moved g c =
    last_moved c.write_buffered-2.result (g.O.Sink.writer.contents c.write_buffered-2.new.out) c.write_buffered-2.new.buffer.items
    (IsMoved-more c.write_buffered.new.buffer.items (fault_line c.args.fault.now) (10 ∷ [])
    (IsMoved-first c.args.buffer.now.items c.args.side.now (fault_line c.args.fault.now ++ 10 ∷ [])
    ((c.args.side.now ++ fault_line c.args.fault.now) ++ 10 ∷ []) (append_assoc c.args.side.now (fault_line c.args.fault.now) (10 ∷ []))
    c.in_ok-write_buffered.ensures.moved) refl c.in_ok-write_fault.ensures.moved) c.write_buffered-2.ensures.moved

pub returns-clause-part : goal.returns-clause-part
returns-clause-part g c =
    last_part c.write_buffered-2.result (g.O.Sink.writer.contents c.write_buffered-2.new.out)
    (IsMoved-more c.write_buffered.new.buffer.items (fault_line c.args.fault.now) (10 ∷ [])
    (IsMoved-first c.args.buffer.now.items c.args.side.now (fault_line c.args.fault.now ++ 10 ∷ [])
    ((c.args.side.now ++ fault_line c.args.fault.now) ++ 10 ∷ []) (append_assoc c.args.side.now (fault_line c.args.fault.now) (10 ∷ []))
    c.in_ok-write_buffered.ensures.moved) refl c.in_ok-write_fault.ensures.moved) c.write_buffered-2.ensures.part
