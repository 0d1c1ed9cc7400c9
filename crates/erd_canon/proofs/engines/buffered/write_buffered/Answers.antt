use Rattle.erd_canon.proofs.Common.{◌++◌, OnOk, subst, on_ok_weaker, OnErr, on_err_weaker, IsFrontMoved, IsMoved, on_error}
use Rattle.erd_canon.proofs.runs.Moving.{IsFrontMoved-behind, IsFrontMoved-trans, IsMoved-behind, IsMoved-trans}
use Rattle.erd_canon.proofs.engines.buffered.write_buffered.Goals as goal

pub returns-in_err-make_room-clause-part : goal.returns-in_err-make_room-clause-part
returns-in_err-make_room-clause-part g c = on_error c.from_residual.result (IsFrontMoved-behind c.args.bytes.now c.in_err-make_room.ensures.part)

pub returns-in-Err-clause-moved : goal.returns-in-Err-clause-moved
returns-in-Err-clause-moved g c =
    on_ok_weaker c.write_through-in-Err.result (λ n. IsMoved-trans (IsMoved-behind c.args.bytes.now c.in_ok-make_room.ensures.moved) n)
    (subst (λ l. OnOk c.write_through-in-Err.result
    (IsMoved (g.O.Sink.writer.contents c.make_room.new.out) (g.O.Sink.writer.contents c.write_through-in-Err.new.out) (l ++ c.args.bytes.now)
    c.write_through-in-Err.new.buffer.items))
    c.in-Err.ensures.items c.write_through-in-Err.ensures.moved)

pub returns-in-Err-clause-part : goal.returns-in-Err-clause-part
returns-in-Err-clause-part g c =
    on_err_weaker c.write_through-in-Err.result (λ n. IsFrontMoved-trans (IsMoved-behind c.args.bytes.now c.in_ok-make_room.ensures.moved) n)
    (subst (λ l. OnErr c.write_through-in-Err.result
    (IsFrontMoved (g.O.Sink.writer.contents c.make_room.new.out) (g.O.Sink.writer.contents c.write_through-in-Err.new.out) (l ++ c.args.bytes.now)))
    c.in-Err.ensures.items c.write_through-in-Err.ensures.part)
