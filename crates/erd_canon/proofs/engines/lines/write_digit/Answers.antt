use Rattle.erd_canon.proofs.Common.{◌++◌, OnOk, sym, subst, OnErr, IsFrontMoved, IsMoved}
use Rattle.std.proofs.lemmas.Fmt.{decimal_digit}
use Rattle.erd_canon.proofs.engines.lines.write_digit.Goals as goal

pub returns-clause-moved : goal.returns-clause-moved
returns-clause-moved g c =
    subst (λ l. OnOk c.write_buffered.result (IsMoved (g.O.Sink.writer.contents c.args.out.now) (g.O.Sink.writer.contents c.write_buffered.new.out)
    (c.args.buffer.now.items ++ l) c.write_buffered.new.buffer.items))
    (sym (decimal_digit c.args.digit c.requires.small)) c.write_buffered.ensures.moved

pub returns-clause-part : goal.returns-clause-part
returns-clause-part g c =
    subst (λ l. OnErr c.write_buffered.result (IsFrontMoved (g.O.Sink.writer.contents c.args.out.now) (g.O.Sink.writer.contents c.write_buffered.new.out)
    (c.args.buffer.now.items ++ l)))
    (sym (decimal_digit c.args.digit c.requires.small)) c.write_buffered.ensures.part
