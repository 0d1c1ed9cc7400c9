use Rattle.erd_canon.proofs.Common.{◌++◌, sym, ap, ◌∙◌, missing_name, reason_text, on_error}
use Rattle.erd_canon.proofs.runs.Moving.{IsFrontMoved-first, IsMoved-first, last_moved, last_part}
use Rattle.erd_canon.proofs.engines.lines.write_reason.Goals as goal

pub returns-in_err-write_buffered-clause-part : goal.returns-in_err-write_buffered-clause-part
returns-in_err-write_buffered-clause-part g c =
    on_error c.from_residual.result (IsFrontMoved-first c.args.buffer.now.items c.as_bytes.result.now (missing_name c.args.reason.now)
    (reason_text c.args.reason.now)
    (sym (ap (λ l. l ++ missing_name c.args.reason.now) c.as_bytes.ensures.value ∙ c.words.ensures)) c.in_err-write_buffered.ensures.part)

pub returns-clause-moved : goal.returns-clause-moved
returns-clause-moved g c =
    last_moved c.write_buffered-2.result (g.O.Sink.writer.contents c.write_buffered-2.new.out) c.write_buffered-2.new.buffer.items
    (IsMoved-first c.args.buffer.now.items c.as_bytes.result.now c.as_bytes-2.result.now (reason_text c.args.reason.now)
    (sym (ap (λ l. l ++ c.as_bytes-2.result.now) c.as_bytes.ensures.value ∙ ap (λ l. c.words.result.now ++ l)
    (c.as_bytes-2.ensures.value ∙ c.missing_member.ensures) ∙ c.words.ensures)) c.in_ok-write_buffered.ensures.moved) c.write_buffered-2.ensures.moved

pub returns-clause-part : goal.returns-clause-part
returns-clause-part g c =
    last_part c.write_buffered-2.result (g.O.Sink.writer.contents c.write_buffered-2.new.out)
    (IsMoved-first c.args.buffer.now.items c.as_bytes.result.now c.as_bytes-2.result.now (reason_text c.args.reason.now)
    (sym (ap (λ l. l ++ c.as_bytes-2.result.now) c.as_bytes.ensures.value ∙ ap (λ l. c.words.result.now ++ l)
    (c.as_bytes-2.ensures.value ∙ c.missing_member.ensures) ∙ c.words.ensures)) c.in_ok-write_buffered.ensures.moved) c.write_buffered-2.ensures.part
