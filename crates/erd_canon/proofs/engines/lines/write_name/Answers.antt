use Rattle.erd_canon.proofs.Common.{◌+◌, get_or, drop, ◌∙◌, escaped_byte, escaped_name, on_error}
use Rattle.std.proofs.lemmas.List.{at_drop_more}
use Rattle.erd_canon.proofs.runs.Moving.{IsFrontMoved-more, IsMoved-more}
use Rattle.erd_canon.proofs.engines.lines.write_name.Goals as goal

pub returns-in_err-write_byte-clause-part : goal.returns-in_err-write_byte-clause-part
returns-in_err-write_byte-clause-part g c =
    let name = c.args.name.now in
    let i = c.loop-byte.byte-index in
    on_error c.from_residual.result (IsFrontMoved-more c.loop-byte.buffer.items (escaped_byte (get_or name i 0)) (escaped_name (drop (i + 1) name))
    c.loop-byte.invariant.moved
    (at_drop_more (λ l. escaped_name l) name i 0 c.loop-byte-test.true) c.in_err-write_byte.ensures.part)

pub loop-byte-preserved : goal.loop-byte-preserved
loop-byte-preserved g c =
    let name = c.args.name.now in
    let i = c.loop-byte.byte-index in
    record {
      works = c.in_ok-write_byte.ensures.works;
      counted = c.write_byte.ensures.counted ∙ c.loop-byte.invariant.counted;
      moved = IsMoved-more c.loop-byte.buffer.items (escaped_byte (get_or name i 0)) (escaped_name (drop (i + 1) name)) c.loop-byte.invariant.moved
          (at_drop_more (λ l. escaped_name l) name i 0 c.loop-byte-test.true) c.in_ok-write_byte.ensures.moved;
    }
