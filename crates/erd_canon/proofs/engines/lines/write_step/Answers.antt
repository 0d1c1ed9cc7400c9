use Rattle.erd_canon.proofs.Common.{◌≡◌, [], ◌∷◌, decimal, refl, ap, rules, escaped_name, step_text, on_error}
use Rattle.erd_canon.proofs.runs.Moving.{IsFrontMoved-first, IsMoved-first, last_moved, last_part}
use Rattle.erd_canon.proofs.engines.lines.write_step.Goals as goal

pub returns-in_err-write_buffered-clause-part : goal.returns-in_err-write_buffered-clause-part
returns-in_err-write_buffered-clause-part g c =
    on_error c.from_residual.result (IsFrontMoved-first c.args.buffer.now.items (47 ∷ []) (step_text c.args.step.now) (47 ∷ step_text c.args.step.now) refl
    c.in_err-write_buffered.ensures.part)

pub returns-in-Name-clause-moved : goal.returns-in-Name-clause-moved
returns-in-Name-clause-moved g c =
    let is : step_text c.args.step.now ≡ escaped_name c.as_bytes.result.now = search rules in
    last_moved c.write_name.result (g.O.Sink.writer.contents c.write_name.new.out) c.write_name.new.buffer.items
    (IsMoved-first c.args.buffer.now.items (47 ∷ []) (escaped_name c.as_bytes.result.now) (47 ∷ step_text c.args.step.now) (ap (λ l. 47 ∷ l) is)
    c.in_ok-write_buffered.ensures.moved) c.write_name.ensures.moved

pub returns-in-Name-clause-part : goal.returns-in-Name-clause-part
returns-in-Name-clause-part g c =
    let is : step_text c.args.step.now ≡ escaped_name c.as_bytes.result.now = search rules in
    last_part c.write_name.result (g.O.Sink.writer.contents c.write_name.new.out)
    (IsMoved-first c.args.buffer.now.items (47 ∷ []) (escaped_name c.as_bytes.result.now) (47 ∷ step_text c.args.step.now) (ap (λ l. 47 ∷ l) is)
    c.in_ok-write_buffered.ensures.moved) c.write_name.ensures.part

pub returns-in-At-clause-moved : goal.returns-in-At-clause-moved
returns-in-At-clause-moved g c =
    let is : step_text c.args.step.now ≡ decimal c.in-At.index = search rules in
    last_moved c.write_decimal.result (g.O.Sink.writer.contents c.write_decimal.new.out) c.write_decimal.new.buffer.items
    (IsMoved-first c.args.buffer.now.items (47 ∷ []) (decimal c.in-At.index) (47 ∷ step_text c.args.step.now) (ap (λ l. 47 ∷ l) is)
    c.in_ok-write_buffered.ensures.moved) c.write_decimal.ensures.moved

pub returns-in-At-clause-part : goal.returns-in-At-clause-part
returns-in-At-clause-part g c =
    let is : step_text c.args.step.now ≡ decimal c.in-At.index = search rules in
    last_part c.write_decimal.result (g.O.Sink.writer.contents c.write_decimal.new.out)
    (IsMoved-first c.args.buffer.now.items (47 ∷ []) (decimal c.in-At.index) (47 ∷ step_text c.args.step.now) (ap (λ l. 47 ∷ l) is)
    c.in_ok-write_buffered.ensures.moved) c.write_decimal.ensures.part
