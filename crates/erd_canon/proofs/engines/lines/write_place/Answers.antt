use Rattle.erd_canon.proofs.Common.{◌≡◌, ◌∷◌, ◌++◌, codes, ap, ◌∙◌, rules, iter_rest, step_text, pointer_text, on_error}
use Rattle.erd_canon.proofs.runs.Moving.{IsFrontMoved-more, IsMoved-more}
use Rattle.erd_canon.proofs.engines.lines.write_place.Goals as goal

pub loop-step-preserved : goal.loop-step-preserved
loop-step-preserved g c =
    let steps : iter_rest c.loop-step.step-iterator ≡ c.in-Some.step.now ∷ iter_rest c.next.new.self = search rules in
    record {
      works = c.in_ok-write_step.ensures.works;
      counted = c.write_step.ensures.counted ∙ c.loop-step.invariant.counted;
      moved = IsMoved-more c.loop-step.buffer.items (codes "/" ++ step_text c.in-Some.step.now) (pointer_text (iter_rest c.next.new.self))
          c.loop-step.invariant.moved (ap (λ l. pointer_text l) steps) c.in_ok-write_step.ensures.moved;
    }

pub returns-in_err-write_step-clause-part : goal.returns-in_err-write_step-clause-part
returns-in_err-write_step-clause-part g c =
    let steps : iter_rest c.loop-step.step-iterator ≡ c.in-Some.step.now ∷ iter_rest c.next.new.self = search rules in
    on_error c.from_residual.result (IsFrontMoved-more c.loop-step.buffer.items (codes "/" ++ step_text c.in-Some.step.now)
    (pointer_text (iter_rest c.next.new.self)) c.loop-step.invariant.moved (ap (λ l. pointer_text l) steps) c.in_err-write_step.ensures.part)
