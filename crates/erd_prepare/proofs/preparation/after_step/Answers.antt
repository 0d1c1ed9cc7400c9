use Rattle.std.proofs.Common.{ap, map}
use Rattle.serde_json.specs.View.{view}
use Rattle.erd_prepare.proofs.Preparing.{kept_twice, step_added, unmoved_so_far}
use Rattle.erd_prepare.proofs.preparation.after_step.Goals as goal

pub returns : goal.returns
returns c only = (
  step_added c.args.step (view c.args.before.now) c.args.steps.now.items c.push.new.self.items c.in_ok-done.done _ _ _ _ c.in_ok-done.ensures.done only
      c.in_ok-push.ensures.items c.in_ok-tell.ensures.told (ap (λ v. map view v.items) c.in_ok-note_moves.ensures.told),
  λ later.
      let before = unmoved_so_far c.args.steps.now.items _ c.push.new.self.items c.in_ok-push.ensures.items later in
      kept_twice c.args.so_far.now.moves c.tell.new.self.moves c.note_moves.new.self.moves (c.in_ok-note_moves.ensures.moves before.1)
      c.in_ok-tell.ensures.moves (only before.0),
)
