use Rattle.std.proofs.Common.{map, sym, ap, ◌∙◌, map-id}
use Rattle.std.proofs.lemmas.Iterator.Adapters.{YieldsList-from_vec}
use Rattle.std.proofs.lemmas.Iterator.Consumers.{YieldsList-end}
use Rattle.erd_meaning.specs.code.CollectedWalks.{found}
use Rattle.erd_meaning.specs.code.ObjectWalk.{met_all, nothing_met}
use Rattle.erd_meaning.specs.code.ShownWalks.{met_of}
use Rattle.erd_meaning.proofs.identity.MetObjects.{filled_next}
use Rattle.erd_meaning.proofs.objects.filled.filled.Goals as goal

pub loop-one-preserved : goal.loop-one-preserved
loop-one-preserved c = (
  filled_next (met_of c.loop-one.tables) (met_of c.add.new.self) c.loop-one.yielded c.in-Some.one c.loop-one.invariant.0 c.in_ok-add.ensures.met,
  c.in_ok-add.ensures.objects ∙ c.loop-one.invariant.1,
  c.in_ok-add.ensures.elections ∙ c.loop-one.invariant.2,
)

pub returns-clause-salted : goal.returns-clause-salted
returns-clause-salted c = record {
  objects_are = c.loop-one.invariant.1 ∙ c.in_ok-with_capacity.ensures.start;
  elections_are = c.loop-one.invariant.2 ∙ c.new.ensures.start;
}

pub returns-clause-met : goal.returns-clause-met
returns-clause-met c =
    let h = c.into_iter-one-iterator.ensures.into_iter_gives in
    let given = YieldsList-from_vec {s = c.into_iter-one-iterator.result} c.args.all.items h.0 (h.1 ∙ c.args.all.ok.0) in
    let end = YieldsList-end given c.loop-one.yielded c.loop-one.one-iterator c.loop-one.yielded_by c.next.result c.next.new.self c.in-None.is
    c.next.ensures.steps in
    c.loop-one.invariant.0 ∙ ap (λ xs. met_all nothing_met (map found xs)) (sym (map-id c.loop-one.yielded) ∙ end.0)
