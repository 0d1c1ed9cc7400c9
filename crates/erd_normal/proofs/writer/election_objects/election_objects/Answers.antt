use Rattle.erd_normal.proofs.Common.{rules, IfOk-weaker}
use Rattle.erd_normal.proofs.writer.election_objects.election_objects.Goals as goal

pub returns : goal.returns
returns c = IfOk-weaker c.of.result _ _ (λ lists all f. let called = all f in search rules) c.of.ensures
