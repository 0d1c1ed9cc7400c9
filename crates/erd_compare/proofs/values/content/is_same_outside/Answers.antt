use Rattle.erd_compare.proofs.same_values.SameValues.{pairs_decide, pairs_differ}
use Rattle.erd_compare.proofs.values.content.is_same_outside.Goals as goal

pub returns-then-is_same_owner : goal.returns-then-is_same_owner
returns-then-is_same_owner c = pairs_decide c.is_same_owner.ensures c.if-is_same_owner.true c.carries_the_same.ensures

pub returns-else-is_same_owner : goal.returns-else-is_same_owner
returns-else-is_same_owner c = pairs_differ c.is_same_owner.ensures c.if-is_same_owner.false
