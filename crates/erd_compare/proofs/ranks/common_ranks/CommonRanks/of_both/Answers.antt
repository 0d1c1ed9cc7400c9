use Rattle.erd_compare.proofs.Common.{refl, rules, role}
use Rattle.erd_compare.proofs.same_ranks.KeyRanks.{common_by_rank}
use Rattle.erd_compare.proofs.ranks.common_ranks.CommonRanks.of_both.Goals as goal

pub returns-clause-all : goal.returns-clause-all
returns-clause-all c (role.OfFamily f) ranked = let called = c.in_ok-families.ensures f in search rules
returns-clause-all c role.Election ranked = c.in_ok-elections.ensures
returns-clause-all c r ranked = refl

pub returns-clause-by_rank : goal.returns-clause-by_rank
returns-clause-by_rank c = common_by_rank c.args.left.now c.args.right.now _ (returns-clause-all c) c.requires.left c.requires.right
