use Rattle.erd_compare.proofs.Common.{◌∙◌, subst, AreCommonRanks}
use Rattle.erd_compare.specs.code.Compared.{Compared}
use Rattle.erd_compare.proofs.comparer.Comparer.common_ranks.Goals as goal

pub returns : goal.returns
returns c = subst (λ (x : Compared). AreCommonRanks x.left x.right c.args.role c.of.result.now) c.self.view_is
    (c.of.ensures ∙ c.self.invariant.all c.args.role c.requires.ranked)
