use Rattle.erd_compare.proofs.same_ranks.KeyRanks.{holders_decide}
use Rattle.erd_compare.proofs.objects.held.is_same_holder.Goals as goal

pub returns : goal.returns
returns c =
    holders_decide c.args.comparer.now.left c.args.comparer.now.right c.args.role c.args.position c.args.other_position c.holder_rank.result
    c.holder_rank-2.result c.eq.result c.holder_rank.ensures c.holder_rank-2.ensures c.eq.ensures
