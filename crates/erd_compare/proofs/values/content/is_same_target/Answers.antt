use Rattle.erd_compare.proofs.Common.{Some}
use Rattle.erd_compare.proofs.same_ranks.KeyRanks.{values_decide}
use Rattle.erd_compare.proofs.values.content.is_same_target.Goals as goal

pub returns : goal.returns
returns c =
    values_decide c.args.comparer.now.left c.args.comparer.now.right c.args.family c.requires.keyed (Some c.args.one.now) (Some c.args.other.now)
    c.rank_with_id.result c.rank_with_id-2.result c.eq.result
    c.rank_with_id.ensures c.rank_with_id-2.ensures c.eq.ensures
