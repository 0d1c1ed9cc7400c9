use Rattle.erd_compare.proofs.Common.{as_str, view}
use Rattle.erd_compare.proofs.same_ranks.KeyRanks.{values_decide}
use Rattle.erd_compare.proofs.values.references.is_same_reference.Goals as goal

pub returns : goal.returns
returns c =
    values_decide c.args.comparer.now.left c.args.comparer.now.right c.args.family c.requires.keyed (as_str (view c.args.one.now))
    (as_str (view c.args.other.now)) c.rank_named.result c.rank_named-2.result c.eq.result c.rank_named.ensures c.rank_named-2.ensures c.eq.ensures
