use Rattle.erd_meaning.proofs.Common.{sym, subst, view, AreDistinct}
use Rattle.erd_meaning.proofs.accepted.DistinctKeys.{election_keys_distinct}
use Rattle.erd_meaning.proofs.report.resolving.indexed.Goals as goal

pub order-requires : goal.order-requires
order-requires c =
    record {
      distinct = subst AreDistinct (sym c.requires.elections) (election_keys_distinct c.args.keys.now (view c.args.tree.now)
          c.requires.resolved.identified);
    }
