use Rattle.erd_compare.proofs.Common.{◌==◌}
use Rattle.std.proofs.lemmas.List.Filters.{dedup_is}
use Rattle.erd_compare.proofs.same_ranks.RankSets.{sorted_once}
use Rattle.erd_compare.proofs.values.references.set_of.Goals as goal

pub returns : goal.returns
returns c =
    let sorted = c.sort_unstable.new.self.items in
    sorted_once c.args.ranks.items sorted c.dedup.new.self.items c.sort_unstable.ensures.permutation c.sort_unstable.ensures.sorted
    (dedup_is ◌==◌ sorted c.dedup.new.self.items c.dedup.ensures.filtered)
