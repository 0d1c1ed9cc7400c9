use Rattle.erd_compare.proofs.Common.{◌≡◌, ◌++◌, drop, filter_map, common_rank_of}
use Rattle.erd_compare.proofs.ranks.name_numbers.common_ranks_of.Given as goal

abbrev pub invariant-loop-rank : goal.invariant-loop-rank
invariant-loop-rank l =
    l.found.items ++ filter_map (common_rank_of l.common l.side l.role) (drop l.rank-index l.ranks) ≡ filter_map (common_rank_of l.common l.side l.role) l.ranks
