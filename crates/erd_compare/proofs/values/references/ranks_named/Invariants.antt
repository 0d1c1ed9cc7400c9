use Rattle.erd_compare.proofs.Common.{◌≡◌, ◌++◌, drop, filter_map, option_and_then, as_str, view, rank_with_id}
use Rattle.erd_compare.proofs.values.references.ranks_named.Given as goal

abbrev pub invariant-loop-value : goal.invariant-loop-value
invariant-loop-value l =
    l.ranks.items ++ filter_map (λ v. option_and_then (rank_with_id l.comparer.left l.comparer.right l.side l.family) (as_str (view v)))
    (drop l.value-index l.values)
    ≡ filter_map (λ v. option_and_then (rank_with_id l.comparer.left l.comparer.right l.side l.family) (as_str (view v))) l.values
