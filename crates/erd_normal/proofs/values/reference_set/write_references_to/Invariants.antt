use Rattle.erd_normal.proofs.Common.{◌≡◌, ◌++◌, map, drop, string, items_of, id_of_rank, items_tokens}
use Rattle.erd_normal.proofs.values.reference_set.write_references_to.Given as goal

abbrev pub invariant-loop-rank : goal.invariant-loop-rank
invariant-loop-rank l =
    l.out ++ items_tokens (items_of (map (λ rank. string (id_of_rank l.family rank)) (drop l.rank-index l.ranks)))
    ≡ l.initial.out ++ items_tokens (items_of (map (λ rank. string (id_of_rank l.family rank)) l.ranks))
