use Rattle.erd_compare.proofs.Common.{map, drop, view, family, numbered_name_cmp, objects, with_ranks, numbered_name_cmp_total, numbered_name_cmp_exact}
use Rattle.erd_compare.proofs.Common.{name_told}
use Rattle.erd_compare.proofs.same_ranks.NameNumbers.{IsAdding}
use Rattle.erd_compare.proofs.ranks.name_numbers.numbers_of_names.Given as goal

abbrev pub invariant-loop-position : goal.invariant-loop-position
invariant-loop-position l =
    IsAdding numbered_name_cmp numbered_name_cmp_total numbered_name_cmp_exact (λ o. name_told l.common l.side l.report o.value)
    (map with_ranks l.initial.names.keys) (objects family.Selection (view l.report.tree))
    (drop l.position (objects family.Selection (view l.report.tree))) (map with_ranks l.names.keys) l.numbers.items
