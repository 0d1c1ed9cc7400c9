use Rattle.erd_compare.proofs.Common.{drop, map, view}
use Rattle.erd_compare.proofs.same_selections.SelectionWalks.{seen_value, IsFilling}
use Rattle.erd_compare.proofs.objects.selections.by_number.Given as goal

abbrev pub invariant-loop-index : goal.invariant-loop-index
invariant-loop-index l = IsFilling seen_value l.comparer.left l.comparer.right l.side (map view l.values) (map view (drop l.index l.values)) l.numbered.entries
