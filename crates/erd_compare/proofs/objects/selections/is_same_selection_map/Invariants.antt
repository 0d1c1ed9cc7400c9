use Rattle.erd_compare.proofs.Common.{map, view}
use Rattle.erd_compare.proofs.same_selections.SelectionWalks.{AreSelectionsLeft}
use Rattle.erd_compare.proofs.objects.selections.is_same_selection_map.Given as goal

abbrev pub invariant-loop-number : goal.invariant-loop-number
invariant-loop-number l =
    AreSelectionsLeft l.comparer.left l.comparer.right (map view l.fn.ones.values.now) (map view l.fn.others.values.now) l.number-iterator l.others.entries
