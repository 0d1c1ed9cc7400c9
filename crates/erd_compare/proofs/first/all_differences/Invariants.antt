use Rattle.erd_compare.proofs.Common.{view, meaning}
use Rattle.erd_compare.proofs.differing.PartLists.{AreDifferencesBelow}
use Rattle.erd_compare.proofs.first.all_differences.Given as goal

abbrev pub invariant-loop-part : goal.invariant-loop-part
invariant-loop-part l = AreDifferencesBelow (meaning l.comparer.left.prefer (view l.comparer.left.tree))
    (meaning l.comparer.right.prefer (view l.comparer.right.tree)) l.part-index l.found.items
