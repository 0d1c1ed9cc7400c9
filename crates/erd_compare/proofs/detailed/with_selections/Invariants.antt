use Rattle.erd_compare.proofs.Common.{◌≡◌, ◌++◌, map, view, meaning}
use Rattle.std.specs.Vec.Iter.{into_iter_items}
use Rattle.erd_compare.proofs.contest_selections.ToldLists.{AreToldUpTo}
use Rattle.erd_compare.proofs.detailed.with_selections.Given as goal

-- with the differences that are left, the list has all
abbrev pub invariant-loop-difference : goal.invariant-loop-difference
invariant-loop-difference l =
    (map (λ e. e.difference) l.found.items ++ into_iter_items l.difference-iterator ≡ l.fn.differences.items)
    × AreToldUpTo (meaning l.comparer.left.prefer (view l.comparer.left.tree)) (meaning l.comparer.right.prefer (view l.comparer.right.tree)) l.fn.first
    l.fn.most_bytes l.found.items l.room
