use Rattle.erd_compare.proofs.Common.{◌+◌, ◌*◌, map, drop, AllByRecursion, iter_rest, depth, items_depth, view, items_view, node_of, IsWholeTree}
use Rattle.erd_compare.proofs.same_content.SameContents.{AreSameIfLeft}
use Rattle.erd_compare.proofs.values.content.+content.Given as goal

abbrev pub invariant-are_same_nodes-loop-one : goal.invariant-are_same_nodes-loop-one
invariant-are_same_nodes-loop-one l = record {
  same :
      AreSameIfLeft
      (map (λ v. node_of l.comparer.left.prefer (view l.comparer.left.tree) (view v)) l.ones.items)
      (map (λ v. node_of l.comparer.right.prefer (view l.comparer.right.tree) (view v)) l.others)
      (map (λ v. node_of l.comparer.left.prefer (view l.comparer.left.tree) (view v)) (drop l.one-index l.ones.items))
      (map (λ v. node_of l.comparer.right.prefer (view l.comparer.right.tree) (view v)) (iter_rest l.rest));
  whole : AllByRecursion (λ v. IsWholeTree (view v)) (iter_rest l.rest);
}

-- the depth of what is compared, and below it the order of the calls at one depth

abbrev pub decreases-is_same_content : goal.decreases-is_same_content
decreases-is_same_content l = 4 * depth (view l.one.now)

abbrev pub decreases-are_same_nodes : goal.decreases-are_same_nodes
decreases-are_same_nodes l = 4 * items_depth (items_view l.ones.now.items) + 3

abbrev pub decreases-is_same_node : goal.decreases-is_same_node
decreases-is_same_node l = 4 * depth (view l.one.now) + 2

abbrev pub decreases-is_same_header : goal.decreases-is_same_header
decreases-is_same_header l = 4 * depth (view l.one.now) + 1

abbrev pub decreases-is_same_within : goal.decreases-is_same_within
decreases-is_same_within l = 4 * depth (view l.one.now)
