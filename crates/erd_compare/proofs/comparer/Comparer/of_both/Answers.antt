use Rattle.erd_compare.proofs.Common.{rules}
use Rattle.erd_compare.proofs.comparer.Comparer.of_both.Goals as goal

pub invariant_of-result : goal.invariant_of-result
invariant_of-result c = record {
  left_tree = c.tree-left_tree.ensures.tree;
  right_tree = c.tree-right_tree.ensures.tree;
  left = search rules;
  right = search rules;
  all = c.in_ok-ranks.ensures.all;
  by_rank = c.in_ok-ranks.ensures.by_rank;
  numbered = c.in_ok-names.ensures;
}
