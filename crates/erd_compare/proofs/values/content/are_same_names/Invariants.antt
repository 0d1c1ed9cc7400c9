use Rattle.erd_compare.proofs.Common.{map, drop, option_and_then, iter_rest, as_str, view, name_named}
use Rattle.erd_compare.proofs.same_content.SameContents.{AreSameIfLeft}
use Rattle.erd_compare.proofs.values.content.are_same_names.Given as goal

abbrev pub invariant-loop-one : goal.invariant-loop-one
invariant-loop-one l =
    AreSameIfLeft
    (map (λ v. option_and_then (name_named l.comparer.left.prefer (view l.comparer.left.tree)) (as_str (view v))) l.ones)
    (map (λ v. option_and_then (name_named l.comparer.right.prefer (view l.comparer.right.tree)) (as_str (view v))) l.others)
    (map (λ v. option_and_then (name_named l.comparer.left.prefer (view l.comparer.left.tree)) (as_str (view v))) (drop l.one-index l.ones))
    (map (λ v. option_and_then (name_named l.comparer.right.prefer (view l.comparer.right.tree)) (as_str (view v))) (iter_rest l.rest))
