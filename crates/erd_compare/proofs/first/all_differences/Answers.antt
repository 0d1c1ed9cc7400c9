use Rattle.erd_compare.proofs.Common.{sym, subst, arith, view, meaning}
use Rattle.erd_compare.proofs.least_difference.PartsInOrder.{number_at, number_low}
use Rattle.erd_compare.proofs.differing.PartLists.{AreDifferencesBelow, all_parts, more_below, none_below}
use Rattle.erd_compare.proofs.first.all_differences.Goals as goal

pub loop-part-init : goal.loop-part-init
loop-part-init c =
    let m = meaning c.args.comparer.now.left.prefer (view c.args.comparer.now.left.tree) in
    let n = meaning c.args.comparer.now.right.prefer (view c.args.comparer.now.right.tree) in
    subst (AreDifferencesBelow m n 0) (sym c.new-found.ensures.items) (none_below m n)

pub loop-part-preserved : goal.loop-part-preserved
loop-part-preserved c =
    let m = meaning c.args.comparer.now.left.prefer (view c.args.comparer.now.left.tree) in
    let n = meaning c.args.comparer.now.right.prefer (view c.args.comparer.now.right.tree) in
    let i = c.loop-part.part-index in
    let added = c.in_ok-push_differences.ensures in
    subst (AreDifferencesBelow m n _) (sym added.2) (more_below m n i c.loop-part.found.items c.loop-part.invariant added.0 added.1 (number_at i (omega arith)))

pub returns : goal.returns
returns c =
    let m = meaning c.args.comparer.now.left.prefer (view c.args.comparer.now.left.tree) in
    let n = meaning c.args.comparer.now.right.prefer (view c.args.comparer.now.right.tree) in
    all_parts m n c.loop-part.part-index c.loop-part.found.items (λ p. let low = number_low p in omega (arith, low)) c.loop-part.invariant
