use Rattle.erd_compare.proofs.Common.{◌≡◌, Some, None, Option, subst, arith, view, Judged, meaning, TellsPart, Difference, Part}
use Rattle.erd_compare.proofs.least_difference.PartsInOrder.{equal_meanings, equal_more, first_told, part_at}
use Rattle.erd_compare.proofs.first.first_difference.Goals as goal

-- what is told of the comparer's reports is told of the two
as_told : (x y a b : Judged) (p : Part) (found o : Option Difference) → x ≡ a → y ≡ b → found ≡ o → TellsPart (meaning x.prefer (view x.tree))
    (meaning y.prefer (view y.tree)) p found
    → TellsPart (meaning a.prefer (view a.tree)) (meaning b.prefer (view b.tree)) p o
as_told x y a b p found o left right is told =
    subst (TellsPart (meaning a.prefer (view a.tree)) (meaning b.prefer (view b.tree)) p) is
    (subst (λ (j : Judged). TellsPart (meaning j.prefer (view j.tree)) (meaning b.prefer (view b.tree)) p found) left
    (subst (λ (j : Judged). TellsPart (meaning x.prefer (view x.tree)) (meaning j.prefer (view j.tree)) p found) right told))

pub loop-part-preserved : goal.loop-part-preserved
loop-part-preserved c =
    let a = c.args.left.now in
    let b = c.args.right.now in
    equal_more (meaning a.prefer (view a.tree)) (meaning b.prefer (view b.tree)) c.loop-part.part-index c.loop-part.invariant
    (as_told c.in_ok-comparer.comparer.left c.in_ok-comparer.comparer.right a b (part_at c.loop-part.part-index) _ None c.in_ok-comparer.ensures.left
    c.in_ok-comparer.ensures.right c.in_default.is c.in_ok-difference.ensures)

pub returns-in-Some : goal.returns-in-Some
returns-in-Some c =
    let a = c.args.left.now in
    let b = c.args.right.now in
    first_told (meaning a.prefer (view a.tree)) (meaning b.prefer (view b.tree)) c.loop-part.part-index c.in-Some.difference (omega arith) c.loop-part.invariant
    (as_told c.in_ok-comparer.comparer.left c.in_ok-comparer.comparer.right a b (part_at c.loop-part.part-index) _ (Some c.in-Some.difference)
    c.in_ok-comparer.ensures.left c.in_ok-comparer.ensures.right c.in-Some.is c.in_ok-difference.ensures)

pub returns : goal.returns
returns c = equal_meanings c.args.left.now.prefer c.args.right.now.prefer (view c.args.left.now.tree) (view c.args.right.now.tree) c.loop-part.part-index
    (omega arith) c.loop-part.invariant
