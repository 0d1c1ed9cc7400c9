use Rattle.erd_compare.proofs.Common.{◌≡◌, List, subst, IfOk-weaker, view, Judged, meaning, Difference, AreDifferences}
use Rattle.erd_compare.proofs.differing.PartLists.{first_of_all, has_each, none_or_same}
use Rattle.erd_compare.proofs.first.differences.Goals as goal

-- all differences of the comparer's reports are those of the two
as_compared : (x y a b : Judged) (ds : List Difference) → x ≡ a → y ≡ b → AreDifferences (meaning x.prefer (view x.tree)) (meaning y.prefer (view y.tree)) ds
    → AreDifferences (meaning a.prefer (view a.tree)) (meaning b.prefer (view b.tree)) ds
as_compared x y a b ds left right told =
    subst (λ (j : Judged). AreDifferences (meaning j.prefer (view j.tree)) (meaning b.prefer (view b.tree)) ds) left
    (subst (λ (j : Judged). AreDifferences (meaning x.prefer (view x.tree)) (meaning j.prefer (view j.tree)) ds) right told)

pub returns : goal.returns
returns c =
    let a = c.args.left.now in
    let b = c.args.right.now in
    let x = c.in_ok-comparer.comparer.left in
    let y = c.in_ok-comparer.comparer.right in
    let are =
    IfOk-weaker c.all_differences.result (λ found. AreDifferences (meaning x.prefer (view x.tree)) (meaning y.prefer (view y.tree)) found.items)
    (λ found. AreDifferences (meaning a.prefer (view a.tree)) (meaning b.prefer (view b.tree)) found.items)
    (λ found h. as_compared x y a b found.items c.in_ok-comparer.ensures.left c.in_ok-comparer.ensures.right h) c.all_differences.ensures in
    record {
      all = are;
      each = IfOk-weaker c.all_differences.result (λ found. AreDifferences (meaning a.prefer (view a.tree)) (meaning b.prefer (view b.tree)) found.items) _
          (λ found h. has_each (meaning a.prefer (view a.tree)) (meaning b.prefer (view b.tree)) found.items h) are;
      first = IfOk-weaker c.all_differences.result (λ found. AreDifferences (meaning a.prefer (view a.tree)) (meaning b.prefer (view b.tree)) found.items) _
          (λ found h. first_of_all a.prefer b.prefer (view a.tree) (view b.tree) found.items h) are;
      same = IfOk-weaker c.all_differences.result (λ found. AreDifferences (meaning a.prefer (view a.tree)) (meaning b.prefer (view b.tree)) found.items) _
          (λ found h. none_or_same a.prefer b.prefer (view a.tree) (view b.tree) found.items h) are;
    }
