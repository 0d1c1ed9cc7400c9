use Rattle.erd_compare.proofs.Common.{◌≡◌, ℕ, List, map, Some, sym, subst, Ok, Err, Result, IfOk, view, Judged, meaning, Difference, AreDifferences}
use Rattle.erd_compare.specs.SelectionDifferences.{AreDetailedDifferences}
use Rattle.erd_compare.specs.code.ContestSelections.{AreTold}
use Rattle.erd_compare.proofs.contest_selections.ToldLists.{as_bounded}
use Rattle.erd_compare.specs.declared.detailed.DetailedDifference.{DetailedDifference}
use Rattle.erd_compare.proofs.detailed.detailed_differences.Goals as goal

-- all differences of the comparer's reports, with what is told of them, are those of the two
as_detailed : (x y a b : Judged) (first most : ℕ) (ds : List Difference) (es : List DetailedDifference) → x ≡ a → y ≡ b
    → AreDifferences (meaning x.prefer (view x.tree)) (meaning y.prefer (view y.tree)) ds
    → map (λ e. e.difference) es ≡ ds → AreTold (meaning x.prefer (view x.tree)) (meaning y.prefer (view y.tree)) first (Some most) es
    → AreDetailedDifferences (meaning a.prefer (view a.tree)) (meaning b.prefer (view b.tree)) first most es
as_detailed x y a b first most ds es left right are listed told =
    let bounded = as_bounded (meaning x.prefer (view x.tree)) (meaning y.prefer (view y.tree)) first most es told in
    let own : AreDetailedDifferences (meaning x.prefer (view x.tree)) (meaning y.prefer (view y.tree)) first most es = record {
      list = subst (AreDifferences (meaning x.prefer (view x.tree)) (meaning y.prefer (view y.tree))) (sym listed) are;
      before = bounded.0;
      run = bounded.1;
    } in
    subst (λ (j : Judged). AreDetailedDifferences (meaning j.prefer (view j.tree)) (meaning b.prefer (view b.tree)) first most es) left
    (subst (λ (j : Judged). AreDetailedDifferences (meaning x.prefer (view x.tree)) (meaning j.prefer (view j.tree)) first most es) right own)

-- what follows from two facts about an answer
both_facts : {T E : Type 0} (r : Result T E) (P Q R : T → Type 0) → ((x : T) → P x → Q x → R x) → IfOk r P → IfOk r Q → IfOk r R
both_facts (Ok x) P Q R follows p q = follows x p q
both_facts (Err e) P Q R follows p q = tt

pub returns : goal.returns
returns c =
    both_facts c.with_selections.result _ _ _
    (λ found listed told. as_detailed c.in_ok-comparer.comparer.left c.in_ok-comparer.comparer.right c.args.left.now c.args.right.now c.args.first
    c.args.most_bytes c.in_ok-found.found.items found.items
    c.in_ok-comparer.ensures.left c.in_ok-comparer.ensures.right c.in_ok-found.ensures listed told) c.with_selections.ensures.listed
    c.with_selections.ensures.told
