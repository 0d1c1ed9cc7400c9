use Rattle.erd_compare.proofs.Common.{◌≡◌, ◌++◌, List, [], ◌∷◌, map, option_map, sym, refl, ap, ◌∙◌, map-append, view, meaning, Difference}
use Rattle.std.proofs.lemmas.List.{append_assoc}
use Rattle.std.specs.Vec.Iter.{into_iter_items}
use Rattle.erd_compare.specs.declared.detailed.DetailedDifference.{DetailedDifference}
use Rattle.erd_compare.proofs.contest_selections.ToldLists.{all_told, one_told}
use Rattle.erd_compare.proofs.detailed.with_selections.Goals as goal

-- one more is on the list
one_listed : (found after : List DetailedDifference) (e : DetailedDifference) (all rest whole : List Difference) → after ≡ found ++ e ∷ []
    → all ≡ e.difference ∷ rest
    → map (λ e. e.difference) found ++ all ≡ whole → map (λ e. e.difference) after ++ rest ≡ whole
one_listed found after e all rest whole grown next known =
    ap (λ es. map (λ (x : DetailedDifference). x.difference) es ++ rest) grown
    ∙ (ap (λ ds. ds ++ rest) (map-append (λ (x : DetailedDifference). x.difference) found (e ∷ []))
    ∙ (append_assoc (map (λ (x : DetailedDifference). x.difference) found) (e.difference ∷ []) rest
    ∙ (ap (λ ds. map (λ (x : DetailedDifference). x.difference) found ++ ds) (sym next) ∙ known)))

pub loop-difference-preserved : goal.loop-difference-preserved
loop-difference-preserved c =
    let a = c.args.comparer.now.left in
    let b = c.args.comparer.now.right in
    let e : DetailedDifference = record { difference = c.in-Some.difference; selections = c.in_ok-selections.selections } in (
      one_listed c.loop-difference.found.items c.push.new.self.items e (into_iter_items c.loop-difference.difference-iterator) (into_iter_items c.next.new.self)
          c.args.differences.items c.in_ok-push.ensures.items
          c.in-Some.ensures.steps.0 c.loop-difference.invariant.0,
      one_told (meaning a.prefer (view a.tree)) (meaning b.prefer (view b.tree)) c.args.first c.args.most_bytes c.loop-difference.found.items
          c.push.new.self.items c.in-Some.difference e
          (option_map (λ v. v.items) c.in_ok-selections.selections) c.loop-difference.room c.selections_of.new.room c.loop-difference.invariant.1
          c.in_ok-selections.ensures refl refl c.in_ok-push.ensures.items,
    )

pub returns-clause-told : goal.returns-clause-told
returns-clause-told c =
    let a = c.args.comparer.now.left in
    let b = c.args.comparer.now.right in
    all_told (meaning a.prefer (view a.tree)) (meaning b.prefer (view b.tree)) c.args.first c.args.most_bytes c.loop-difference.found.items
    c.loop-difference.room c.loop-difference.invariant.1
