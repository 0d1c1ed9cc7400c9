use Rattle.erd_compare.proofs.Common.{◌≡◌, ℕ, ◌+◌, ◌<◌, List, ◌∷◌, map, is_some, length, get_or, drop, slice_get, Some, option_map, option_and_then, sym, refl}
use Rattle.erd_compare.proofs.Common.{ap, ◌∙◌, subst, arith, drop_more, drop_all, slice_get-map, slice_get_within, slice_get_read, view, Value, family, Judged}
use Rattle.erd_compare.proofs.Common.{selections_before, Placed, objects, number_of_selection, AreSelectionsIn, on_side}
use Rattle.erd_meaning.proofs.selections.ContestSelections.{stand_from_start}
use Rattle.erd_compare.proofs.same_selections.PlacedSelections.{stands_after}
use Rattle.erd_compare.proofs.same_selections.SelectionWalks.{IsFilling, all_put, named_before, named_first, none_put, seen_value, sorted_at, sorted_update}
use Rattle.erd_compare.proofs.same_selections.SelectionWalks.{unnamed}
use Rattle.erd_compare.proofs.objects.selections.by_number.Goals.{in-Some+then-not-contains_key+in_ok-insert, in-Some+else-not-contains_key, in_default}
use Rattle.erd_compare.proofs.objects.selections.by_number.Goals as goal

-- the selection that stands so far after the first one of its contest
stands_here : (j : Judged) (contest start i : ℕ) (all : List Value) (v : Value) → AreSelectionsIn j contest (map view all)
    → start ≡ selections_before (view j.tree) contest → i < length all → v ≡ get_or all i v
    → (o : Placed) × (slice_get (objects family.Selection (view j.tree)) (start + i) ≡ Some o) × (o.value ≡ view v)
stands_here j contest start i all v are counted low is =
    stands_after j contest (map view all) are i (view v) (slice_get-map view all i ∙ ap (option_map view) (slice_get_read all (length all) i v refl low is))
    start (stand_from_start (view j.tree) contest start counted)

pub loop-index-preserved : goal.loop-index-preserved
loop-index-preserved c =
    let a = c.args.comparer.now.left in
    let b = c.args.comparer.now.right in
    let side = c.args.side in
    let j = on_side side a b in
    let all = c.args.selections.values.now in
    let contest = c.args.selections.contest in
    let left = drop (c.loop-index.index + 1) all in
    let m = c.loop-index.numbered.entries in
    let v = c.index-values-index.result in
    let ds = map view all in
    let h : IsFilling seen_value a b side ds (map view (v ∷ left)) m =
    subst (λ vs. IsFilling seen_value a b side ds (map view vs) m)
    (drop_more all c.loop-index.index v c.loop-index-test.true ∙ ap (λ w. w ∷ left) (sym c.index-values-index.is)) c.loop-index.invariant in
    let counted = subst (λ (x : Judged). c.first_selection-start.result ≡ selections_before (view x.tree) contest) c.on.ensures.same
    c.first_selection-start.ensures in
    let o = stands_here j contest c.first_selection-start.result c.loop-index.index all v c.requires counted c.loop-index-test.true c.index-values-index.is in
    let numbered : c.name_number_at.result ≡ number_of_selection a b side (view v) =
    c.name_number_at.ensures ∙ (ap (option_and_then (λ (x : Placed). number_of_selection a b side x.value)) o.1 ∙ ap (number_of_selection a b side) o.2) in
    elim c.match-name_number_at.branch [
      | in-Some+then-not-contains_key+in_ok-insert w ↦ subst (λ x. IsFilling seen_value a b side ds (map view left) x.entries) (sym w.numbered-is)
          (named_first seen_value a b side ds (map view left) (view v) _ w.in-Some.number m w.insert.new.self.entries (sym w.in-Some.is ∙ numbered)
          (sym (w.if-not-contains_key.ensures ∙ ap is_some (sorted_at m w.in-Some.number)))
          (sorted_update m w.insert.new.self.entries w.in-Some.number _ w.in_ok-insert.ensures.updates.0) refl h)
      | in-Some+else-not-contains_key w ↦ subst (λ x. IsFilling seen_value a b side ds (map view left) x.entries) (sym w.numbered-is)
          (named_before seen_value a b side ds (map view left) (view v) w.in-Some.number m (sym w.in-Some.is ∙ numbered)
          (sym (w.contains_key.ensures ∙ ap is_some (sorted_at m w.in-Some.number)) ∙ w.if-not-contains_key.false) h)
      | in_default w ↦ subst (λ x. IsFilling seen_value a b side ds (map view left) x.entries) (sym w.numbered-is)
          (unnamed seen_value a b side ds (map view left) (view v) m (sym w.in_default.is ∙ numbered) h)
    ]

pub loop-index-init : goal.loop-index-init
loop-index-init c =
    none_put seen_value c.args.comparer.now.left c.args.comparer.now.right c.args.side (map view c.args.selections.values.now)
    (map view (drop 0 c.args.selections.values.now)) c.new-numbered.result.entries refl c.new-numbered.ensures.empty

pub returns : goal.returns
returns c =
    all_put seen_value c.args.comparer.now.left c.args.comparer.now.right c.args.side (map view c.args.selections.values.now)
    (map view (drop c.loop-index.index c.args.selections.values.now)) c.loop-index.numbered.entries
    (ap (map view) (drop_all c.loop-index.index c.args.selections.values.now c.loop-index-test.false)) c.loop-index.invariant

-- its position is one of the report's
pub overflow_add-start : goal.overflow_add-start
overflow_add-start c =
    let j = on_side c.args.side c.args.comparer.now.left c.args.comparer.now.right in
    let counted = subst (λ (x : Judged). c.first_selection-start.result ≡ selections_before (view x.tree) c.args.selections.contest) c.on.ensures.same
    c.first_selection-start.ensures in
    let o = stands_here j c.args.selections.contest c.first_selection-start.result c.loop-index.index c.args.selections.values.now c.index-values-index.result
    c.requires counted c.loop-index-test.true c.index-values-index.is in
    let low = slice_get_within (objects family.Selection (view j.tree)) (c.first_selection-start.result + c.loop-index.index) o.0 o.1 in
    let few = c.on.ensures.comparable.bounded.few family.Selection in
    omega (arith, low, few)
