use Rattle.erd_compare.proofs.Common.{◌≡◌, ◌+◌, ℕ, Some, Option, option_map, is_some, sym, ap, ◌∙◌, subst, arith, IfSome, Data, Judged, Placed, family, objects}
use Rattle.erd_compare.proofs.Common.{slice_get, selections_before, view, on_side}
use Rattle.erd_compare.proofs.contest_selections.SelectionsByNumber.{at_first, at_last, count_there, next_position, one_before, one_first, one_nameless}
use Rattle.erd_compare.proofs.contest_selections.SelectionsByNumber.{AreNumberedUpTo}
use Rattle.erd_compare.proofs.same_selections.SelectionWalks.{sorted_at, sorted_update}
use Rattle.erd_compare.specs.code.NamedSelections.{contest_values, AreByNumber, IsNamedOn}
use Rattle.erd_compare.specs.declared.inside.named.NamedSelection.{NamedSelection}
use Rattle.erd_compare.proofs.inside.numbered.selections_by_number.Goals.{in-Some-selection_at+else-not-contains_key}
use Rattle.erd_compare.proofs.inside.numbered.selections_by_number.Goals.{in-Some-selection_at+then-not-contains_key+in_ok-insert, in_default-selection_at}
use Rattle.erd_compare.proofs.inside.numbered.selections_by_number.Goals as goal

pub loop-index-init : goal.loop-index-init
loop-index-init c = at_first c.args.comparer.now.left c.args.comparer.now.right c.args.side c.in-Some.position c.new-numbered.result.entries
    c.new-numbered.ensures.empty

-- the value of the contest is that of the report on the side
seen_on : (a j : Judged) (position : ℕ) (v : Data) → a ≡ j → Some v ≡ option_map (λ (o : Placed). o.value)
    (slice_get (objects family.Contest (view a.tree)) position) → Some v ≡ option_map (λ (o : Placed). o.value)
    (slice_get (objects family.Contest (view j.tree)) position)
seen_on a j position v same is =
    subst (λ (x : Judged). Some v ≡ option_map (λ (o : Placed). o.value) (slice_get (objects family.Contest (view x.tree)) position)) same is

counted_on : (a j : Judged) (position start : ℕ) → a ≡ j → start ≡ selections_before (view a.tree) position → start ≡ selections_before (view j.tree) position
counted_on a j position start same is = subst (λ (x : Judged). start ≡ selections_before (view x.tree) position) same is

pub overflow_add-start : goal.overflow_add-start
overflow_add-start c =
    let a = c.args.comparer.now.left in
    let b = c.args.comparer.now.right in
    let j = on_side c.args.side a b in
    let position = c.in-Some.position in
    let v = view c.in-Some-object.value.now in
    let start = c.first_selection-start.result in
    let low =
    next_position a b c.args.side position v (seen_on c.on-report.result.now j position v c.on-report.ensures.same c.in-Some-object.ensures)
    c.entries_at-index-end.result.now c.entries_at-index-end.ensures c.loop-index.index c.loop-index-test.true start
    (counted_on c.on-report.result.now j position start c.on-report.ensures.same c.first_selection-start.ensures)
    in
    let few = c.on-report.ensures.comparable.bounded.few family.Selection in
    omega (arith, low, few)

pub loop-index-preserved : goal.loop-index-preserved
loop-index-preserved c =
    let a = c.args.comparer.now.left in
    let b = c.args.comparer.now.right in
    let side = c.args.side in
    let j = on_side side a b in
    let position = c.in-Some.position in
    let v = view c.in-Some-object.value.now in
    let is = seen_on c.on-report.result.now j position v c.on-report.ensures.same c.in-Some-object.ensures in
    let vs = c.entries_at-index-end.result.now in
    let entries = c.entries_at-index-end.ensures in
    let i = c.loop-index.index in
    let low = c.loop-index-test.true in
    let start = c.first_selection-start.result in
    let counted = counted_on c.on-report.result.now j position start c.on-report.ensures.same c.first_selection-start.ensures in
    let m = c.loop-index.numbered.entries in
    let h = c.loop-index.invariant in
    let found = c.selection_at.result in
    let tells = c.selection_at.ensures.found in
    elim c.match-selection_at.branch [
      | in-Some-selection_at+then-not-contains_key+in_ok-insert w ↦ subst (λ x. AreNumberedUpTo a b side position (i + 1) x.entries) (sym w.numbered-is)
          (one_first a b side position v is vs entries i low start counted m h found tells w.in-Some-selection_at.number w.in-Some-selection_at.selection
          w.in-Some-selection_at.is w.insert.new.self.entries
          (sym (w.if-not-contains_key.ensures ∙ ap is_some (sorted_at m w.in-Some-selection_at.number)))
          (sorted_update m w.insert.new.self.entries w.in-Some-selection_at.number _ w.in_ok-insert.ensures.updates.0)
          (subst (λ (o : Option (ℕ × NamedSelection)). IfSome o (λ f. IsNamedOn a b side f.1)) w.in-Some-selection_at.is c.selection_at.ensures.named))
      | in-Some-selection_at+else-not-contains_key w ↦ subst (λ x. AreNumberedUpTo a b side position (i + 1) x.entries) (sym w.numbered-is)
          (one_before a b side position v is vs entries i low start counted m h found tells w.in-Some-selection_at.number w.in-Some-selection_at.selection
          w.in-Some-selection_at.is
          (sym (w.contains_key.ensures ∙ ap is_some (sorted_at m w.in-Some-selection_at.number)) ∙ w.if-not-contains_key.false))
      | in_default-selection_at w ↦ subst (λ x. AreNumberedUpTo a b side position (i + 1) x.entries) (sym w.numbered-is)
          (one_nameless a b side position v is vs entries i low start counted m h found tells w.in_default-selection_at.is)
    ]

pub returns : goal.returns
returns c =
    let a = c.args.comparer.now.left in
    let b = c.args.comparer.now.right in
    let side = c.args.side in
    let j = on_side side a b in
    let position = c.in-Some.position in
    let v = view c.in-Some-object.value.now in
    let is = seen_on c.on-report.result.now j position v c.on-report.ensures.same c.in-Some-object.ensures in
    let count = count_there a b side position v is c.entries_at-index-end.result.now c.entries_at-index-end.ensures in
    let end = c.loop-index-test.false in
    subst (λ o. AreByNumber a b side (contest_values j o) c.loop-index.numbered.entries) (sym c.in-Some.is)
    (at_last a b side position c.loop-index.index c.loop-index.numbered.entries (omega (arith, count, end)) c.loop-index.invariant)
