use Rattle.erd_compare.proofs.Common.{false, None, sym, ◌∙◌, true≢false}
use Rattle.erd_compare.proofs.same_selections.PlacedSelections.{contests_decide}
use Rattle.erd_compare.proofs.same_selections.SelectionWalks.{both_maps, both_passed, differ, ended, left_alone, sorted_apart, sorted_at, sorted_update}
use Rattle.erd_compare.proofs.same_selections.SelectionWalks.{whole_left, whole_right}
use Rattle.erd_compare.proofs.whole_trees.WholeTrees.{whole_trees-views}
use Rattle.erd_compare.proofs.objects.selections.is_same_selection_map.Goals as goal

pub loop-number-init : goal.loop-number-init
loop-number-init c = let gives = c.into_iter-number-iterator.ensures.into_iter_gives in
    both_maps gives.0 (sorted_apart c.in_ok-ones.ones.entries gives.5) c.in_ok-ones.ensures c.in_ok-others.ensures

pub returns-in_default : goal.returns-in_default
returns-in_default c =
    contests_decide c.args.comparer.now.left c.args.comparer.now.right c.args.ones c.args.others c.requires.ones_named c.requires.others_named false
    (left_alone (c.in-Some.number.now, c.in-Some.one.now) c.in-Some.ensures.steps c.loop-number.invariant
    (c.in_default.ensures.value ∙ sorted_at c.loop-number.others.entries c.in-Some.number.now))

pub is_same_selection-requires-clause-one : goal.is_same_selection-requires-clause-one
is_same_selection-requires-clause-one c =
    whole_left (c.in-Some.number.now, c.in-Some.one.now) c.in-Some.ensures.steps c.loop-number.invariant
    (whole_trees-views c.args.ones.values.now c.requires.ones)

pub is_same_selection-requires-clause-other : goal.is_same_selection-requires-clause-other
is_same_selection-requires-clause-other c =
    whole_right (c.in-Some.number.now, c.in-Some.one.now) c.in-Some.ensures.steps c.loop-number.invariant c.in-Some-remove.other
    (c.in-Some-remove.ensures.value ∙ sorted_at c.loop-number.others.entries c.in-Some.number.now)
    (whole_trees-views c.args.others.values.now c.requires.others)

pub returns-then-not-branch : goal.returns-then-not-branch
returns-then-not-branch c =
    contests_decide c.args.comparer.now.left c.args.comparer.now.right c.args.ones c.args.others c.requires.ones_named c.requires.others_named false
    (differ (c.in-Some.number.now, c.in-Some.one.now) c.in-Some.ensures.steps c.loop-number.invariant c.in-Some-remove.other
    (c.in-Some-remove.ensures.value ∙ sorted_at c.loop-number.others.entries c.in-Some.number.now)
    (λ same. absurd (true≢false (sym (c.in_ok-is_same_selection.ensures.1 same) ∙ c.if-not-branch.true))))

pub loop-number-preserved : goal.loop-number-preserved
loop-number-preserved c =
    both_passed (c.in-Some.number.now, c.in-Some.one.now) c.in-Some.ensures.steps c.loop-number.invariant c.in-Some-remove.other
    (c.in-Some-remove.ensures.value ∙ sorted_at c.loop-number.others.entries c.in-Some.number.now)
    (sorted_update c.loop-number.others.entries _ c.in-Some.number.now None c.in-Some-remove.ensures.updates.0)
    (c.in_ok-is_same_selection.ensures.0 c.if-not-branch.false)

pub returns : goal.returns
returns c =
    contests_decide c.args.comparer.now.left c.args.comparer.now.right c.args.ones c.args.others c.requires.ones_named c.requires.others_named c.is_empty.result
    (ended c.is_empty.result c.loop-number.others.entries c.in-None.ensures.steps.0 c.loop-number.invariant c.is_empty.ensures)
