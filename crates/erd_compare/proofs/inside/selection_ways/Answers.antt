use Rattle.erd_compare.proofs.Common.{◌≡◌, [], Some, None, Option, Judged, Left, Right, sym, subst, ◌∙◌}
use Rattle.erd_compare.proofs.contest_selections.NumberedWays.{all_found, next_told, none_found, under_number, AreFound}
use Rattle.erd_compare.proofs.same_selections.SelectionWalks.{sorted_at}
use Rattle.erd_compare.specs.code.NamedSelections.{TellsWays}
use Rattle.erd_compare.specs.declared.inside.named.NamedSelection.{NamedSelection}
use Rattle.erd_compare.specs.declared.inside.named.NamedWays.{NamedWays}
use Rattle.erd_compare.proofs.inside.selection_ways.Goals as goal

pub loop-number-init : goal.loop-number-init
loop-number-init c =
    let a = c.args.comparer.now.left in
    let b = c.args.comparer.now.right in
    let one = c.args.contest in
    let other = c.args.other_contest in
    let gives = c.into_iter-number-iterator.ensures.into_iter_gives in
    subst (λ vs. AreFound a b one other vs c.into_iter-number-iterator.result) (sym c.new-found.ensures.items)
    (subst (AreFound a b one other []) (sym gives.0)
    (none_found a b one other c.in_ok-ones.ones.entries c.in_ok-others.others.entries c.in_ok-ones.ensures c.in_ok-others.ensures c.new-numbers.result.keys
    c.add_numbers.new.numbers.keys c.add_numbers-2.new.numbers.keys
    c.in_ok-add_numbers.ensures c.in_ok-add_numbers-2.ensures gives.4))

-- what is told of two selections, as it was found
told_as : (a b : Judged) (one other : Option NamedSelection) (found told : Option NamedWays) → found ≡ told → TellsWays a b one other found
    → TellsWays a b one other told
told_as a b one other found told is tells = subst (TellsWays a b one other) is tells

pub named_ways-requires-clause-one : goal.named_ways-requires-clause-one
named_ways-requires-clause-one c =
    let ls = c.in_ok-ones.ones.entries in
    let k = c.in-Some.number.now in
    under_number c.args.comparer.now.left c.args.comparer.now.right Left c.args.contest ls c.in_ok-ones.ensures k _ (c.get.ensures.value ∙ sorted_at ls k)

pub named_ways-requires-clause-other : goal.named_ways-requires-clause-other
named_ways-requires-clause-other c =
    let rs = c.in_ok-others.others.entries in
    let k = c.in-Some.number.now in
    under_number c.args.comparer.now.left c.args.comparer.now.right Right c.args.other_contest rs c.in_ok-others.ensures k _
    (c.get-in-loop-number.ensures.value ∙ sorted_at rs k)

pub loop-number-preserved-in-Continue-branch-7 : goal.loop-number-preserved-in-Continue-branch-7
loop-number-preserved-in-Continue-branch-7 c =
    let a = c.args.comparer.now.left in
    let b = c.args.comparer.now.right in
    let ls = c.in_ok-ones.ones.entries in
    let rs = c.in_ok-others.others.entries in
    let k = c.in-Some.number.now in
    subst (λ vs. AreFound a b c.args.contest c.args.other_contest vs c.next.new.self) (sym c.in_ok-push.ensures.items)
    (next_told a b c.args.contest c.args.other_contest ls rs c.in_ok-ones.ensures c.in_ok-others.ensures c.loop-number.found.items k c.in-Some.ensures.steps
    c.loop-number.invariant _ _ (c.get.ensures.value ∙ sorted_at ls k)
    (c.get-in-loop-number.ensures.value ∙ sorted_at rs k) (Some c.in-Some-2.named)
    (told_as a b _ _ c.in_ok-named.field-0 (Some c.in-Some-2.named) c.in-Some-2.is c.in_ok-named.ensures))

pub loop-number-preserved : goal.loop-number-preserved
loop-number-preserved c =
    let ls = c.in_ok-ones.ones.entries in
    let rs = c.in_ok-others.others.entries in
    let k = c.in-Some.number.now in
    next_told c.args.comparer.now.left c.args.comparer.now.right c.args.contest c.args.other_contest ls rs c.in_ok-ones.ensures c.in_ok-others.ensures
    c.loop-number.found.items k c.in-Some.ensures.steps c.loop-number.invariant _ _
    (c.get.ensures.value ∙ sorted_at ls k) (c.get-in-loop-number.ensures.value ∙ sorted_at rs k) None
    (told_as c.args.comparer.now.left c.args.comparer.now.right _ _ c.in_ok-named.field-0 None c.in_default.is c.in_ok-named.ensures)

pub returns : goal.returns
returns c = all_found c.args.comparer.now.left c.args.comparer.now.right c.args.contest c.args.other_contest c.loop-number.found.items _
    c.in-None.ensures.steps.0 c.loop-number.invariant
