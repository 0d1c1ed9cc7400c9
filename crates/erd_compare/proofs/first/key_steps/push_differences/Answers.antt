-- The differences at all keys were appended.
use Rattle.erd_compare.proofs.Common.{ℕ, [], sym, ap₂, subst, true}
use Rattle.erd_compare.specs.code.DifferingKeys.{AreKeysFound, GoesOnToKey}
use Rattle.erd_compare.proofs.differing.KeySteps.{start}
use Rattle.erd_compare.proofs.differing.PartLists.{all_appended, none_appended, one_appended}
use Rattle.erd_compare.proofs.first.key_steps.push_differences.Goals as goal

pub loop-next-init : goal.loop-next-init
loop-next-init c =
    let a = c.args.comparer.now.left in
    let b = c.args.comparer.now.right in
    let p = c.args.part in
    none_appended p a b c.args.found.now.items c.start-at.result
    (subst (AreKeysFound a b p []) (sym (ap₂ (λ (i j : ℕ). record { one = i; other = j }) c.start-at.ensures.one c.start-at.ensures.other))
    (start true a b p c.rising_in-rising.result c.rising_in-rising.ensures))

pub loop-next-preserved : goal.loop-next-preserved
loop-next-preserved c =
    let a = c.args.comparer.now.left in
    let b = c.args.comparer.now.right in
    let p = c.args.part in
    one_appended p a b c.args.found.now.items c.loop-next.found.items c.push_ways.new.found.items c.loop-next.at c.next_difference.new.at
    c.in-Some.next c.loop-next.invariant
    (λ found given. subst (GoesOnToKey true a b p found c.next_difference.new.at) c.in-Some.is (c.in_ok-next.ensures.next found given))
    c.in_ok-push_ways.ensures

-- the same, where the ways have names to free
pub loop-next-preserved-in_ok-push_ways : goal.loop-next-preserved-in_ok-push_ways
loop-next-preserved-in_ok-push_ways c =
    let a = c.args.comparer.now.left in
    let b = c.args.comparer.now.right in
    let p = c.args.part in
    one_appended p a b c.args.found.now.items c.loop-next.found.items c.push_ways.new.found.items c.loop-next.at c.next_difference.new.at
    c.in-Some.next c.loop-next.invariant
    (λ found given. subst (GoesOnToKey true a b p found c.next_difference.new.at) c.in-Some.is (c.in_ok-next.ensures.next found given))
    c.in_ok-push_ways.ensures

pub returns : goal.returns
returns c =
    let a = c.args.comparer.now.left in
    let b = c.args.comparer.now.right in
    let p = c.args.part in
    all_appended p a b c.args.found.now.items c.loop-next.found.items c.loop-next.at c.next_difference.new.at c.loop-next.invariant
    (λ found given. subst (GoesOnToKey true a b p found c.next_difference.new.at) c.in_default.is (c.in_ok-next.ensures.next found given))
