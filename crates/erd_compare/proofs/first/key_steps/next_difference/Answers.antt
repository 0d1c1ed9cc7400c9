use Rattle.erd_compare.proofs.Common.{◌+◌, slice_get, sym, refl, ap₂, ◌∙◌, subst, arith, true≢false, view, Judged, option_map, key_in_role}
use Rattle.erd_compare.specs.code.DifferingKeys.{TellsStep}
use Rattle.erd_compare.proofs.differing.KeySteps.{passed_other, passed_same, step_told}
use Rattle.erd_compare.proofs.first.key_steps.next_difference.Goals as goal

pub loop-position-init : goal.loop-position-init
loop-position-init c = record { count = omega arith; left = λ found given. given }

pub overflow_add-at : goal.overflow_add-at
overflow_add-at c = let low = c.in-Some.ensures.fits.0 in omega (arith, low)

pub overflow_add-at-in-Some : goal.overflow_add-at-in-Some
overflow_add-at-in-Some c = let low = c.in-Some.ensures.fits.1 in omega (arith, low)

pub returns-then-not-are_none-clause-next : goal.returns-then-not-are_none-clause-next
returns-then-not-are_none-clause-next c found given =
    let a = c.args.comparer.now.left in
    let b = c.args.comparer.now.right in
    let p = c.args.part in
    let x = c.in-Some.position in
    let y = c.in-Some.other_position in
    passed_other c.args.all a b p c.args.rising c.requires.rising c.loop-position.at.one c.loop-position.at.other found
    (c.loop-position.invariant.left found given) x y (sym c.in-Some.ensures.shared) c.in_ok-ways.ways
    c.in_ok-ways.ensures (λ none. true≢false (sym (c.are_none.ensures.1 none) ∙ c.if-not-are_none.true)) c.key_at-key.result
    (c.key_at-key.ensures ∙ ap₂ (λ (z : Judged) r. key_in_role z.prefer r (view z.tree) x) c.left.ensures.same c.role_of-role.ensures.role)
    (record { one = c.loop-position.at.one + 1; other = c.loop-position.at.other + 1 }) refl refl

pub loop-position-smaller : goal.loop-position-smaller
loop-position-smaller c = let low = c.in-Some.ensures.fits.2 in omega (arith, low)

pub loop-position-preserved-else-not-are_none : goal.loop-position-preserved-else-not-are_none
loop-position-preserved-else-not-are_none c =
    let low = c.in-Some.ensures.fits.2 in
    let known = c.loop-position.invariant.count in
    let a = c.args.comparer.now.left in
    let b = c.args.comparer.now.right in
    let p = c.args.part in
    let x = c.in-Some.position in
    let y = c.in-Some.other_position in
    record {
      count = omega (arith, low, known);
      left = λ found given.
          passed_same c.args.all a b p c.args.rising c.requires.rising c.loop-position.at.one c.loop-position.at.other found
          (c.loop-position.invariant.left found given) x y (sym c.in-Some.ensures.shared) c.in_ok-ways.ways
          c.in_ok-ways.ensures (c.are_none.ensures.0 c.if-not-are_none.false);
    }

pub returns-clause-next : goal.returns-clause-next
returns-clause-next c found given =
    let a = c.args.comparer.now.left in
    let b = c.args.comparer.now.right in
    let i = c.loop-position.at.one in
    let j = c.loop-position.at.other in
    step_told c.args.all a b c.args.part c.args.rising c.requires.rising i j found (c.loop-position.invariant.left found given) c.one_sided.new.at
    c.one_sided.result (sym c.in_default.ensures.shared)
    (subst (λ r. TellsStep (option_map (key_in_role a.prefer r (view a.tree)) (slice_get c.args.rising.ones.now i))
    (option_map (key_in_role b.prefer r (view b.tree)) (slice_get c.args.rising.others.now j)) c.loop-position.at c.one_sided.new.at c.one_sided.result)
    c.role_of-role.ensures.role c.one_sided.ensures.step)
