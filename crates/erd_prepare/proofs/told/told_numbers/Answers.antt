use Rattle.std.proofs.Common.{◌≡◌, [], map, subst, sym, List}
use Rattle.serde_json.specs.View.{view}
use Rattle.serde_json.specs.declared.value.Value.{Value}
use Rattle.erd_prepare.proofs.Telling.{each_more, enough_are_told}
use Rattle.erd_prepare.specs.Tellings.{AreEach, IsNumberShown, no_entry}
use Rattle.erd_prepare.proofs.told.told_numbers.Goals as goal

pub loop-number-init : goal.loop-number-init
loop-number-init c =
    (subst (λ (vs : List Value). AreEach IsNumberShown [] (map view vs)) (sym c.new-told.ensures.empty) no_entry, c.new-told.ensures.measured)

pub returns-then-is_full : goal.returns-then-is_full
returns-then-is_full c =
    enough_are_told IsNumberShown c.args.numbers.now.items c.loop-number.number-index _ (c.is_full.ensures c.loop-number.invariant.1 c.if-is_full.true)
    c.loop-number.invariant.0

pub loop-number-preserved : goal.loop-number-preserved
loop-number-preserved c = (
  each_more IsNumberShown c.args.numbers.now.items c.deref-number-items.result.now c.loop-number.number-index c.number-item.result _ _ _
      c.deref-number-items.ensures.value
      c.loop-number-test.true c.number-item.is c.in_ok-add.ensures.added c.in_ok-number_value.ensures c.loop-number.invariant.0,
  c.in_ok-add.ensures.measured c.loop-number.invariant.1,
)
