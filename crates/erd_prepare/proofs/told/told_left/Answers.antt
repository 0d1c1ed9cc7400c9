use Rattle.std.proofs.Common.{◌≡◌, [], map, subst, sym, List}
use Rattle.serde_json.specs.View.{view}
use Rattle.serde_json.specs.declared.value.Value.{Value}
use Rattle.erd_prepare.proofs.Telling.{each_more, enough_are_told}
use Rattle.erd_prepare.specs.Tellings.{AreEach, IsLeftTold, no_entry}
use Rattle.erd_prepare.proofs.told.told_left.Goals as goal

pub loop-it-init : goal.loop-it-init
loop-it-init c =
    (subst (λ (vs : List Value). AreEach IsLeftTold [] (map view vs)) (sym c.new-told.ensures.empty) no_entry, c.new-told.ensures.measured)

pub returns-then-is_full : goal.returns-then-is_full
returns-then-is_full c =
    enough_are_told IsLeftTold c.args.left.now.items c.loop-it.it-index _ (c.is_full.ensures c.loop-it.invariant.1 c.if-is_full.true) c.loop-it.invariant.0

pub loop-it-preserved : goal.loop-it-preserved
loop-it-preserved c = (
  each_more IsLeftTold c.args.left.now.items c.deref-it-items.result.now c.loop-it.it-index c.it-item.result _ _ _ c.deref-it-items.ensures.value
      c.loop-it-test.true c.it-item.is c.in_ok-add.ensures.added c.in_ok-left_value.ensures c.loop-it.invariant.0,
  c.in_ok-add.ensures.measured c.loop-it.invariant.1,
)
