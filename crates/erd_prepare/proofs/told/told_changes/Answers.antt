use Rattle.std.proofs.Common.{◌≡◌, [], map, subst, sym, List}
use Rattle.serde_json.specs.View.{view}
use Rattle.serde_json.specs.declared.value.Value.{Value}
use Rattle.erd_prepare.proofs.Telling.{each_more, enough_are_told}
use Rattle.erd_prepare.specs.Tellings.{AreEach, IsChangeTold, no_entry}
use Rattle.erd_prepare.proofs.told.told_changes.Goals as goal

pub loop-change-init : goal.loop-change-init
loop-change-init c = (
  subst (λ (vs : List Value). AreEach (IsChangeTold (c.args.moves.now.items ≡ [])) [] (map view vs)) (sym c.new-told.ensures.empty) no_entry,
  c.new-told.ensures.measured,
)

pub returns-then-is_full : goal.returns-then-is_full
returns-then-is_full c =
    enough_are_told (IsChangeTold (c.args.moves.now.items ≡ [])) c.args.changes.now.items c.loop-change.change-index _
    (c.is_full.ensures c.loop-change.invariant.1 c.if-is_full.true) c.loop-change.invariant.0

pub loop-change-preserved : goal.loop-change-preserved
loop-change-preserved c = (
  each_more (IsChangeTold (c.args.moves.now.items ≡ [])) c.args.changes.now.items c.deref-change-items.result.now c.loop-change.change-index
      c.change-item.result _ _ _ c.deref-change-items.ensures.value
      c.loop-change-test.true c.change-item.is c.in_ok-add.ensures.added c.in_ok-change_value.ensures c.loop-change.invariant.0,
  c.in_ok-add.ensures.measured c.loop-change.invariant.1,
)
