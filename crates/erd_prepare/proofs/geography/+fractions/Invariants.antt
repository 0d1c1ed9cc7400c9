use Rattle.std.proofs.Common.{◌≡◌, drop}
use Rattle.serde_json.specs.View.{items_view}
use Rattle.erd_prepare.specs.Local.{items_hold_fraction}
use Rattle.erd_prepare.proofs.geography.+fractions.Given as goal

abbrev pub invariant-items_hold_fraction-loop-item : goal.invariant-items_hold_fraction-loop-item
invariant-items_hold_fraction-loop-item l = items_hold_fraction (items_view l.items.items) ≡ items_hold_fraction (items_view (drop l.item-index l.items.items))
