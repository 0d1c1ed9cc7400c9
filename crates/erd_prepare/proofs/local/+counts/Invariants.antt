use Rattle.std.proofs.Common.{◌≡◌, drop}
use Rattle.serde_json.specs.View.{items_view, members_view}
use Rattle.erd_prepare.specs.Local.{items_count_nothing, members_count_nothing}
use Rattle.erd_prepare.proofs.local.+counts.Given as goal

abbrev pub invariant-items_count_nothing-loop-item : goal.invariant-items_count_nothing-loop-item
invariant-items_count_nothing-loop-item l = items_count_nothing (items_view l.items.items) ≡ items_count_nothing (items_view (drop l.item-index l.items.items))

abbrev pub invariant-members_count_nothing-loop-name : goal.invariant-members_count_nothing-loop-name
invariant-members_count_nothing-loop-name l = members_count_nothing (members_view l.members.entries) ≡ members_count_nothing (members_view l.name-iterator)
