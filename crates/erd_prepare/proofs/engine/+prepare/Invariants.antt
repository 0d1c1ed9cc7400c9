use Rattle.std.proofs.Common.{◌≡◌, ◌++◌, drop, map}
use Rattle.serde_json.specs.View.{view, items_view, members_view}
use Rattle.erd_check.specs.Paths.{steps_of}
use Rattle.erd_check.specs.Values.{list_of_items}
use Rattle.erd_prepare.specs.Changes.{told_by}
use Rattle.erd_prepare.specs.Rules.{prepared_items, told_items, told_members}
use Rattle.erd_prepare.proofs.Rising.{Built}
use Rattle.erd_prepare.proofs.engine.+prepare.Given as goal

abbrev pub invariant-items_after-loop-index : goal.invariant-items_after-loop-index
invariant-items_after-loop-index g l =
    let r = g.M.Mender.rule l.mending.mender.now in
    let p = steps_of l.path in
    (map view l.kept.items ++ list_of_items (prepared_items r p l.want l.index (items_view (drop l.index l.item-items)))
    ≡ list_of_items (prepared_items r p l.want 0 (items_view l.item-items)))
    × (told_by l.changes.items ++ told_items r p l.want l.index (items_view (drop l.index l.item-items)) ≡ told_by l.initial.changes.items
    ++ told_items r p l.want 0 (items_view l.item-items))

abbrev pub invariant-members_after-loop-name : goal.invariant-members_after-loop-name
invariant-members_after-loop-name g l =
    let r = g.M.Mender.rule l.mending.mender.now in
    let p = steps_of l.path in
    Built r p l.scope (members_view l.kept.entries) (members_view l.name-iterator) (members_view l.members.entries)
    × (told_by l.changes.items ++ told_members r p l.scope (members_view l.name-iterator) ≡ told_by l.initial.changes.items ++ told_members r p l.scope
    (members_view l.members.entries))
