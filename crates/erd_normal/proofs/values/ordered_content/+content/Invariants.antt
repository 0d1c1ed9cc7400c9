use Rattle.erd_normal.proofs.Common.{◌≡◌, false, ◌++◌, drop, view, items_view, members_view, items_have_float, members_have_float, normal_nodes}
use Rattle.erd_normal.proofs.Common.{normal_node_members, items_tokens, members_tokens}
use Rattle.erd_normal.proofs.values.ordered_content.+content.Given as goal

abbrev pub invariant-write_nodes-loop-item : goal.invariant-write_nodes-loop-item
invariant-write_nodes-loop-item l =
    items_have_float (items_view l.item-items) ≡ false → (items_have_float (items_view (drop l.item-index l.item-items)) ≡ false)
    × (l.out ++ items_tokens (normal_nodes l.writer.prefer (view l.writer.tree) (items_view (drop l.item-index l.item-items)))
    ≡ l.initial.out ++ items_tokens (normal_nodes l.writer.prefer (view l.writer.tree) (items_view l.item-items)))

abbrev pub invariant-write_node_members-loop-name : goal.invariant-write_node_members-loop-name
invariant-write_node_members-loop-name l =
    members_have_float (members_view l.members.entries) ≡ false → (members_have_float (members_view l.name-iterator) ≡ false)
    × (l.out ++ members_tokens (normal_node_members l.writer.prefer (view l.writer.tree) l.class (members_view l.name-iterator))
    ≡ l.initial.out ++ members_tokens (normal_node_members l.writer.prefer (view l.writer.tree) l.class (members_view l.members.entries)))
