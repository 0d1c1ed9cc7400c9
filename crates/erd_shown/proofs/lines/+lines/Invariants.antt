use Rattle.erd_text.proofs.Common.{◌≡◌, ◌+◌, ◌++◌, drop, map, view, items_view}
use Rattle.std.proofs.Common.{◌*◌}
use Rattle.serde_json.specs.Data.{depth, items_depth}
use Rattle.erd_shown.proofs.lines.+lines.Given as goal
use Rattle.erd_shown.specs.Lines.{nodes_lines}
use Rattle.erd_shown.specs.code.LineLists.{of_line}

abbrev pub invariant-push_nodes-loop-item : goal.invariant-push_nodes-loop-item
invariant-push_nodes-loop-item l =
    map of_line l.lines.items ++ nodes_lines l.depth (items_view (drop l.item-index l.items.items))
    ≡ map of_line l.initial.lines.items ++ nodes_lines l.depth (items_view l.items.items)

abbrev pub decreases-push_content : goal.decreases-push_content
decreases-push_content l = 3 * depth (view l.value.now)

abbrev pub decreases-push_nodes : goal.decreases-push_nodes
decreases-push_nodes l = 3 * items_depth (items_view l.items.now.items) + 2

abbrev pub decreases-push_node : goal.decreases-push_node
decreases-push_node l = 3 * depth (view l.value.now) + 1

abbrev pub decreases-push_inside : goal.decreases-push_inside
decreases-push_inside l = 3 * depth (view l.value.now)
