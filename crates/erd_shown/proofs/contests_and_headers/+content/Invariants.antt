use Rattle.erd_text.proofs.Common.{◌≡◌, ◌+◌, ◌++◌, drop, false, items_have_float, items_tokens, view, items_view}
use Rattle.std.proofs.Common.{◌*◌}
use Rattle.serde_json.specs.Data.{depth, items_depth}
use Rattle.erd_shown.proofs.contests_and_headers.+content.Given as goal
use Rattle.erd_shown.specs.ContentData.{nodes_data}

abbrev pub invariant-write_nodes-loop-item : goal.invariant-write_nodes-loop-item
invariant-write_nodes-loop-item l =
    items_have_float (items_view l.items.items) ≡ false
    → (items_have_float (items_view (drop l.item-index l.items.items)) ≡ false)
    × (l.out ++ items_tokens (nodes_data l.report.prefer (view l.report.tree) (items_view (drop l.item-index l.items.items)))
    ≡ l.initial.out ++ items_tokens (nodes_data l.report.prefer (view l.report.tree) (items_view l.items.items)))

abbrev pub decreases-write_content : goal.decreases-write_content
decreases-write_content l = 4 * depth (view l.value.now)

abbrev pub decreases-write_nodes : goal.decreases-write_nodes
decreases-write_nodes l = 4 * items_depth (items_view l.items.now.items) + 3

abbrev pub decreases-write_node : goal.decreases-write_node
decreases-write_node l = 4 * depth (view l.value.now) + 2

abbrev pub decreases-write_header : goal.decreases-write_header
decreases-write_header l = 4 * depth (view l.value.now) + 1

abbrev pub decreases-write_inside : goal.decreases-write_inside
decreases-write_inside l = 4 * depth (view l.value.now)
