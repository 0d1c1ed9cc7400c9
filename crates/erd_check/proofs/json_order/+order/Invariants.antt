use Rattle.erd_check.proofs.Common.{◌≡◌, drop, items_view, members_view, items_cmp, members_cmp}
use Rattle.std.specs.Slice.Iter.{iter_rest}
use Rattle.erd_check.proofs.json_order.+order.Given as goal

abbrev pub invariant-order_of_items-loop-item : goal.invariant-order_of_items-loop-item
invariant-order_of_items-loop-item l =
    items_cmp (items_view l.left.items) (items_view l.right.items) ≡ items_cmp (items_view (drop l.item-index l.left.items)) (items_view (iter_rest l.others))

abbrev pub invariant-order_of_members-loop-name : goal.invariant-order_of_members-loop-name
invariant-order_of_members-loop-name l =
    members_cmp (members_view l.left.entries) (members_view l.right.entries) ≡ members_cmp (members_view l.name-iterator) (members_view l.others)
