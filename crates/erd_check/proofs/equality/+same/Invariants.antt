use Rattle.erd_check.proofs.Common.{◌≡◌, drop, items_view, members_view, are_same_items, are_same_members}
use Rattle.std.specs.Slice.Iter.{iter_rest}
use Rattle.erd_check.proofs.equality.+same.Given as goal

abbrev pub invariant-same_items-loop-item : goal.invariant-same_items-loop-item
invariant-same_items-loop-item l =
    are_same_items (items_view l.left.items) (items_view l.right.items)
    ≡ are_same_items (items_view (drop l.item-index l.left.items)) (items_view (iter_rest l.others))

abbrev pub invariant-same_members-loop-name : goal.invariant-same_members-loop-name
invariant-same_members-loop-name l =
    are_same_members (members_view l.left.entries) (members_view l.right.entries) ≡ are_same_members (members_view l.name-iterator) (members_view l.others)
