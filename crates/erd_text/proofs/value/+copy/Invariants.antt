use Rattle.erd_text.proofs.Common.{◌≡◌, false, ◌++◌, drop, items_view, members_view, items_have_float, members_have_float, items_tokens, members_tokens}
use Rattle.erd_text.proofs.value.+copy.Given as goal

abbrev pub invariant-write_items-loop-item : goal.invariant-write_items-loop-item
invariant-write_items-loop-item l =
    items_have_float (items_view l.item-items) ≡ false → (items_have_float (items_view (drop l.item-index l.item-items)) ≡ false)
    × (l.out ++ items_tokens (items_view (drop l.item-index l.item-items)) ≡ l.initial.out ++ items_tokens (items_view l.item-items))

abbrev pub invariant-write_members-loop-name : goal.invariant-write_members-loop-name
invariant-write_members-loop-name l =
    members_have_float (members_view l.members.entries) ≡ false → (members_have_float (members_view l.name-iterator) ≡ false)
    × (l.out ++ members_tokens (members_view l.name-iterator) ≡ l.initial.out ++ members_tokens (members_view l.members.entries))
