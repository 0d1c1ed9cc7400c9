use Rattle.erd_text.proofs.Common.{◌≡◌, true, false, ◌++◌, map, view, items_view, members_view, items_have_float, members_have_float, members_tokens}
use Rattle.erd_text.specs.code.Writing.{with_due_text}
use Rattle.erd_text.proofs.label.write_members.Given as goal

abbrev pub invariant-loop-name : goal.invariant-loop-name
invariant-loop-name l =
    members_have_float (members_view l.members.entries) ≡ false → items_have_float (items_view l.translations) ≡ false
    → (members_have_float (members_view l.name-iterator) ≡ false)
    × (l.out ++ members_tokens (with_due_text l.due (map view l.translations) (members_view l.name-iterator))
    ≡ l.initial.out ++ members_tokens (with_due_text true (map view l.translations) (members_view l.members.entries)))
