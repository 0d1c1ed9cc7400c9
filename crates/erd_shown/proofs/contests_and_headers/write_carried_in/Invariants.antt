use Rattle.erd_text.proofs.Common.{◌≡◌, ◌++◌, false, members_tokens, members_have_float}
use Rattle.serde_json.specs.View.{members_view}
use Rattle.erd_shown.proofs.contests_and_headers.write_carried_in.Given as goal
use Rattle.erd_shown.specs.ContentData.{carried_in}

abbrev pub invariant-loop-name : goal.invariant-loop-name
invariant-loop-name l =
    members_have_float (members_view l.members.entries) ≡ false
    → (members_have_float (members_view l.name-iterator) ≡ false)
    × (l.out ++ members_tokens (carried_in l.class (members_view l.name-iterator))
    ≡ l.initial.out ++ members_tokens (carried_in l.class (members_view l.members.entries)))
