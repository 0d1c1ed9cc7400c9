use Rattle.erd_compare.proofs.Common.{◌≡◌, members_view, chosen_members}
use Rattle.erd_compare.proofs.values.chosen_members.next_chosen.Given as goal

abbrev pub invariant-loop-name : goal.invariant-loop-name
invariant-loop-name l =
    chosen_members l.choice (members_view l.initial.members) ≡ chosen_members l.choice (members_view l.members)
