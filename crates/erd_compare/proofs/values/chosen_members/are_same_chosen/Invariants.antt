use Rattle.erd_compare.proofs.Common.{◌≡◌, members_view, are_same_members, chosen_members}
use Rattle.erd_compare.proofs.values.chosen_members.are_same_chosen.Given as goal

abbrev pub invariant-loop-name : goal.invariant-loop-name
invariant-loop-name l =
    are_same_members (chosen_members l.one_choice (members_view l.ones.entries)) (chosen_members l.other_choice (members_view l.others.entries))
    ≡ are_same_members (chosen_members l.one_choice (members_view l.name-iterator)) (chosen_members l.other_choice (members_view l.rest))
