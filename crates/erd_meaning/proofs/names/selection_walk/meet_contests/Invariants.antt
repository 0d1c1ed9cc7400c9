use Rattle.erd_meaning.proofs.Common.{◌≡◌, map, drop, steps_of, name_among, AllAreRanked, named_all, shown, names_met}
use Rattle.erd_meaning.proofs.selections.MetSelections.{of_contests_from}
use Rattle.erd_meaning.proofs.names.selection_walk.meet_contests.Given as goal

abbrev pub invariant-loop-index : goal.invariant-loop-index
invariant-loop-index l =
    (named_all (name_among l.keys (map shown l.objects.objects)) (names_met l.walk)
    (of_contests_from l.first (steps_of l.contests) l.index (drop l.index l.entries))
    ≡ named_all (name_among l.keys (map shown l.objects.objects)) (names_met l.initial.walk) (of_contests_from l.first (steps_of l.contests) 0 l.entries))
    × AllAreRanked (map shown l.objects.objects) l.walk.names.keys × (l.walk.names.start ≡ l.initial.walk.names.start)
