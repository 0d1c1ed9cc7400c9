use Rattle.erd_meaning.proofs.Common.{◌≡◌, map, steps_of, name_among, AllAreRanked, shown, names_met}
use Rattle.erd_meaning.proofs.selections.MetSelections.{ElectionsLeft}
use Rattle.erd_meaning.proofs.names.selection_walk.meet_selections.Given as goal

abbrev pub invariant-loop-index : goal.invariant-loop-index
invariant-loop-index l =
    ElectionsLeft (name_among l.keys (map shown l.objects.objects)) (steps_of l.elections) l.election-items (names_met l.initial.walk)
    (names_met l.walk) l.index l.number × AllAreRanked (map shown l.objects.objects) l.walk.names.keys × (l.walk.names.start ≡ l.initial.walk.names.start)
