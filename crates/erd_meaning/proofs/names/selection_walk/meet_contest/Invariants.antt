use Rattle.erd_meaning.proofs.Common.{◌≡◌, ℕ, map, drop, view, steps_of, Placed, placed_from, name_among, AllAreRanked, named_all, shown, names_met}
use Rattle.erd_meaning.proofs.names.selection_walk.meet_contest.Given as goal

abbrev pub invariant-loop-index : goal.invariant-loop-index
invariant-loop-index l =
    (named_all (name_among l.keys (map shown l.objects.objects)) (names_met l.walk)
    (map {B = ℕ × Placed} (λ o. (l.number, o)) (placed_from (steps_of l.array) l.index (map view (drop l.index l.selection-items))))
    ≡ named_all (name_among l.keys (map shown l.objects.objects)) (names_met l.initial.walk)
    (map {B = ℕ × Placed} (λ o. (l.number, o)) (placed_from (steps_of l.array) 0 (map view l.selection-items))))
    × AllAreRanked (map shown l.objects.objects) l.walk.names.keys × (l.walk.names.start ≡ l.initial.walk.names.start)
