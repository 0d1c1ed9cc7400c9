use Rattle.erd_meaning.proofs.Common.{◌≡◌, [], ◌∷◌, ◌++◌, codes, map, drop, flat_map, view, Name, placed_from, election_located}
use Rattle.erd_meaning.specs.code.CollectedWalks.{collected_in}
use Rattle.erd_meaning.proofs.objects.collected.collect_each_election.Given as goal

abbrev pub invariant-loop-index : goal.invariant-loop-index
invariant-loop-index l =
    collected_in l.found ++ flat_map (election_located l.keys l.needed)
    (placed_from (Name (codes "Election") ∷ []) l.index (map view (drop l.index l.election-items)))
    ≡ collected_in l.initial.found ++ flat_map (election_located l.keys l.needed) (placed_from (Name (codes "Election") ∷ []) 0 (map view l.election-items))
