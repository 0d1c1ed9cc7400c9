use Rattle.erd_meaning.proofs.Common.{◌≡◌, [], ◌∷◌, ◌++◌, codes, map, drop, flat_map, view, Name, placed_from, contest_located}
use Rattle.erd_meaning.specs.code.CollectedWalks.{collected_in}
use Rattle.erd_meaning.specs.code.Spots.{election_place}
use Rattle.erd_meaning.proofs.objects.collected.collect_contests.Given as goal

abbrev pub invariant-loop-index : goal.invariant-loop-index
invariant-loop-index l =
    let p = election_place l.spot.election ++ Name (codes "Contest") ∷ [] in
    collected_in l.found ++ flat_map (contest_located l.keys) (placed_from p l.index (map view (drop l.index l.contest-items)))
    ≡ collected_in l.initial.found ++ flat_map (contest_located l.keys) (placed_from p 0 (map view l.contest-items))
