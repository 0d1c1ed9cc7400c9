use Rattle.erd_meaning.proofs.Common.{◌≡◌, ◌++◌, map, drop, view, placed_from, located}
use Rattle.erd_meaning.specs.code.CollectedWalks.{collected_in}
use Rattle.erd_meaning.specs.code.Spots.{array_place}
use Rattle.erd_meaning.proofs.objects.collected.collect_entries.Given as goal

abbrev pub invariant-loop-index : goal.invariant-loop-index
invariant-loop-index l =
    collected_in l.found ++ located l.keys l.family (placed_from (array_place l.family l.spot) l.index (map view (drop l.index l.entry-items)))
    ≡ collected_in l.initial.found ++ located l.keys l.family (placed_from (array_place l.family l.spot) 0 (map view l.entry-items))
