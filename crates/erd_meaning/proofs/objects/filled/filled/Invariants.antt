use Rattle.erd_meaning.proofs.Common.{◌≡◌, map, met_all, met_of}
use Rattle.erd_meaning.specs.code.CollectedWalks.{found}
use Rattle.erd_meaning.specs.code.ObjectWalk.{nothing_met}
use Rattle.erd_meaning.proofs.objects.filled.filled.Given as goal

abbrev pub invariant-loop-one : goal.invariant-loop-one
invariant-loop-one l =
    (met_of l.tables ≡ met_all nothing_met (map found l.yielded)) × (l.tables.objects.start ≡ l.initial.tables.objects.start)
    × (l.tables.elections.start ≡ l.initial.tables.elections.start)
