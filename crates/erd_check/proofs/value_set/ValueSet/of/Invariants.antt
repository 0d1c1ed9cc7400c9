use Rattle.erd_check.proofs.Common.{map, take, view, StandsFor}
use Rattle.erd_check.proofs.value_set.ValueSet.of.Given as goal

abbrev pub invariant-loop-value : goal.invariant-loop-value
invariant-loop-value l = StandsFor (map view (take l.value-index l.values)) l.set
