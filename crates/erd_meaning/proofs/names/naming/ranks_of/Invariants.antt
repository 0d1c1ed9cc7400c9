use Rattle.erd_meaning.proofs.Common.{◌≡◌, map, take}
use Rattle.erd_meaning.proofs.names.naming.ranks_of.Given as goal

abbrev pub invariant-loop-one : goal.invariant-loop-one
invariant-loop-one l = l.ranks.items ≡ map (λ c. c.0) (take l.one-index l.chosen)
