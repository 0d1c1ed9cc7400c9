use Rattle.erd_meaning.proofs.Common.{◌≡◌, map, take}
use Rattle.erd_meaning.proofs.names.naming.keys_of.Given as goal

abbrev pub invariant-loop-one : goal.invariant-loop-one
invariant-loop-one l = l.keys.items ≡ map (λ c. c.1) (take l.one-index l.chosen)
