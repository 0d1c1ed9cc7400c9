use Rattle.erd_meaning.proofs.Common.{◌≡◌, map, take}
use Rattle.erd_meaning.proofs.objects.order.positions_of.Given as goal

abbrev pub invariant-loop-key : goal.invariant-loop-key
invariant-loop-key l = l.positions.items ≡ map (λ p. p.1) (take l.key-index l.keys)
