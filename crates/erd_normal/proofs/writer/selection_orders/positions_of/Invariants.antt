use Rattle.erd_normal.proofs.Common.{◌≡◌, map, take}
use Rattle.erd_normal.proofs.writer.selection_orders.positions_of.Given as goal

abbrev pub invariant-loop-name : goal.invariant-loop-name
invariant-loop-name l = l.positions.items ≡ map (λ p. p.1) (take l.name-index l.names)
