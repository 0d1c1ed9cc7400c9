use Rattle.erd_shown.proofs.Common.{◌≡◌, ◌++◌, drop, map}
use Rattle.erd_shown.proofs.word_list.push_positions.Given as goal

abbrev pub invariant-loop-position : goal.invariant-loop-position
invariant-loop-position l =
    l.found.items ++ map (λ i. record { role = l.role; position = i }) (drop l.position-index l.positions)
    ≡ l.initial.found.items ++ map (λ i. record { role = l.role; position = i }) l.positions
