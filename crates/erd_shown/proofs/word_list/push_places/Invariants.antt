use Rattle.erd_shown.proofs.Common.{◌≡◌, ◌++◌, drop, map}
use Rattle.erd_shown.proofs.word_list.push_places.Given as goal

abbrev pub invariant-loop-place : goal.invariant-loop-place
invariant-loop-place l =
    l.found.items ++ map (λ p. record { role = l.role; position = p.1 }) (drop l.place-index l.places)
    ≡ l.initial.found.items ++ map (λ p. record { role = l.role; position = p.1 }) l.places
