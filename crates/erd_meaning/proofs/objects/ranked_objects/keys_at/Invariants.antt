use Rattle.erd_meaning.proofs.Common.{◌≡◌, map, take, seen_keys, key_at_among, shown}
use Rattle.erd_meaning.proofs.objects.ranked_objects.keys_at.Given as goal

abbrev pub invariant-loop-position : goal.invariant-loop-position
invariant-loop-position l = seen_keys l.keys.items ≡ map (λ i. (key_at_among (map shown l.objects.objects) l.family i, i)) (take l.position-index l.positions)
