use Rattle.erd_meaning.proofs.Common.{◌≡◌, map, take, positioned, seen_keys, family_keys, shown}
use Rattle.erd_meaning.proofs.objects.ranked_objects.keys_of_family.Given as goal

abbrev pub invariant-loop-index : goal.invariant-loop-index
invariant-loop-index l = seen_keys l.keys.items ≡ positioned 0 (take l.index (family_keys (map shown l.objects.objects) l.family))
