use Rattle.erd_meaning.proofs.Common.{◌≡◌, ◌++◌, map, drop, view, family_chosen, keys_found, key_among, ranked_key, shown}
use Rattle.erd_meaning.proofs.names.naming.keys_in_turn.Given as goal

abbrev pub invariant-loop-reference : goal.invariant-loop-reference
invariant-loop-reference l =
    l.chosen.items ++ map (ranked_key (map shown l.objects.objects) (family_chosen l.class))
    (keys_found (key_among (map shown l.objects.objects) (family_chosen l.class)) (map view (drop l.reference-index l.references)))
    ≡ map (ranked_key (map shown l.objects.objects) (family_chosen l.class))
    (keys_found (key_among (map shown l.objects.objects) (family_chosen l.class)) (map view l.references))
