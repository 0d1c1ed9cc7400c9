use Rattle.erd_check.proofs.Common.{◌≡◌, map, drop, list_any, view, is_same_json}
use Rattle.erd_check.proofs.equality.is_among.Given as goal

abbrev pub invariant-loop-other : goal.invariant-loop-other
invariant-loop-other l =
    list_any (is_same_json (view l.value)) (map view l.earlier) ≡ list_any (is_same_json (view l.value)) (map view (drop l.other-index l.earlier))
