use Rattle.erd_text.proofs.Common.{◌≡◌, ◌++◌, map, drop}
use Rattle.std.specs.Map.{lookup}
use Rattle.std.specs.Ordering.{eq_by_cmp}
use Rattle.erd_shown.specs.code.PlacesFound.{occurrence_cmp}
use Rattle.erd_shown.proofs.partners.places_in.Given as goal

abbrev pub invariant-loop-occurrence : goal.invariant-loop-occurrence
invariant-loop-occurrence g l =
    l.found.items ++ map (λ p. lookup (eq_by_cmp (occurrence_cmp g.K.Ord.cmp) p) l.places.entries) (drop l.occurrence-index l.occurrences)
    ≡ map (λ p. lookup (eq_by_cmp (occurrence_cmp g.K.Ord.cmp) p) l.places.entries) l.occurrences
