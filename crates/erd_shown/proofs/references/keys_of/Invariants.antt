use Rattle.erd_text.proofs.Common.{◌≡◌, ◌++◌, map, drop, view}
use Rattle.erd_meaning.specs.SelectionNames.{keys_named}
use Rattle.erd_shown.proofs.references.keys_of.Given as goal

abbrev pub invariant-loop-value : goal.invariant-loop-value
invariant-loop-value l =
    map (λ p. p.0) l.keys.items ++ keys_named l.report.prefer (view l.report.tree) l.family (map view (drop l.value-index l.values))
    ≡ keys_named l.report.prefer (view l.report.tree) l.family (map view l.values)
