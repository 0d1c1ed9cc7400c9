use Rattle.erd_text.proofs.Common.{◌≡◌, ◌++◌, map, drop, view}
use Rattle.erd_shown.specs.ListedNames.{names_named}
use Rattle.erd_shown.specs.code.LentNames.{lent}
use Rattle.erd_shown.proofs.listed.names_named.Given as goal

abbrev pub invariant-loop-value : goal.invariant-loop-value
invariant-loop-value l =
    map lent l.names.items ++ names_named l.report.prefer (view l.report.tree) (map view (drop l.value-index l.values))
    ≡ names_named l.report.prefer (view l.report.tree) (map view l.values)
