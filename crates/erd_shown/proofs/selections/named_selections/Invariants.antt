use Rattle.erd_shown.proofs.Common.{◌≡◌, ◌++◌, drop, map, view}
use Rattle.erd_shown.specs.code.Selections.{AreNamedFrom, named_selection, of_pair}
use Rattle.erd_shown.proofs.selections.named_selections.Given as goal

-- with the selections that are left, those with names are all
abbrev pub invariant-loop-index : goal.invariant-loop-index
invariant-loop-index l =
    AreNamedFrom l.report.prefer (view l.report.tree) l.start (map view l.selections)
    → map of_pair l.pairs.items ++ map (named_selection l.report.prefer (view l.report.tree)) (map view (drop l.index l.selections))
    ≡ map (named_selection l.report.prefer (view l.report.tree)) (map view l.selections)
