use Rattle.erd_shown.proofs.Common.{◌≡◌, drop, list_any, map, view}
use Rattle.erd_shown.specs.Reworded.{is_selection_reworded}
use Rattle.erd_shown.proofs.reworded_lines.any_reworded.Given as goal

abbrev pub invariant-loop-selection : goal.invariant-loop-selection
invariant-loop-selection l =
    list_any (is_selection_reworded l.left.prefer (view l.left.tree) l.right.prefer (view l.right.tree)) (map view l.selections)
    ≡ list_any (is_selection_reworded l.left.prefer (view l.left.tree) l.right.prefer (view l.right.tree)) (map view (drop l.selection-index l.selections))
