use Rattle.erd_shown.proofs.Common.{◌≡◌, drop, map, family, view}
use Rattle.erd_shown.specs.Reworded.{true_of_any_named, is_selection_reworded}
use Rattle.erd_shown.proofs.reworded_lines.any_listed_reworded.Given as goal

abbrev pub invariant-loop-reference : goal.invariant-loop-reference
invariant-loop-reference l =
    true_of_any_named (is_selection_reworded l.left.prefer (view l.left.tree) l.right.prefer (view l.right.tree)) (view l.left.tree) family.Selection
    (map view l.references)
    ≡ true_of_any_named (is_selection_reworded l.left.prefer (view l.left.tree) l.right.prefer (view l.right.tree)) (view l.left.tree) family.Selection
    (map view (drop l.reference-index l.references))
