use Rattle.erd_normal.proofs.Common.{◌≡◌, ◌++◌, map, drop, items_of, view, normal_selection_reference, items_tokens}
use Rattle.erd_normal.proofs.values.reference_set.write_selection_references.Given as goal

abbrev pub invariant-loop-value : goal.invariant-loop-value
invariant-loop-value l =
    l.out ++ items_tokens (items_of (map (λ v. normal_selection_reference l.writer.prefer (view l.writer.tree) (view v)) (drop l.value-index l.values)))
    ≡ l.initial.out ++ items_tokens (items_of (map (λ v. normal_selection_reference l.writer.prefer (view l.writer.tree) (view v)) l.values))
