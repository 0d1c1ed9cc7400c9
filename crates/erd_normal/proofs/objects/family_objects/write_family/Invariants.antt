use Rattle.erd_normal.proofs.Common.{◌≡◌, ◌++◌, map, drop, items_of, view, objects_in_election, items_tokens, written_object, written_objects}
use Rattle.erd_normal.proofs.objects.family_objects.write_family.Given as goal

abbrev pub invariant-loop-position : goal.invariant-loop-position
invariant-loop-position l =
    l.out ++ items_tokens
    (items_of (map (λ o. written_object l.writer.prefer (view l.writer.tree) l.family o.0 o.1.value)
    (drop l.position-index (objects_in_election l.writer.prefer (view l.writer.tree) l.family l.election))))
    ≡ l.initial.out ++ items_tokens (items_of (written_objects l.writer.prefer (view l.writer.tree) l.family l.election))
