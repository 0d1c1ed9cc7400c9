use Rattle.erd_text.proofs.Common.{◌≡◌, ◌++◌, drop, map, view, items_of, items_tokens}
use Rattle.erd_shown.specs.Heads.{head_in}
use Rattle.erd_shown.specs.code.LineLists.{of_place}
use Rattle.erd_shown.proofs.heads.write_heads_at.Given as goal

abbrev pub invariant-loop-place : goal.invariant-loop-place
invariant-loop-place l =
    l.out ++ items_tokens (items_of (map (λ p. head_in l.report.prefer (view l.report.tree) (of_place p)) (drop l.place-index l.places)))
    ≡ l.initial.out ++ items_tokens (items_of (map (λ p. head_in l.report.prefer (view l.report.tree) (of_place p)) l.places))
