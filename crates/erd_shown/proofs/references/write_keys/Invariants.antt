use Rattle.erd_text.proofs.Common.{◌≡◌, ◌++◌, map, drop, items_of, items_tokens}
use Rattle.erd_shown.proofs.references.write_keys.Given as goal
use Rattle.erd_shown.specs.KeyData.{shown_key}

abbrev pub invariant-loop-pair : goal.invariant-loop-pair
invariant-loop-pair l =
    l.out ++ items_tokens (items_of (map (λ p. shown_key p.0) (drop l.pair-index l.keys)))
    ≡ l.initial.out ++ items_tokens (items_of (map (λ p. shown_key p.0) l.keys))
