use Rattle.erd_text.proofs.Common.{◌≡◌, false, ◌++◌, map, drop, items_of, view, items_have_float, items_tokens}
use Rattle.erd_text.proofs.rising_values.write_each.Given as goal

abbrev pub invariant-loop-pair : goal.invariant-loop-pair
invariant-loop-pair l =
    items_have_float (items_of (map (λ p. view p.1.now) l.pairs)) ≡ false
    → (items_have_float (items_of (map (λ p. view p.1.now) (drop l.pair-index l.pairs))) ≡ false)
    × (l.out ++ items_tokens (items_of (map (λ p. view p.1.now) (drop l.pair-index l.pairs))) ≡ l.initial.out
    ++ items_tokens (items_of (map (λ p. view p.1.now) l.pairs)))
