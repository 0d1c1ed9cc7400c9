use Rattle.erd_text.proofs.Common.{◌≡◌, false, map, take, view, items_view, items_have_float}
use Rattle.erd_text.specs.code.Writing.{beside, beside_compact_text}
use Rattle.erd_text.proofs.rising_values.with_texts.Given as goal

abbrev pub invariant-loop-value : goal.invariant-loop-value
invariant-loop-value l =
    items_have_float (items_view l.values) ≡ false
    → map (λ p. beside p.0 (view p.1.now)) l.pairs.items ≡ map (λ v. beside_compact_text (view v)) (take l.value-index l.values)
