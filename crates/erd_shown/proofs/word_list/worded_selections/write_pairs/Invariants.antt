use Rattle.erd_shown.proofs.Common.{◌≡◌, ◌++◌, false, drop, map, items_of, items_have_float, view, items_tokens}
use Rattle.erd_shown.specs.code.Worded.{words_of_pair}
use Rattle.erd_shown.proofs.word_list.worded_selections.write_pairs.Given as goal

abbrev pub invariant-loop-pair : goal.invariant-loop-pair
invariant-loop-pair l =
    items_have_float (items_of (map (λ p. view p.1.now) l.pairs)) ≡ false
    → (items_have_float (items_of (map (λ p. view p.1.now) (drop l.pair-index l.pairs))) ≡ false)
    × (l.out ++ items_tokens (items_of (map (words_of_pair l.report.prefer (view l.report.tree)) (drop l.pair-index l.pairs)))
    ≡ l.initial.out ++ items_tokens (items_of (map (words_of_pair l.report.prefer (view l.report.tree)) l.pairs)))
