use Rattle.erd_text.proofs.Common.{◌≡◌, ◌++◌, drop, map, items_of, items_tokens}
use Rattle.erd_shown.specs.BallotLines.{told_style}
use Rattle.erd_shown.specs.code.Pairs.{of_told}
use Rattle.erd_shown.proofs.differing_styles.write_styles.Given as goal

abbrev pub invariant-loop-style : goal.invariant-loop-style
invariant-loop-style l =
    l.out ++ items_tokens (items_of (map told_style (map of_told (drop l.style-index l.told)))) ≡ l.initial.out ++ items_tokens
    (items_of (map told_style (map of_told l.told)))
