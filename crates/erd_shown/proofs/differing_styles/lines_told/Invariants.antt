use Rattle.erd_shown.proofs.Common.{◌≡◌, ◌++◌, drop, flat_map, string_bytes}
use Rattle.erd_shown.specs.BallotLines.{style_text}
use Rattle.erd_shown.specs.code.Pairs.{of_told}
use Rattle.erd_shown.proofs.differing_styles.lines_told.Given as goal

-- with those that are left, all are appended
abbrev pub invariant-loop-style : goal.invariant-loop-style
invariant-loop-style l =
    string_bytes l.text ++ flat_map (λ p. style_text (of_told p)) (drop l.style-index l.told) ≡ flat_map (λ p. style_text (of_told p)) l.told
