use Rattle.erd_shown.proofs.Common.{◌≡◌, ◌++◌, drop, map, AllByRecursion}
use Rattle.erd_shown.specs.BallotDifferences.{of_style}
use Rattle.erd_shown.specs.code.Pairs.{IsToldIn, of_told}
use Rattle.erd_shown.proofs.differing_styles.told_of_all.Given as goal

-- the styles that are told, with those that are left, are all
abbrev pub invariant-loop-style : goal.invariant-loop-style
invariant-loop-style l =
    (map (λ s. s.0) (map of_told l.told.items) ++ drop l.style-index (map of_style l.found) ≡ map of_style l.found)
    × AllByRecursion (IsToldIn l.pair) (map of_told l.told.items)
