use Rattle.erd_text.proofs.Common.{◌≡◌, ◌++◌, map, drop}
use Rattle.erd_shown.specs.code.LentNames.{lent}
use Rattle.erd_shown.proofs.listed.first_names.Given as goal

abbrev pub invariant-loop-pair : goal.invariant-loop-pair
invariant-loop-pair g l = map lent l.names.items ++ map (λ p. p.0) (drop l.pair-index l.pairs) ≡ map (λ p. p.0) l.pairs
