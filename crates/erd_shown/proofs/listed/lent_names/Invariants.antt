use Rattle.erd_text.proofs.Common.{◌≡◌, ◌++◌, map, drop}
use Rattle.erd_shown.specs.code.LentNames.{lent}
use Rattle.erd_shown.proofs.listed.lent_names.Given as goal

abbrev pub invariant-loop-name : goal.invariant-loop-name
invariant-loop-name l = map (λ p. p.0) l.pairs.items ++ map lent (drop l.name-index l.names) ≡ map lent l.names
