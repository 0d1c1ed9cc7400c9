use Rattle.erd_text.proofs.Common.{◌≡◌, ◌++◌, map, drop}
use Rattle.erd_shown.proofs.ballot_differences.keys_in.Given as goal

abbrev pub invariant-loop-place : goal.invariant-loop-place
invariant-loop-place l = l.keys.items ++ map (λ p. p.0) (drop l.place-index l.places) ≡ map (λ p. p.0) l.places
