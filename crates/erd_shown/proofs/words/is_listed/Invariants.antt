use Rattle.erd_shown.proofs.Common.{◌≡◌, map, drop, list_any, bytes_eq}
use Rattle.erd_shown.proofs.words.is_listed.Given as goal

abbrev pub invariant-loop-listed : goal.invariant-loop-listed
invariant-loop-listed l = list_any (bytes_eq l.name) (map (λ s. s.now) l.names) ≡ list_any (bytes_eq l.name) (map (λ s. s.now) (drop l.listed-index l.names))
