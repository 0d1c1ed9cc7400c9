use Rattle.erd_normal.proofs.Common.{◌≡◌, map, take, view, text_of, rank_named}
use Rattle.erd_normal.proofs.values.reference_set.ranks_named.Given as goal

abbrev pub invariant-loop-value : goal.invariant-loop-value
invariant-loop-value l = l.ranks.items ≡ map (λ v. rank_named l.writer.prefer (view l.writer.tree) l.family (text_of (view v))) (take l.value-index l.values)
