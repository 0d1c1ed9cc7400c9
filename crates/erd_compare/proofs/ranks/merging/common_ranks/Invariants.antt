use Rattle.erd_compare.proofs.Common.{◌+◌, ◌-◌, length, view, rising_in_role}
use Rattle.erd_compare.proofs.same_ranks.KeyRanks.{IsMergedTo}
use Rattle.erd_compare.proofs.ranks.merging.common_ranks.Given as goal

abbrev pub invariant-loop-ones : goal.invariant-loop-ones
invariant-loop-ones l = IsMergedTo (rising_in_role l.left.prefer (view l.left.tree) l.role)
    (rising_in_role l.right.prefer (view l.right.tree) l.role) l.passed l.ranks.items

abbrev pub decreases-loop-ones : goal.decreases-loop-ones
decreases-loop-ones l = (length l.ones - l.passed) + (length l.others - length l.ranks.items)
