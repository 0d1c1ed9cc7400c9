use Rattle.erd_compare.proofs.Common.{◌∙◌, subst, ap₂, view, Judged, rising_positions, AreCommonRanks, keys_in_role}
use Rattle.erd_compare.proofs.first.keyed_ways.rising_in.Goals as goal

pub returns : goal.returns
returns c =
    let same = c.role_of-role.ensures.role in
    record {
      left = c.left.ensures.comparable;
      right = c.right.ensures.comparable;
      ones = c.rising.ensures ∙ ap₂ (λ (j : Judged) r. rising_positions (keys_in_role j.prefer (view j.tree) r)) c.left.ensures.same same;
      others = c.rising-2.ensures ∙ ap₂ (λ (j : Judged) r. rising_positions (keys_in_role j.prefer (view j.tree) r)) c.right.ensures.same same;
      common = subst (λ r. AreCommonRanks c.args.comparer.now.left c.args.comparer.now.right r c.common_ranks.result.now) same c.common_ranks.ensures;
    }
