use Rattle.erd_compare.proofs.Common.{◌≡◌, Some, option_map, refl, ◌∙◌, subst, view, Judged, rank_in_keys, keys_in_role, key_in_role, on_side, AreCommonByRank}
use Rattle.erd_compare.specs.code.Compared.{Compared}
use Rattle.erd_compare.proofs.same_ranks.KeyRanks.{rank_found}
use Rattle.erd_compare.proofs.comparer.Comparer.rank_at.Goals as goal

pub returns : goal.returns
returns c =
    let a = c.args.self.now.left in
    let b = c.args.self.now.right in
    let r = c.args.role in
    let j = on_side c.args.side a b in
    let ranks = c.self.inside.ranks in
    c.common_rank.ensures
    ∙ rank_found a b ranks (subst (λ (x : Compared). AreCommonByRank x.left x.right ranks) c.self.view_is c.self.invariant.by_rank) c.args.side r
    c.requires.ranked c.args.position c.in_ok-rank.rank (key_in_role j.prefer r (view j.tree) c.args.position) refl
    (subst (λ (x : Judged). Some c.in_ok-rank.rank ≡ option_map (λ k. rank_in_keys (keys_in_role x.prefer (view x.tree) r) (Some k))
    (key_in_role x.prefer r (view x.tree) c.args.position)) c.on.ensures.same c.in_ok-rank.ensures)
