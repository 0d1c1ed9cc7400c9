use Rattle.erd_normal.proofs.Common.{◌≡◌, sym, ◌∙◌, subst, view, Judged, key_in, rank_of}
use Rattle.erd_normal.proofs.ranks.RankedReferences.{none_lent}
use Rattle.erd_normal.proofs.writer.Writer.rank_at.Goals as goal

pub returns-in-None : goal.returns-in-None
returns-in-None c =
    let r = c.self.inside.report.now in
    subst (λ (r : Judged). 0 ≡ rank_of r.prefer (view r.tree) c.args.family (key_in r.prefer c.args.family (view r.tree) c.args.position)) c.self.view_is
    (none_lent r.prefer (view r.tree) c.args.family (key_in r.prefer c.args.family (view r.tree) c.args.position) (sym c.rank_at.ensures ∙ c.in-None.is))
