use Rattle.erd_normal.proofs.Common.{sym, ◌∙◌, subst, view, FindsId}
use Rattle.erd_normal.proofs.ranks.RankedReferences.{elsewhere, named_here, nowhere, unnamed}
use Rattle.erd_normal.proofs.writer.Writer.rank_of.Goals as goal

pub returns-then-is_same : goal.returns-then-is_same
returns-then-is_same c id finds =
    let r = c.args.self.now in
    c.rank_at.ensures ∙ named_here r.prefer (view r.tree) c.args.family id c.requires.accepted c.requires.keyed c.in-Some.own c.in-Some.position
    (subst (FindsId (view r.tree) id) c.in-Some.is finds) (sym c.is_same.ensures ∙ c.if-is_same.true)

pub returns-else-is_same : goal.returns-else-is_same
returns-else-is_same c id finds =
    let r = c.args.self.now in
    unnamed r.prefer (view r.tree) c.args.family id (elsewhere (view r.tree) c.args.family id c.in-Some.own c.in-Some.position
    (subst (FindsId (view r.tree) id) c.in-Some.is finds) (sym c.is_same.ensures ∙ c.if-is_same.false))

pub returns-in-None : goal.returns-in-None
returns-in-None c id finds = let r = c.args.self.now in unnamed r.prefer (view r.tree) c.args.family id
    (nowhere (view r.tree) c.args.family id (subst (FindsId (view r.tree) id) c.in-None.is finds))
