use Rattle.erd_normal.proofs.Common.{◌≡◌, [], Some, sym, ◌∙◌, subst, string, view, family, Judged, id_in, normal_selection_reference}
use Rattle.erd_normal.proofs.ranks.RankedReferences.{selection_found, unselected, elsewhere, nowhere}
use Rattle.erd_normal.proofs.writer.Writer.selection_ranks.Goals as goal

pub returns-then-is_same : goal.returns-then-is_same
returns-then-is_same c =
    let r = c.self.inside.report.now in
    c.ranks_at.ensures c.args.id.now
    (subst (λ (r : Judged). id_in family.Selection (view r.tree) c.in-Some.position ≡ Some c.args.id.now) c.self.view_is
    (selection_found (view r.tree) c.args.id.now c.in-Some.found c.in-Some.position c.in-Some.ensures (sym c.is_same.ensures ∙ c.if-is_same.true)))

pub returns-else-is_same : goal.returns-else-is_same
returns-else-is_same c =
    let r = c.self.inside.report.now in
    subst (λ (r : Judged). string [] ≡ normal_selection_reference r.prefer (view r.tree) (string c.args.id.now)) c.self.view_is
    (unselected r.prefer (view r.tree) c.args.id.now (elsewhere (view r.tree) family.Selection c.args.id.now c.in-Some.found c.in-Some.position
    c.in-Some.ensures (sym c.is_same.ensures ∙ c.if-is_same.false)))

pub returns-in-None : goal.returns-in-None
returns-in-None c =
    let r = c.self.inside.report.now in
    subst (λ (r : Judged). string [] ≡ normal_selection_reference r.prefer (view r.tree) (string c.args.id.now)) c.self.view_is
    (unselected r.prefer (view r.tree) c.args.id.now (nowhere (view r.tree) family.Selection c.args.id.now c.in-None.ensures))
