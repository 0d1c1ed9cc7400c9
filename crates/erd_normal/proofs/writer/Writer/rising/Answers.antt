use Rattle.erd_normal.proofs.Common.{ap, ◌∙◌, view, Judged, positions_in_election, list_seen}
use Rattle.erd_normal.proofs.writer.Writer.rising.Goals as goal

pub returns : goal.returns
returns c =
    c.list_at.ensures ∙ (ap (λ xs. list_seen xs c.args.election) (c.deref.ensures.value ∙ ap (λ lists. lists.items) c.get.ensures)
    ∙ (c.self.invariant.by_election c.args.family c.args.election
    ∙ ap (λ (r : Judged). positions_in_election r.prefer (view r.tree) c.args.family c.args.election) c.self.view_is))
