use Rattle.erd_normal.proofs.Common.{[], slice_get, ap, ◌∙◌, option_map_or, view, Judged, Placed, contests, list_seen, rising_selections}
use Rattle.erd_normal.proofs.ranks.RankedReferences.{lists_given}
use Rattle.erd_normal.proofs.writer.Writer.rising_selections.Goals as goal

pub returns : goal.returns
returns c =
    let r = c.self.inside.report.now in
    c.list_at.ensures ∙ (ap (λ xs. list_seen xs c.args.contest) c.deref.ensures.value
    ∙ (lists_given c.self.inside.orders.now.selections.rising.items (λ (o : Placed). rising_selections r.prefer (view r.tree) o.value) (contests (view r.tree))
    c.args.contest c.self.invariant.contests
    ∙ ap (λ (r : Judged). option_map_or (λ (o : Placed). rising_selections r.prefer (view r.tree) o.value)
    (slice_get (contests (view r.tree)) c.args.contest) []) c.self.view_is))
