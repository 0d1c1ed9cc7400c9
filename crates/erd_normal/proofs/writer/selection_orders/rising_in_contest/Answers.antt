use Rattle.erd_normal.proofs.Common.{◌≡◌, map, ap, ◌∙◌, IfOk-weaker, option_cmp, view, name_of, name_cmp, positions_by}
use Rattle.erd_normal.proofs.ranks.SelectionRanks.{LentName, sorted_names}
use Rattle.erd_normal.proofs.writer.selection_orders.rising_in_contest.Goals as goal

pub returns : goal.returns
returns c =
    let π = c.args.report.now.prefer in
    let t = view c.args.report.now.tree in
    let ds = map view c.args.selections.now in
    IfOk-weaker c.positions_of.result (λ positions. positions.items ≡ map (λ (p : LentName). p.1) c.deref.result.now)
    (λ positions. positions.items ≡ positions_by (option_cmp name_cmp) (map (name_of π t) ds))
    (λ positions is.
    is
    ∙ (ap (map (λ (p : LentName). p.1)) c.deref.ensures.value
    ∙ sorted_names π t c.in_ok-names.names.items c.in_ok-sorted.sorted.items ds c.in_ok-names.ensures c.in_ok-sorted.ensures))
    c.positions_of.ensures
