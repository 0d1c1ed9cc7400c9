use Rattle.erd_normal.proofs.Common.{[], slice_get, option_map, sym, ap, ◌∙◌, view, contests}
use Rattle.erd_normal.proofs.ranks.WrittenTrees.{seen_value, unseen_value}
use Rattle.erd_normal.proofs.ranks.SelectionRanks.{selections_of}
use Rattle.erd_normal.proofs.writer.selection_orders.selections_at.Goals as goal

pub returns-in-Some : goal.returns-in-Some
returns-in-Some c =
    c.entries_at.ensures ∙ sym (seen_value selections_of [] (slice_get (contests (view c.args.report.now.tree)) c.args.contest) (view c.in-Some.contest.now)
    (sym c.object.ensures ∙ ap (option_map (λ v. view v.now)) c.in-Some.is))

pub returns-in-None : goal.returns-in-None
returns-in-None c = unseen_value selections_of (slice_get (contests (view c.args.report.now.tree)) c.args.contest)
    (sym (ap (option_map (λ v. view v.now)) c.in-None.is) ∙ c.object.ensures)
