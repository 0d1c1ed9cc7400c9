use Rattle.erd_normal.proofs.Common.{◌≡◌, map, length, take, flat_map, view, rising_selections}
use Rattle.erd_normal.proofs.ranks.SelectionRanks.{ranks_in, contest_values, selections_of}
use Rattle.erd_normal.proofs.writer.selection_orders.selection_orders.Given as goal

abbrev pub invariant-loop-index : goal.invariant-loop-index
invariant-loop-index l = record {
  rising : map (λ positions. positions.items) l.rising.items ≡ map (rising_selections l.report.prefer (view l.report.tree))
      (take l.index (contest_values (view l.report.tree)));
  ranks : l.ranks.items ≡ flat_map (ranks_in l.report.prefer (view l.report.tree)) (take l.index (contest_values (view l.report.tree)));
  start : l.start ≡ length (flat_map selections_of (take l.index (contest_values (view l.report.tree))));
}
