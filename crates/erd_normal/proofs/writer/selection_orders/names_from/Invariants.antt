use Rattle.erd_normal.proofs.Common.{◌≡◌, map, take, view, positioned}
use Rattle.erd_meaning.proofs.selections.RankedReports.{ranked_name_of}
use Rattle.erd_normal.proofs.ranks.SelectionRanks.{see}
use Rattle.erd_normal.proofs.writer.selection_orders.names_from.Given as goal

abbrev pub invariant-loop-index : goal.invariant-loop-index
invariant-loop-index l = map see l.names.items ≡ positioned 0 (take l.index (map (ranked_name_of l.report.prefer (view l.report.tree)) (map view l.selections)))
