use Rattle.erd_normal.proofs.Common.{rules, lent_name_cmp}
use Rattle.erd_text.proofs.StableRising.{rising_from_stable, sorted_by_keys}
use Rattle.erd_normal.proofs.ranks.SelectionRanks.{lent_total}
use Rattle.erd_normal.proofs.writer.selection_orders.in_rising_order.Goals as goal

pub returns : goal.returns
returns c =
    let given = c.args.names.items in
    let new = c.sort_by.new.self.items in
    rising_from_stable lent_name_cmp lent_total given new
    (sorted_by_keys lent_name_cmp lent_total given new c.in_ok-sort_by.ensures.sorted c.in_ok-sort_by.ensures.stable (λ a r f' call. search rules))
