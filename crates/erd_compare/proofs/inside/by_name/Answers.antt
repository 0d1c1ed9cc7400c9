use Rattle.erd_compare.proofs.Common.{rules}
use Rattle.erd_compare.proofs.contest_selections.SelectionLists.{sorted_by_name}
use Rattle.erd_compare.proofs.inside.by_name.Goals as goal

pub returns : goal.returns
returns c = sorted_by_name c.args.ways.items c.sort_by.new.self.items c.in_ok-sort_by.ensures.sorted c.in_ok-sort_by.ensures.stable
    (λ a r f' call. search rules)
