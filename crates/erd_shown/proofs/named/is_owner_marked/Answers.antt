use Rattle.erd_shown.proofs.Common.{false, option_map_or, ap, view}
use Rattle.erd_shown.proofs.MarkLists.{owner_marked}
use Rattle.erd_shown.proofs.named.is_owner_marked.Goals as goal

pub returns-in-Some : goal.returns-in-Some
returns-in-Some c P all =
    owner_marked P c.args.family (view c.args.report.now.tree) c.args.id.now c.args.marks.now c.in-Some.position _ c.is_marked.ensures c.in-Some.ensures all

pub returns-in-None : goal.returns-in-None
returns-in-None c P all = ap (λ o. option_map_or P o false) c.in-None.ensures
