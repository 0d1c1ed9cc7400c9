use Rattle.erd_check.proofs.Common.{sym, ◌∙◌, view}
use Rattle.erd_check.proofs.Deciding.{no_fault_from_empty}
use Rattle.erd_check.proofs.ShapedReports.{shaped_by}
use Rattle.erd_check.proofs.shaped.shape.Goals as goal

pub invariant_of-result : goal.invariant_of-result
invariant_of-result c =
    shaped_by c.args.tree.now c.in_ok-list.list c.in_ok-list.ensures.all c.in_ok-list.ensures.in_order c.in_ok-list.ensures.in_range c.requires.nests
    (sym c.len.ensures ∙ c.if-len-eq0.true)

pub returns-then-len-eq0-clause-ok : goal.returns-then-len-eq0-clause-ok
returns-then-len-eq0-clause-ok c =
    no_fault_from_empty (view c.args.tree.now) c.in_ok-list.list c.in_ok-list.ensures.all (sym c.len.ensures ∙ c.if-len-eq0.true)
