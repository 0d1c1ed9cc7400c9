use Rattle.erd_check.proofs.Common.{sym, refl, ◌∙◌, subst, view, ListsAll, ShapeFault}
use Rattle.erd_check.proofs.Walks.{shape_walk_lists}
use Rattle.erd_check.proofs.shape_faults.walked_faults.Goals as goal

pub returns-clause-all : goal.returns-clause-all
returns-clause-all c =
    subst (ListsAll (ShapeFault (view c.args.tree.now))) (sym (c.of.ensures ∙ c.in_ok-found.ensures.told))
    (shape_walk_lists (view c.args.tree.now) (c.in_ok-found.ensures.in_order refl))
