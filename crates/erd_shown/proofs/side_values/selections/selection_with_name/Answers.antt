use Rattle.erd_shown.proofs.Common.{Some, None, ap, ◌∙◌, subst, view, HasFittingNumbers, IsTree, IsBounded, IsAccepted}
use Rattle.erd_shown.specs.Laws.{IsTaken}
use Rattle.erd_shown.proofs.SelectionsFound.{found_whole, selection_found}
use Rattle.erd_shown.proofs.side_values.selections.selection_with_name.Goals as goal

pub returns-in-Some-clause-found : goal.returns-in-Some-clause-found
returns-in-Some-clause-found c =
    let π = c.args.report.now.prefer in
    let t = view c.args.report.now.tree in
    let same = ap view c.tree-tree.ensures.tree in
    c.object.ensures
    ∙ selection_found π t (subst (IsAccepted π) same c.tree-tree.ensures.accepted) (subst IsTree same c.tree-tree.ensures.is_tree)
    (subst HasFittingNumbers same c.tree-tree.ensures.fits) (subst IsBounded same c.tree-tree.ensures.bounded) c.args.contest c.args.name.now
    (Some c.in-Some.position) c.in-Some.ensures

pub returns-in-Some-clause-whole : goal.returns-in-Some-clause-whole
returns-in-Some-clause-whole c =
    let π = c.args.report.now.prefer in
    let t = view c.args.report.now.tree in
    let same = ap view c.tree-tree.ensures.tree in
    let given : IsTaken π t =
    record {
      accepted = subst (IsAccepted π) same c.tree-tree.ensures.accepted;
      is_tree = subst IsTree same c.tree-tree.ensures.is_tree;
      fits = subst HasFittingNumbers same c.tree-tree.ensures.fits;
    } in
    found_whole π t given (subst IsBounded same c.tree-tree.ensures.bounded) (λ v. view v.now) c.object.result c.in-Some.position c.object.ensures

pub returns-in-None-clause-found : goal.returns-in-None-clause-found
returns-in-None-clause-found c =
    let π = c.args.report.now.prefer in
    let t = view c.args.report.now.tree in
    let same = ap view c.tree-tree.ensures.tree in
    selection_found π t (subst (IsAccepted π) same c.tree-tree.ensures.accepted) (subst IsTree same c.tree-tree.ensures.is_tree)
    (subst HasFittingNumbers same c.tree-tree.ensures.fits) (subst IsBounded same c.tree-tree.ensures.bounded) c.args.contest c.args.name.now
    None c.in-None.ensures
