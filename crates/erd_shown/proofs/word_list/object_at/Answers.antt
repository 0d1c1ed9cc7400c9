use Rattle.erd_shown.proofs.Common.{◌≡◌, false, sym, ap, subst, option_map-Some, Data, has_float, view, HasFittingNumbers, IsTree}
use Rattle.erd_shown.proofs.Common.{IsBounded, IsAccepted}
use Rattle.erd_shown.specs.Laws.{IsTaken}
use Rattle.erd_shown.specs.Shown.{placed_in}
use Rattle.erd_shown.proofs.Placed.{whole_there}
use Rattle.erd_shown.proofs.word_list.object_at.Goals as goal

pub returns-in-Some-clause-whole : goal.returns-in-Some-clause-whole
returns-in-Some-clause-whole c =
    let π = c.args.report.now.prefer in
    let t = view c.args.report.now.tree in
    let r = c.args.object.now.role in
    let i = c.args.object.now.position in
    let same : view c.tree-tree.result.now ≡ t = ap view c.tree-tree.ensures.tree in
    let given : IsTaken π t =
    record {
      accepted = subst (IsAccepted π) same c.tree-tree.ensures.accepted;
      is_tree = subst IsTree same c.tree-tree.ensures.is_tree;
      fits = subst HasFittingNumbers same c.tree-tree.ensures.fits;
    } in
    let o = option_map-Some (λ o. o.value) (placed_in t r i) (view c.in-Some.value.now) (sym c.in-Some.ensures) in
    subst (λ (x : Data). has_float x ≡ false) o.2 (whole_there π t given (subst IsBounded same c.tree-tree.ensures.bounded) r i o.0 o.1)
