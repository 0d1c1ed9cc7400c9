use Rattle.erd_shown.proofs.Common.{◌≡◌, ℕ, false, sym, ap, ◌∙◌, subst, option_map-Some, Data, has_float, view, class_of_object, HasFittingNumbers, IsTree}
use Rattle.erd_shown.proofs.Common.{IsBounded, IsAccepted}
use Rattle.erd_meaning.specs.Lookups.{selections_before}
use Rattle.erd_shown.specs.ContentData.{members_in}
use Rattle.erd_shown.specs.Shown.{placed_in}
use Rattle.erd_shown.specs.Laws.{IsTaken}
use Rattle.erd_shown.specs.code.Selections.{HoldNamed}
use Rattle.erd_shown.proofs.Placed.{named_there, whole_there}
use Rattle.erd_shown.proofs.objects.placed.Goals as goal

pub returns-clause-named : goal.returns-clause-named
returns-clause-named c =
    let π = c.args.report.now.prefer in
    let t = view c.args.report.now.tree in
    let same : view c.tree-tree.result.now ≡ t = ap view c.tree-tree.ensures.tree in
    let given : IsTaken π t =
    record {
      accepted = subst (IsAccepted π) same c.tree-tree.ensures.accepted;
      is_tree = subst IsTree same c.tree-tree.ensures.is_tree;
      fits = subst HasFittingNumbers same c.tree-tree.ensures.fits;
    } in
    let d = view c.in_ok-value.value.now in
    let class = c.in_ok-class.class in
    let o = option_map-Some (λ o. o.value) (placed_in t c.args.role c.args.position) d (sym c.in_ok-value.ensures) in
    subst (λ (s : ℕ). HoldNamed π t s class (members_in d)) (sym c.first_selection-first_selection.ensures)
    (subst (λ (x : Data). HoldNamed π t (selections_before t c.args.position) class (members_in x)) o.2
    (named_there π t given (subst IsBounded same c.tree-tree.ensures.bounded) c.args.role c.args.position o.0 class o.1
    (ap (class_of_object c.args.role) o.2 ∙ sym c.in_ok-class.ensures)))

pub returns-clause-whole : goal.returns-clause-whole
returns-clause-whole c =
    let π = c.args.report.now.prefer in
    let t = view c.args.report.now.tree in
    let same : view c.tree-tree.result.now ≡ t = ap view c.tree-tree.ensures.tree in
    let given : IsTaken π t =
    record {
      accepted = subst (IsAccepted π) same c.tree-tree.ensures.accepted;
      is_tree = subst IsTree same c.tree-tree.ensures.is_tree;
      fits = subst HasFittingNumbers same c.tree-tree.ensures.fits;
    } in
    let o = option_map-Some (λ o. o.value) (placed_in t c.args.role c.args.position) (view c.in_ok-value.value.now) (sym c.in_ok-value.ensures) in
    subst (λ (x : Data). has_float x ≡ false) o.2 (whole_there π t given (subst IsBounded same c.tree-tree.ensures.bounded) c.args.role c.args.position o.0 o.1)
