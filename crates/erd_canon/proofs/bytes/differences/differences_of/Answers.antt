use Rattle.erd_canon.proofs.Common.{option_copied, sym, ap, subst, view, Preference, meaning, err_from_is_err_and, RefusedAs}
use Rattle.erd_compare.specs.SelectionDifferences.{AreDetailedDifferences}
use Rattle.erd_canon.proofs.runs.Listings.{listed}
use Rattle.erd_canon.proofs.forms.Refusing.{refused_tree}
use Rattle.erd_canon.proofs.bytes.differences.differences_of.Goals as goal

pub returns-in-Err-clause-refused : goal.returns-in-Err-clause-refused
returns-in-Err-clause-refused c =
    subst (RefusedAs (option_copied c.args.prefer) c.args.left.now) (sym c.from.ensures)
    (refused_tree (option_copied c.args.prefer) c.args.left.now (view c.in_ok-left_tree.left_tree) c.in-Err.error c.in_ok-left_tree.ensures.read
    c.in-Err.ensures.refused)

pub returns-in-Err-accept_with-clause-refused : goal.returns-in-Err-accept_with-clause-refused
returns-in-Err-accept_with-clause-refused c = (
  (view c.in_ok-left_tree.left_tree, record { read = c.in_ok-left_tree.ensures.read; accepted = c.in-Ok.ensures.accepted }),
  subst (RefusedAs (option_copied c.args.prefer) c.args.right.now) (sym c.from-in-Err-accept_with.ensures)
      (refused_tree (option_copied c.args.prefer) c.args.right.now (view c.in_ok-right_tree.right_tree) c.in-Err-accept_with.error
      c.in_ok-right_tree.ensures.read c.in-Err-accept_with.ensures.refused),
)

pub returns-in-Ok-detailed_differences-clause-ok : goal.returns-in-Ok-detailed_differences-clause-ok
returns-in-Ok-detailed_differences-clause-ok c =
    let π = option_copied c.args.prefer in
    let first = c.args.first in
    let most = c.args.most_bytes in
    let one = view c.in-Ok.report.tree in
    let other = view c.in-Ok-accept_with.report.tree in
    let found = c.in-Ok-detailed_differences.found.items in
    listed π c.args.left.now c.args.right.now first most (view c.in_ok-left_tree.left_tree) (view c.in_ok-right_tree.right_tree) one other found
    c.in_ok-left_tree.ensures.read c.in-Ok.ensures.accepted (ap view c.in-Ok.ensures.tree) c.in_ok-right_tree.ensures.read c.in-Ok-accept_with.ensures.accepted
    (ap view c.in-Ok-accept_with.ensures.tree)
    (subst (λ (ρ : Preference). AreDetailedDifferences (meaning π one) (meaning ρ other) first most found) c.in-Ok-accept_with.ensures.prefer
    (subst (λ (ρ : Preference). AreDetailedDifferences (meaning ρ one) (meaning c.in-Ok-accept_with.report.prefer other) first most found)
    c.in-Ok.ensures.prefer c.in-Ok-detailed_differences.ensures))

pub returns-in_err-left_tree-clause-refused : goal.returns-in_err-left_tree-clause-refused
returns-in_err-left_tree-clause-refused c =
    let p = err_from_is_err_and c.from_residual.result c.from_residual.ensures.1 in
    rw (p.1, p.2) (c.in_err-left_tree.ensures.refused (option_copied c.args.prefer) c.args.right.now)

pub returns-in_err-right_tree-clause-refused : goal.returns-in_err-right_tree-clause-refused
returns-in_err-right_tree-clause-refused c =
    let tree = view c.in_ok-left_tree.left_tree in
    let p = err_from_is_err_and c.from_residual-in_err-right_tree.result c.from_residual-in_err-right_tree.ensures.1 in
    rw (p.1, p.2)
    (c.in_err-right_tree.ensures.refused (option_copied c.args.prefer) c.args.left.now
    (tree, record { read = c.in_ok-left_tree.ensures.read; accepted = c.in-Ok.ensures.accepted }))
