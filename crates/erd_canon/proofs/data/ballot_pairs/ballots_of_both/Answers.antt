use Rattle.erd_canon.proofs.Common.{option_copied, string_bytes, sym, ap, subst, view, Preference, err_from_is_err_and, RefusedAs}
use Rattle.erd_canon.proofs.data_values.BallotPairs.{both_told}
use Rattle.erd_canon.proofs.forms.Refusing.{refused_tree}
use Rattle.erd_canon.specs.code.BallotForms.{pair_tells}
use Rattle.erd_canon.proofs.data.ballot_pairs.ballots_of_both.Goals as goal

pub returns-in-Err-clause-refused : goal.returns-in-Err-clause-refused
returns-in-Err-clause-refused c =
    subst (RefusedAs (option_copied c.args.prefer) c.args.left.now) (sym c.from.ensures)
    (refused_tree (option_copied c.args.prefer) c.args.left.now (view c.in_ok-left_tree.left_tree) c.in-Err.error c.in_ok-left_tree.ensures.read
    c.in-Err.ensures.refused)

pub returns-in-Err-accept_with-clause-refused : goal.returns-in-Err-accept_with-clause-refused
returns-in-Err-accept_with-clause-refused c = (
  (view c.in_ok-left_tree.left_tree, record { read = c.in_ok-left_tree.ensures.read; accepted = c.in-Ok.ensures.accepted }),
  subst (RefusedAs (option_copied c.args.prefer) c.args.right.now) (sym c.from-in-Err-accept_with.ensures)
      (refused_tree (option_copied c.args.prefer) c.args.right.now (view c.in_ok-right_tree.right_tree) c.in-Err-accept_with.error
      c.in_ok-right_tree.ensures.read c.in-Err-accept_with.ensures.refused),
)

pub returns-in-Ok-told_of_both-clause-told : goal.returns-in-Ok-told_of_both-clause-told
returns-in-Ok-told_of_both-clause-told c =
    let π = option_copied c.args.prefer in
    let one = view c.in-Ok.report.tree in
    let other = view c.in-Ok-accept_with.report.tree in
    let told = c.in-Ok-told_of_both.told in
    both_told (pair_tells c.args.form π) π c.args.left.now c.args.right.now (view c.in_ok-left_tree.left_tree) (view c.in_ok-right_tree.right_tree) one other
    told.0 (string_bytes told.1)
    c.in_ok-left_tree.ensures.read c.in-Ok.ensures.accepted (ap view c.in-Ok.ensures.tree) c.in_ok-right_tree.ensures.read c.in-Ok-accept_with.ensures.accepted
    (ap view c.in-Ok-accept_with.ensures.tree)
    (subst (λ (ρ : Preference). pair_tells c.args.form ρ one other told.0 (string_bytes told.1)) c.in-Ok.ensures.prefer c.in-Ok-told_of_both.ensures)

pub returns-in_err-left_tree-clause-refused : goal.returns-in_err-left_tree-clause-refused
returns-in_err-left_tree-clause-refused c =
    let p = err_from_is_err_and c.from_residual.result c.from_residual.ensures.1 in
    rw (p.1, p.2) (c.in_err-left_tree.ensures.refused (option_copied c.args.prefer) c.args.right.now)

pub returns-in_err-right_tree-clause-refused : goal.returns-in_err-right_tree-clause-refused
returns-in_err-right_tree-clause-refused c =
    let tree = view c.in_ok-left_tree.left_tree in
    let p = err_from_is_err_and c.from_residual-in_err-right_tree.result c.from_residual-in_err-right_tree.ensures.1 in
    rw (p.1, p.2)
    (c.in_err-right_tree.ensures.refused (option_copied c.args.prefer) c.args.left.now
    (tree, record { read = c.in_ok-left_tree.ensures.read; accepted = c.in-Ok.ensures.accepted }))
