use Rattle.erd_canon.proofs.Common.{option_copied, err_from_is_err_and, view}
use Rattle.erd_canon.proofs.forms.Refusing.{refused_tree}
use Rattle.erd_canon.proofs.data.ballots.ballots_in.Goals as goal

pub returns-in_err-report-clause-refused : goal.returns-in_err-report-clause-refused
returns-in_err-report-clause-refused c =
    let p = err_from_is_err_and c.from_residual.result c.from_residual.ensures.1 in
    rw (p.1, p.2) (λ b read. refused_tree (option_copied c.args.prefer) b (view c.args.tree.now) c.in_err-report.field-0.0 read c.in_err-report.ensures.refused)
