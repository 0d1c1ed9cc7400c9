use Rattle.erd_meaning.proofs.Common.{AreSalted, option_copied, sym, subst, err_from_is_err_and, view, Value, RefusedFor, IsFault, SelectionFault, IsIdentified}
use Rattle.erd_meaning.specs.SaltWrites.{report_start}
use Rattle.erd_meaning.proofs.refused.Refused.{refused_for_identity, refused_for_selections, refused_for_shape}
use Rattle.erd_meaning.proofs.report.accepting.accept_with.Goals as goal

pub with_names-requires-clause-identified : goal.with_names-requires-clause-identified
with_names-requires-clause-identified c = subst (λ (v : Value). IsIdentified (option_copied c.args.prefer) v) (sym c.in_ok-shaped-in-Ok.ensures.tree)
    c.in-Ok.ensures.identified

pub with_names-requires-clause-salted : goal.with_names-requires-clause-salted
with_names-requires-clause-salted c =
    subst (λ (v : Value). AreSalted (report_start (option_copied c.args.prefer) (view v)) c.in-Ok.objects c.in-Ok.elections)
    (sym c.in_ok-shaped-in-Ok.ensures.tree) c.in-Ok.ensures.salted

pub returns-in_err-report-in-Ok-clause-refused : goal.returns-in_err-report-in-Ok-clause-refused
returns-in_err-report-in-Ok-clause-refused c =
    let v = c.args.tree.now in
    let π = option_copied c.args.prefer in
    let e = c.in_err-report-in-Ok.field-0.0 in
    let told : RefusedFor (SelectionFault π (view v)) e = subst (λ (w : Value). RefusedFor (SelectionFault π (view w)) e) c.in_ok-shaped-in-Ok.ensures.tree
    c.in_err-report-in-Ok.ensures.refused in
    let refused : RefusedFor (IsFault π (view v)) e = refused_for_selections π (view v) e c.in_ok-shaped-in-Ok.ensures.faultless c.in-Ok.ensures.identified
    c.in_ok-shaped-in-Ok.ensures.referred told in
    let p = err_from_is_err_and c.from_residual-in_err-report-in-Ok.result c.from_residual-in_err-report-in-Ok.ensures.1 in
    rw (p.1, p.2) refused

pub returns-in_err-_shaped-in-Err-clause-refused : goal.returns-in_err-_shaped-in-Err-clause-refused
returns-in_err-_shaped-in-Err-clause-refused c =
    let p = err_from_is_err_and c.from_residual-in_err-_shaped-in-Err.result c.from_residual-in_err-_shaped-in-Err.ensures.1 in
    rw (p.1, p.2) (refused_for_shape (option_copied c.args.prefer) (view c.args.tree.now) c.in_err-_shaped-in-Err.field-0.0
    c.in_err-_shaped-in-Err.ensures.refused)

pub returns-in_ok-_shaped-in-Err-clause-refused : goal.returns-in_ok-_shaped-in-Err-clause-refused
returns-in_ok-_shaped-in-Err-clause-refused c =
    refused_for_identity (option_copied c.args.prefer) (view c.args.tree.now) c.in-Err.error c.in_ok-_shaped-in-Err.ensures.ok c.in-Err.ensures.refused
