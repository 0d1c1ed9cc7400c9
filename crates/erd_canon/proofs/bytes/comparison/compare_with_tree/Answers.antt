use Rattle.std.proofs.lemmas.Result.{IfErr-weaker, IfOk-weaker}
use Rattle.erd_canon.proofs.Common.{option_copied, sym, ap, subst, view, Preference, RefusedAs, IsComparison, RefusedSide}
use Rattle.erd_canon.proofs.forms.Refusing.{of_report, refused_tree}
use Rattle.erd_canon.proofs.bytes.comparison.compare_with_tree.Goals as goal

pub returns-in-Err-clause-refused : goal.returns-in-Err-clause-refused
returns-in-Err-clause-refused g c b read =
    subst (RefusedAs (option_copied c.args.prefer) b) (sym c.from.ensures)
    (refused_tree (option_copied c.args.prefer) b (view c.args.left.now) c.in-Err.error read c.in-Err.ensures.refused)

pub returns-clause-ok : goal.returns-clause-ok
returns-clause-ok g c =
    IfOk-weaker c.compare_with_report-answer.result _ _ (λ answer. of_report (option_copied c.args.prefer) c.in-Ok.report.prefer (view c.args.left.now)
    (view c.in-Ok.report.tree)
    (λ (ρ : Preference) b. IsComparison ρ b (g.I.Input.bytes c.args.right) answer) c.in-Ok.ensures.prefer (ap view c.in-Ok.ensures.tree)
    c.in-Ok.ensures.accepted) c.compare_with_report-answer.ensures.ok

pub returns-clause-refused : goal.returns-clause-refused
returns-clause-refused g c =
    IfErr-weaker c.compare_with_report-answer.result _ _ (λ answer. of_report (option_copied c.args.prefer) c.in-Ok.report.prefer (view c.args.left.now)
    (view c.in-Ok.report.tree)
    (λ (ρ : Preference) b. RefusedSide ρ b (g.I.Input.bytes c.args.right) answer) c.in-Ok.ensures.prefer (ap view c.in-Ok.ensures.tree)
    c.in-Ok.ensures.accepted) c.compare_with_report-answer.ensures.refused
