use Rattle.erd_canon.proofs.Common.{option_copied, ap, subst, err_from_is_err_and, view, Preference}
use Rattle.erd_normal.specs.CanonicalText.{IsCanonicalText}
use Rattle.erd_canon.proofs.forms.FormLaws.{canonical_text, headline}
use Rattle.erd_canon.proofs.forms.Refusing.{refused_tree}
use Rattle.erd_canon.proofs.bytes.canonical.canonical_of_tree.Goals as goal

pub returns-in_err-report-clause-refused : goal.returns-in_err-report-clause-refused
returns-in_err-report-clause-refused g c =
    let p = err_from_is_err_and c.from_residual.result c.from_residual.ensures.1 in
    rw (p.1, p.2) (λ b read. refused_tree (option_copied c.args.prefer) b (view c.args.tree.now) c.in_err-report.field-0.0 read c.in_err-report.ensures.refused)

pub returns-clause-headline : goal.returns-clause-headline
returns-clause-headline g c b read =
    let π = option_copied c.args.prefer in
    let text = c.in_ok-text.field-0.items in
    headline π b text
    (canonical_text π b (view c.args.tree.now) (view c.in_ok-report.report.tree) text read c.in_ok-report.ensures.accepted c.requires.nests
    (ap view c.in_ok-report.ensures.tree)
    (subst (λ (π : Preference). IsCanonicalText π (view c.in_ok-report.report.tree) text) c.in_ok-report.ensures.prefer c.in_ok-text.ensures))
