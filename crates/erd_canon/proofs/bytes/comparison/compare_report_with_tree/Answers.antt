use Rattle.erd_canon.proofs.Common.{◌∙◌, sym, refl, ap, subst, view, meaning, Preference, IsAccepted, IsFault, IsDifference, RefusedAs}
use Rattle.erd_check.specs.Refusals.{RefusedFor}
use Rattle.erd_canon.proofs.forms.Refusing.{refused_tree}
use Rattle.erd_canon.proofs.runs.Comparisons.{compared}
use Rattle.erd_canon.proofs.bytes.comparison.compare_report_with_tree.Goals as goal

pub returns-in-Err-clause-refused : goal.returns-in-Err-clause-refused
returns-in-Err-clause-refused g c b d accepted read =
    let π = c.args.left.now.prefer in
    let t = view c.args.right.now in
    let refused = subst (λ (ρ : Preference). RefusedFor (IsFault ρ t) c.in-Err.error) c.preference.ensures c.in-Err.ensures.refused in
    ((view c.args.left.now.tree, accepted), subst (RefusedAs π d) (sym c.from.ensures) (refused_tree π d t c.in-Err.error read refused))

pub returns-in-Ok-answer-clause-ok : goal.returns-in-Ok-answer-clause-ok
returns-in-Ok-answer-clause-ok g c b d accepted read =
    let left = c.args.left.now in
    let r = c.in-Ok.report in
    let one = view left.tree in
    compared left.prefer b d one (view c.args.right.now) one (view r.tree) c.in-Ok-answer.found
    accepted.read accepted.accepted refl read (subst (λ (ρ : Preference). IsAccepted ρ (view c.args.right.now)) c.preference.ensures c.in-Ok.ensures.accepted)
    (ap view c.in-Ok.ensures.tree)
    (subst (λ (ρ : Preference). IsDifference (meaning left.prefer one) (meaning ρ (view r.tree)) c.in-Ok-answer.found)
    (c.in-Ok.ensures.prefer ∙ c.preference.ensures) c.in-Ok-answer.ensures)
