use Rattle.serde_json.proofs.Views.{view-Array}
use Rattle.erd_meaning.proofs.Common.{◌≡◌, map, sym, ap, ◌∙◌, subst, IsTrue, IfOk, IfOk-weaker, ⊤, array, view, items_view, IsKnown, reference_reasons_told}
use Rattle.erd_meaning.proofs.Common.{shown}
use Rattle.erd_check.proofs.Silence.{known_inside}
use Rattle.erd_check.specs.Visits.{IsSilentMember}
use Rattle.erd_meaning.proofs.references.SilentWalks.{no_reference}
use Rattle.erd_meaning.proofs.report.reference_judge.ReferenceJudgeVisitor.passes_over.Goals as goal

pub returns-then-not-may_have_references-clause-silent : goal.returns-then-not-may_have_references-clause-silent
returns-then-not-may_have_references-clause-silent c passed =
    no_reference (map shown c.args.self.now.objects.now.objects) (view c.args.member.owner.now) c.args.member.want (view c.args.member.value.now)
    (sym c.may_have_references.ensures ∙ c.if-not-may_have_references.true)

pub returns-then-not-may_have_references-clause-known : goal.returns-then-not-may_have_references-clause-known
returns-then-not-may_have_references-clause-known c passed = known_inside (λ w d. ⊤) (λ w d. tt) c.args.member.want (view c.args.member.value.now)

pub returns-in-Array-clause-silent : goal.returns-in-Array-clause-silent
returns-in-Array-clause-silent c =
    let is : array (items_view c.as_slice.result.now) ≡ view c.args.member.value.now = ap (λ vs. array (items_view vs)) c.as_slice.ensures.value
    ∙ sym (ap view c.in-Array.is ∙ view-Array c.in-Array.items) in
    subst (λ d. IfOk c.is_clear_array.result (λ passes. IsTrue passes → IsSilentMember (reference_reasons_told (map shown c.args.self.now.objects.now.objects))
    (view c.args.member.owner.now) c.args.member.want d)) is c.is_clear_array.ensures

pub returns-in-Array-clause-known : goal.returns-in-Array-clause-known
returns-in-Array-clause-known c =
    IfOk-weaker c.is_clear_array.result (λ clear. IsTrue clear → IsSilentMember (reference_reasons_told (map shown c.args.self.now.objects.now.objects))
    (view c.args.member.owner.now) c.args.member.want (array (items_view c.as_slice.result.now)))
    (λ passes. IsTrue passes → IsKnown (λ w d. ⊤) c.args.member.want (view c.args.member.value.now))
    (λ clear silent passes. known_inside (λ w d. ⊤) (λ w d. tt) c.args.member.want (view c.args.member.value.now)) c.is_clear_array.ensures
