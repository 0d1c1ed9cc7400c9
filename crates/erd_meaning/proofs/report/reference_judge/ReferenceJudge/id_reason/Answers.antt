use Rattle.erd_meaning.proofs.Common.{map, option_to_list, sym, ap, ◌∙◌, view, SelectionOfOtherContest, reason_if, shown, not-true, not-false}
use Rattle.erd_meaning.proofs.finding.Pushed.{families_same}
use Rattle.erd_meaning.proofs.references.SilentWalks.{reasons_of_family, reasons_of_other, reasons_of_unknown, told_if}
use Rattle.erd_meaning.proofs.report.reference_judge.ReferenceJudge.id_reason.Goals as goal

pub returns-in_default : goal.returns-in_default
returns-in_default c =
    sym (reasons_of_unknown (map shown c.args.self.now.objects.now.objects) (view c.args.object.now) c.args.family c.args.id.now
    (sym (c.position_on_trail.ensures c.args.self.now.told_apart) ∙ c.in_default.is))

pub returns-then-ne : goal.returns-then-ne
returns-then-ne c =
    let ks = map shown c.args.self.now.objects.now.objects in
    sym (reasons_of_other ks (view c.args.object.now) c.args.family c.in-Some.own c.args.id.now c.in-Some.index
    (sym (c.position_on_trail.ensures c.args.self.now.told_apart) ∙ c.in-Some.is)
    (sym (families_same c.in-Some.own c.args.family) ∙ not-true _ (sym c.if-ne.ensures)))

pub returns : goal.returns
returns c =
    let ks = map shown c.args.self.now.objects.now.objects in
    ap option_to_list c.then_some.ensures ∙ told_if c.is_elsewhere-is_other.result SelectionOfOtherContest
    ∙ ap (λ b. reason_if b SelectionOfOtherContest) c.is_elsewhere-is_other.ensures
    ∙ sym (reasons_of_family ks (view c.args.object.now) c.args.family c.in-Some.own c.args.id.now c.in-Some.index
    (sym (c.position_on_trail.ensures c.args.self.now.told_apart) ∙ c.in-Some.is)
    (sym (families_same c.in-Some.own c.args.family) ∙ not-false _ (sym c.if-ne.ensures)))
