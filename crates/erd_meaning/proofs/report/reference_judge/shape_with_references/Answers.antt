use Rattle.erd_meaning.proofs.Common.{◌≡◌, ◌≢◌, [], List, map, length, sym, ap, ◌∙◌, subst, err_from_is_err_and, view, ListsAll, ReferenceFault, told_of_report}
use Rattle.erd_meaning.proofs.Common.{Kept, reference_reasons_told, shown}
use Rattle.erd_check.proofs.Deciding.{none_from_empty}
use Rattle.erd_meaning.proofs.finding.Found.{own_ids}
use Rattle.erd_meaning.proofs.references.ReferenceWalks.{references_all}
use Rattle.erd_meaning.proofs.refused.Refused.{refused_for_references, refused_for_shape}
use Rattle.erd_check.specs.declared.error.CheckError.TheVariants.{Faults}
use Rattle.erd_meaning.proofs.report.reference_judge.shape_with_references.Goals as goal

pub invariant_of-shape_with : goal.invariant_of-shape_with
invariant_of-shape_with c =
    record { told_apart = own_ids c.args.keys.now (view c.args.tree.now) (map shown c.args.objects.now.objects) c.requires.kept c.requires.identified }

pub returns-then-len-eq0-clause-referred : goal.returns-then-len-eq0-clause-referred
returns-then-len-eq0-clause-referred c =
    let π = c.args.keys.now in
    let t = view c.args.tree.now in
    let kept = ap (λ (ks : List Kept). told_of_report (reference_reasons_told ks) t) c.requires.kept in
    let all : ListsAll (ReferenceFault t) c.of-references.result =
    subst (ListsAll (ReferenceFault t)) (sym (c.of-references.ensures ∙ c.in_ok-shaped.ensures.told ∙ kept))
    (references_all π t c.requires.identified c.in_ok-shaped.ensures.in_order) in
    none_from_empty (ReferenceFault t) c.of-references.result all (sym c.len.ensures ∙ c.if-len-eq0.true)

pub returns-clause-refused : goal.returns-clause-refused
returns-clause-refused c =
    let π = c.args.keys.now in
    let t = view c.args.tree.now in
    let kept = ap (λ (ks : List Kept). told_of_report (reference_reasons_told ks) t) c.requires.kept in
    let list = c.of-references.result in
    let all : ListsAll (ReferenceFault t) list =
    subst (ListsAll (ReferenceFault t)) (sym (c.of-references.ensures ∙ c.in_ok-shaped.ensures.told ∙ kept))
    (references_all π t c.requires.identified c.in_ok-shaped.ensures.in_order) in
    let some : list ≢ [] = λ empty. let zero : length list ≡ 0 = ap length empty in c.if-len-eq0.false (c.len.ensures ∙ zero) in
    refused_for_references π t (Faults list) c.in_ok-shaped.ensures.faultless c.requires.identified (all, some)

pub returns-in_err-shaped-clause-refused : goal.returns-in_err-shaped-clause-refused
returns-in_err-shaped-clause-refused c =
    let p = err_from_is_err_and c.from_residual.result c.from_residual.ensures.1 in
    rw (p.1, p.2) (refused_for_shape c.args.keys.now (view c.args.tree.now) c.in_err-shaped.field-0.0 c.in_err-shaped.ensures.refused)
