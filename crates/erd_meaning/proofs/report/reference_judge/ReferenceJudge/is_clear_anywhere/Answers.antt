use Rattle.erd_meaning.proofs.Common.{◌≡◌, false, ◌==◌, ◌&&◌, map, sym, refl, ap, ◌∙◌, family_number, Family, family, shown, is_selection_family}
use Rattle.erd_meaning.proofs.Common.{is_selection_elsewhere}
use Rattle.erd_meaning.proofs.finding.Pushed.{families_same}
use Rattle.erd_meaning.proofs.references.SilentWalks.{clear_of_family}
use Rattle.erd_meaning.proofs.report.reference_judge.ReferenceJudge.is_clear_anywhere.Goals as goal

of_another : (f : Family) → (family_number f == family_number family.Selection) ≡ false → is_selection_family f ≡ false
of_another family.Selection e = cc
of_another f e = refl

pub returns-in-Some : goal.returns-in-Some
returns-in-Some c same outer =
    let ks = map shown c.args.self.now.objects.now.objects in
    let own = c.in-Some.own in
    let position = c.in-Some.field-0-1 in
    let found = sym (c.position_on_trail.ensures c.args.self.now.told_apart) ∙ c.in-Some.is in
    let other = of_another c.args.family (sym (families_same c.args.family family.Selection) ∙ sym c.eq.ensures ∙ c.if-eq.false) in
    clear_of_family ks outer c.args.family own c.args.id.now position found (sym (families_same own c.args.family) ∙ sym c.eq-in-Some.ensures ∙ same)
    (ap (λ b. b && is_selection_elsewhere ks outer position) other)
