use Rattle.erd_compare.proofs.Common.{◌≡◌, None, Some, option_map, refl, sym, ap, ◌∙◌, subst, ℕ, Bor, NameParts, Judged, Placed, objects, family, slice_get}
use Rattle.erd_compare.proofs.Common.{same_Some, view}
use Rattle.erd_meaning.specs.Lookups.{selection_in}
use Rattle.erd_compare.proofs.contest_selections.SelectionsByNumber.{name_found, named_found, numbered_there, value_found}
use Rattle.erd_compare.proofs.inside.numbered.selection_at.Goals as goal

pub returns-in_err-name-clause-found : goal.returns-in_err-name-clause-found
returns-in_err-name-clause-found c =
    let a = c.args.comparer.now.left in
    let b = c.args.comparer.now.right in
    let i = c.args.position in
    let k = c.in_ok-number.number in
    let h = numbered_there a b c.args.side i k c.in_ok-number.ensures in
    let told =
    subst (λ (x : Judged). option_map {U = ℕ × NameParts} (λ (s : ℕ × Bor NameParts). (s.0, s.1.now)) c.selection_at.result ≡ selection_in x.prefer
    (view x.tree) i) c.on-report.ensures.same c.selection_at.ensures in
    let clash : None ≡ Some h.name = sym (ap (option_map (λ (s : ℕ × Bor NameParts). s.1.now)) c.in_err-name.was)
    ∙ name_found a b c.args.side i k h c.selection_at.result told in
    cc

pub returns-clause-named : goal.returns-clause-named
returns-clause-named c =
    let a = c.args.comparer.now.left in
    let b = c.args.comparer.now.right in
    let i = c.args.position in
    let k = c.in_ok-number.number in
    let h = numbered_there a b c.args.side i k c.in_ok-number.ensures in
    let told =
    subst (λ (x : Judged). option_map {U = ℕ × NameParts} (λ (s : ℕ × Bor NameParts). (s.0, s.1.now)) c.selection_at.result ≡ selection_in x.prefer
    (view x.tree) i) c.on-report.ensures.same c.selection_at.ensures in
    let seen =
    subst (λ (x : Judged). option_map (λ v. view v.now) c.object.result ≡ option_map (λ (o : Placed). o.value)
    (slice_get (objects family.Selection (view x.tree)) i)) c.on-report.ensures.same c.object.ensures in
    let name = sym (ap (option_map (λ (s : ℕ × Bor NameParts). s.1.now)) c.in_ok-name.was) ∙ name_found a b c.args.side i k h c.selection_at.result told in
    let value = sym (ap (option_map (λ v. view v.now)) c.in_ok-value.was) ∙ value_found a b c.args.side i k h _ seen in
    named_found a b c.args.side i k h c.on-report.ensures.comparable _ (same_Some c.in_ok-name.name.now h.name name)
    (same_Some (view c.in_ok-value.value.now) h.object.value value) refl
