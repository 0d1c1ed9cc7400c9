use Rattle.std.proofs.Common.{◌≡◌, ℕ, List, Option, IfOk, nat_cmp, sym, ap₂, ◌∙◌, subst}
use Rattle.std.specs.Ordering.{eq_by_cmp}
use Rattle.erd_shown.specs.Partners.{partners}
use Rattle.erd_shown.specs.Rows.{AreRows}
use Rattle.erd_shown.proofs.NumberLists.{partners_back, partners_here}
use Rattle.erd_shown.proofs.beside.rows_between.Goals as goal

pub returns : goal.returns
returns g c =
    let same = eq_by_cmp g.K.Ord.cmp in
    let by_number = partners (eq_by_cmp nat_cmp) in
    let left = c.args.left.now in
    let right = c.args.right.now in
    let ones = c.in_ok-ones.ones.items in
    let others = c.in_ok-ones.others.items in
    let here : c.deref-6.result.now ≡ partners same left right =
    c.deref-6.ensures.value ∙ c.in_ok-here.ensures ∙ ap₂ by_number c.deref.ensures.value c.deref-2.ensures.value
    ∙ sym (partners_here same left right ones others c.in_ok-ones.ensures) in
    let there : c.deref-7.result.now ≡ partners same right left =
    c.deref-7.ensures.value ∙ c.in_ok-there.ensures ∙ ap₂ by_number c.deref-3.ensures.value c.deref-4.ensures.value
    ∙ sym (partners_back same left right ones others c.in_ok-ones.ensures) in
    subst (λ (xs : List (Option ℕ)). IfOk c.rows_of.result (λ rows. AreRows (partners same left right) xs rows.items)) there
    (subst (λ (xs : List (Option ℕ)). IfOk c.rows_of.result (λ rows. AreRows xs c.deref-7.result.now rows.items)) here c.rows_of.ensures)
