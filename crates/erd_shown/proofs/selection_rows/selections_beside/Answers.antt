use Rattle.erd_shown.proofs.Common.{◌≡◌, ℕ, List, Option, Bool, map, refl, ap, ap₂, ◌∙◌, subst, view, Bor, eq_by_cmp, NameParts, Ordering, name_cmp}
use Rattle.erd_shown.proofs.PartnerLists.{partners_for}
use Rattle.erd_shown.specs.ListedNames.{names_in_order, names_on}
use Rattle.erd_shown.specs.Partners.{partners}
use Rattle.erd_shown.specs.Rows.{AreRows}
use Rattle.erd_shown.specs.code.LentNames.{lent}
use Rattle.erd_shown.proofs.selection_rows.selections_beside.Goals as goal

abbrev lent_cmp : Bor NameParts → Bor NameParts → Ordering
lent_cmp a b = name_cmp a.now b.now

pub returns : goal.returns
returns c =
    let same = eq_by_cmp name_cmp in
    let ones = c.in_ok-lefts.lefts.items in
    let others = c.in_ok-rights.rights.items in
    let rows = c.in_ok-rows.rows.items in
    let one : c.deref.result.now ≡ ones = c.deref.ensures.value in
    let other : c.deref-2.result.now ≡ others = c.deref-2.ensures.value in
    let here =
    ap₂ (partners (eq_by_cmp lent_cmp)) one other ∙ partners_for lent (eq_by_cmp lent_cmp) same (λ a b. refl) ones others in
    let there =
    ap₂ (partners (eq_by_cmp lent_cmp)) other one ∙ partners_for lent (eq_by_cmp lent_cmp) same (λ a b. refl) others ones in
    record {
      left_names =
          c.in_ok-lefts.ensures ∙ ap (λ (b : Bool). names_in_order b (names_on c.args.left.now.prefer (view c.args.left.now.tree) (view c.args.one.now)))
          c.are_listed-both_listed.ensures;
      right_names =
          c.in_ok-rights.ensures ∙ ap (λ (b : Bool). names_in_order b (names_on c.args.right.now.prefer (view c.args.right.now.tree) (view c.args.other.now)))
          c.are_listed-both_listed.ensures;
      are_rows =
          subst (λ (xs : List (Option ℕ)). AreRows (partners same (map lent ones) (map lent others)) xs rows) there
          (subst (λ (xs : List (Option ℕ)). AreRows xs (partners (eq_by_cmp lent_cmp) c.deref-2.result.now c.deref.result.now) rows) here c.in_ok-rows.ensures);
    }
