use Rattle.erd_text.proofs.Common.{ℕ, List, Option, map, ap, ap₂, ◌∙◌, subst, view}
use Rattle.std.specs.Prelude.{IfOk}
use Rattle.std.specs.Ordering.{eq_by_cmp}
use Rattle.erd_shown.proofs.PartnerLists.{partners_for}
use Rattle.erd_shown.proofs.Things.{lent_thing_cmp, same_thing}
use Rattle.erd_shown.specs.Partners.{partners}
use Rattle.erd_shown.specs.RowData.{thing_cmp}
use Rattle.erd_shown.specs.Rows.{AreRows}
use Rattle.erd_shown.specs.code.LineLists.{of_thing}
use Rattle.erd_shown.specs.code.LineTexts.{things_in}
use Rattle.erd_shown.proofs.ballots_beside.rows_of_lines.Goals as goal

pub returns : goal.returns
returns c =
    let same = eq_by_cmp thing_cmp in
    let ones = c.deref.result.now in
    let others = c.deref-2.result.now in
    let left = ap (map of_thing) c.deref.ensures.value ∙ c.in_ok-left_things.ensures in
    let right = ap (map of_thing) c.deref-2.ensures.value ∙ c.in_ok-right_things.ensures in
    let here = partners_for of_thing (eq_by_cmp lent_thing_cmp) same same_thing ones others ∙ ap₂ (partners same) left right in
    let there = partners_for of_thing (eq_by_cmp lent_thing_cmp) same same_thing others ones ∙ ap₂ (partners same) right left in
    let lefts = things_in c.args.left.now.prefer (view c.args.left.now.tree) c.args.ones.now in
    let rights = things_in c.args.right.now.prefer (view c.args.right.now.tree) c.args.others.now in
    subst (λ (xs : List (Option ℕ)). IfOk c.rows_between.result (λ rows. AreRows (partners same lefts rights) xs rows.items)) there
    (subst (λ (xs : List (Option ℕ)). IfOk c.rows_between.result (λ rows. AreRows xs (partners (eq_by_cmp lent_thing_cmp) others ones) rows.items)) here
    c.rows_between.ensures)
