use Rattle.erd_shown.proofs.Common.{◌≡◌, ℕ, ◌++◌, map, slice_get, sym, ap, ◌∙◌, subst, option_map-Some, codes, view, entries_at, family}
use Rattle.erd_shown.proofs.Common.{HasFittingNumbers, IsTree, IsBounded, IsAccepted, on_ok_weaker, objects, value_tokens}
use Rattle.erd_text.proofs.WholeValues.{whole_list_at}
use Rattle.erd_meaning.specs.Lookups.{selections_before}
use Rattle.erd_shown.specs.WordList.{worded_selections}
use Rattle.erd_shown.specs.code.Selections.{AreNamedFrom}
use Rattle.erd_shown.proofs.Found.{named_from_start}
use Rattle.erd_shown.proofs.word_list.worded_selections.write_selections_at.Goals as goal

pub returns : goal.returns
returns c =
    let π = c.args.report.now.prefer in
    let t = view c.args.report.now.tree in
    let i = c.args.position in
    let same : view c.tree-tree.result.now ≡ t = ap view c.tree-tree.ensures.tree in
    let o = option_map-Some (λ o. o.value) (slice_get (objects family.Contest t) i) (view c.args.contest.now) c.requires.there in
    let entries = c.entries_at-selections.ensures in
    let inside = entries ∙ ap (entries_at (codes "ContestSelection")) (sym o.2) in
    let named =
    named_from_start π t (subst (IsAccepted π) same c.tree-tree.ensures.accepted) (subst IsTree same c.tree-tree.ensures.is_tree)
    (subst HasFittingNumbers same c.tree-tree.ensures.fits) (subst IsBounded same c.tree-tree.ensures.bounded) i o.0 o.1 in
    let there : AreNamedFrom π t c.first_selection-start.result (map view c.entries_at-selections.result.now) =
    subst (λ (s : ℕ). AreNamedFrom π t s (map view c.entries_at-selections.result.now)) (sym c.first_selection-start.ensures)
    (subst (AreNamedFrom π t (selections_before t i)) (sym inside) named) in
    let floats = whole_list_at (codes "ContestSelection") (view c.args.contest.now) c.entries_at-selections.result.now c.requires.whole entries in
    on_ok_weaker c.write_in_order.result
    (λ written. written there floats ∙ ap (λ ds. c.args.out.now ++ value_tokens (worded_selections π t ds)) entries)
    c.write_in_order.ensures
