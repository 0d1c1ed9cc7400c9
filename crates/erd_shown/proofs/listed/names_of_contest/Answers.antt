use Rattle.erd_shown.proofs.Common.{◌≡◌, ℕ, [], map, slice_get, sym, ap, ◌∙◌, subst, option_map, option_map-Some, codes, view, entries_at, family}
use Rattle.erd_shown.proofs.Common.{HasFittingNumbers, IsTree, IsBounded, IsAccepted, IfOk-weaker, objects}
use Rattle.std.specs.Option.{option_map_or}
use Rattle.erd_meaning.specs.Lookups.{selections_before}
use Rattle.erd_shown.specs.ListedNames.{sorted_names}
use Rattle.erd_shown.specs.code.Selections.{AreNamedFrom}
use Rattle.erd_shown.proofs.Found.{named_from_start}
use Rattle.erd_shown.proofs.listed.names_of_contest.Goals as goal

pub returns-in-Some : goal.returns-in-Some
returns-in-Some c =
    let π = c.args.report.now.prefer in
    let t = view c.args.report.now.tree in
    let i = c.args.position in
    let same : view c.tree-tree.result.now ≡ t = ap view c.tree-tree.ensures.tree in
    let o = option_map-Some (λ o. o.value) (slice_get (objects family.Contest t) i) (view c.in-Some.contest.now) (sym c.in-Some.ensures) in
    let entries = c.entries_at.ensures ∙ ap (entries_at (codes "ContestSelection")) (sym o.2) in
    let named =
    named_from_start π t (subst (IsAccepted π) same c.tree-tree.ensures.accepted) (subst IsTree same c.tree-tree.ensures.is_tree)
    (subst HasFittingNumbers same c.tree-tree.ensures.fits) (subst IsBounded same c.tree-tree.ensures.bounded) i o.0 o.1 in
    let there : AreNamedFrom π t c.first_selection-start.result (map view c.entries_at.result.now) =
    subst (λ (s : ℕ). AreNamedFrom π t s (map view c.entries_at.result.now)) (sym c.first_selection-start.ensures)
    (subst (AreNamedFrom π t (selections_before t i)) (sym entries) named) in
    IfOk-weaker c.sorted_names.result _ _
    (λ names are.
    are there
    ∙ ap (sorted_names π t) (entries ∙ ap (λ x. option_map_or (entries_at (codes "ContestSelection")) (option_map (λ o. o.value) x) []) (sym o.1)))
    c.sorted_names.ensures
