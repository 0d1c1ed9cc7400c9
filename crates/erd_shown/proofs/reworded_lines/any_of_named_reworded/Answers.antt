use Rattle.erd_shown.proofs.Common.{[], list_any, option_map_or, codes, ap, ◌∙◌, entries_at, view}
use Rattle.erd_shown.specs.Reworded.{is_selection_reworded}
use Rattle.erd_shown.proofs.reworded_lines.any_of_named_reworded.Goals as goal

pub returns-in-Some : goal.returns-in-Some
returns-in-Some c =
    let π = c.args.left.now.prefer in
    let t = view c.args.left.now.tree in
    let ρ = c.args.right.now.prefer in
    let u = view c.args.right.now.tree in
    c.any_reworded.ensures
    ∙ ap (list_any (is_selection_reworded π t ρ u)) (c.entries_at-selections.ensures ∙ ap (λ o. option_map_or (entries_at (codes "ContestSelection")) o [])
    c.in-Some.ensures.there)

pub returns-in-None : goal.returns-in-None
returns-in-None c =
    let π = c.args.left.now.prefer in
    let t = view c.args.left.now.tree in
    let ρ = c.args.right.now.prefer in
    let u = view c.args.right.now.tree in
    ap (λ o. list_any (is_selection_reworded π t ρ u) (option_map_or (entries_at (codes "ContestSelection")) o [])) c.in-None.ensures.there
