use Rattle.erd_shown.proofs.Common.{false, option_map_or, ap, ◌∙◌, view}
use Rattle.erd_shown.specs.Reworded.{is_selection_reworded}
use Rattle.erd_shown.proofs.reworded_lines.is_listed_reworded.Goals as goal

pub returns-in-Some : goal.returns-in-Some
returns-in-Some c =
    let π = c.args.left.now.prefer in
    let t = view c.args.left.now.tree in
    let ρ = c.args.right.now.prefer in
    let u = view c.args.right.now.tree in
    c.is_selection_reworded.ensures ∙ ap (λ o. option_map_or (is_selection_reworded π t ρ u) o false) c.in-Some.ensures.there

pub returns-in-None : goal.returns-in-None
returns-in-None c =
    let π = c.args.left.now.prefer in
    let t = view c.args.left.now.tree in
    let ρ = c.args.right.now.prefer in
    let u = view c.args.right.now.tree in
    ap (λ o. option_map_or (is_selection_reworded π t ρ u) o false) c.in-None.ensures.there
