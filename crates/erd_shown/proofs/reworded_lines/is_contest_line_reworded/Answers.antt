use Rattle.erd_shown.proofs.Common.{◌||◌, ap₂, ◌∙◌, view}
use Rattle.erd_shown.specs.Reworded.{is_contest_reworded}
use Rattle.erd_shown.proofs.reworded_lines.is_contest_line_reworded.Goals as goal

pub returns : goal.returns
returns c =
    let π = c.args.left.now.prefer in
    let t = view c.args.left.now.tree in
    let ρ = c.args.right.now.prefer in
    let u = view c.args.right.now.tree in
    let contest = is_contest_reworded π t ρ u in
    c.one_of.ensures
    ∙ ap₂ (λ x y. x || y)
    (c.is_named_at-contest.ensures contest (c.deref.ensures.value ∙ c.requires.marks.contests))
    c.are_selections_reworded-selections.ensures
