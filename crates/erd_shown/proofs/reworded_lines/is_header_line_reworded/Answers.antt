use Rattle.erd_shown.proofs.Common.{◌∙◌, family, view}
use Rattle.erd_shown.specs.Reworded.{is_reworded}
use Rattle.erd_shown.proofs.reworded_lines.is_header_line_reworded.Goals as goal

pub returns : goal.returns
returns c =
    let π = c.args.left.now.prefer in
    let t = view c.args.left.now.tree in
    let ρ = c.args.right.now.prefer in
    let u = view c.args.right.now.tree in
    c.is_named_at.ensures (is_reworded π t ρ u family.Header) (c.deref.ensures.value ∙ c.requires.marks.headers)
