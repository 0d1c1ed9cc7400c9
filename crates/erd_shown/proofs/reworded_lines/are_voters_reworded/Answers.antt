use Rattle.erd_shown.proofs.Common.{◌||◌, ap, ap₂, ◌∙◌, family, view}
use Rattle.erd_shown.specs.Reworded.{is_reworded, true_of_any_named}
use Rattle.erd_shown.proofs.reworded_lines.are_voters_reworded.Goals as goal

pub returns : goal.returns
returns c =
    let π = c.args.left.now.prefer in
    let t = view c.args.left.now.tree in
    let ρ = c.args.right.now.prefer in
    let u = view c.args.right.now.tree in
    let party = is_reworded π t ρ u family.Party in
    let unit = is_reworded π t ρ u family.Unit in
    c.one_of.ensures
    ∙ ap₂ (λ x y. x || y)
    (c.any_named-party.ensures party (c.deref.ensures.value ∙ c.requires.marks.parties)
    ∙ ap (true_of_any_named party t family.Party) c.entries_at-parties.ensures)
    (c.any_named-unit.ensures unit (c.deref-2.ensures.value ∙ c.requires.marks.units) ∙ ap (true_of_any_named unit t family.Unit) c.entries_at-units.ensures)
