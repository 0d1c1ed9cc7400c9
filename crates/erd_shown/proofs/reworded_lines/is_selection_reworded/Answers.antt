use Rattle.erd_shown.proofs.Common.{◌||◌, ap, ap₂, ◌∙◌, family, view}
use Rattle.erd_shown.specs.Reworded.{is_candidate_reworded, is_reworded, true_of_any_named}
use Rattle.erd_shown.proofs.reworded_lines.is_selection_reworded.Goals as goal

pub returns : goal.returns
returns c =
    let π = c.args.left.now.prefer in
    let t = view c.args.left.now.tree in
    let ρ = c.args.right.now.prefer in
    let u = view c.args.right.now.tree in
    let candidate = is_candidate_reworded π t ρ u in
    let party = is_reworded π t ρ u family.Party in
    let one = c.any_named-candidate.ensures candidate (c.deref.ensures.value ∙ c.requires.marks.candidates)
    ∙ ap (true_of_any_named candidate t family.Candidate) c.entries_at-candidates.ensures in
    let two = c.any_named-party.ensures party (c.deref-2.ensures.value ∙ c.requires.marks.parties)
    ∙ ap (true_of_any_named party t family.Party) c.entries_at-parties.ensures in
    let three = c.any_named-endorsement.ensures party (c.deref-3.ensures.value ∙ c.requires.marks.parties)
    ∙ ap (true_of_any_named party t family.Party) c.entries_at-endorsing.ensures in
    c.any_of.ensures ∙ ap₂ (λ x y. x || y) one (ap₂ (λ x y. x || y) two three)
