use Rattle.erd_shown.proofs.Common.{◌&&◌, not, ap, ap₂, ◌∙◌, family, view}
use Rattle.erd_shown.specs.BallotLines.{has_same_keys}
use Rattle.erd_shown.specs.Reworded.{is_reworded, true_of_any_named}
use Rattle.erd_shown.proofs.differing_voters.has_same_units.Goals as goal

pub returns : goal.returns
returns c =
    let left = c.args.pair.now.left.now in
    let right = c.args.pair.now.right.now in
    let t = view left.tree in
    let unit = is_reworded left.prefer t right.prefer (view right.tree) family.Unit in
    c.same_words.ensures
    ∙ ap₂ (λ x y. x && not y)
    (c.in_ok-same.ensures ∙ ap₂ (has_same_keys left.prefer t right.prefer (view right.tree) family.Unit) c.entries_at-ones.ensures c.entries_at-others.ensures)
    (c.any_named-reworded.ensures unit (c.deref.ensures.value ∙ c.requires.marks.units) ∙ ap (true_of_any_named unit t family.Unit) c.entries_at-ones.ensures)
