use Rattle.erd_shown.proofs.Common.{◌≡◌, ◌||◌, Some, None, option_map, ap, ap₂, ◌∙◌, same_Some, codes, family, entries_at, view}
use Rattle.erd_shown.specs.Reworded.{is_candidate_reworded, is_reworded, true_of_any_named, true_of_named_at}
use Rattle.erd_shown.proofs.marks.is_contest_reworded.Goals as goal

pub returns-in-Some : goal.returns-in-Some
returns-in-Some c o there =
    let π = c.args.left.now.prefer in
    let t = view c.args.left.now.tree in
    let ρ = c.args.right.now.prefer in
    let u = view c.args.right.now.tree in
    let same = same_Some (view c.in-Some.contest.now) o.value (c.in-Some.ensures.there ∙ ap (option_map (λ o. o.value)) there) in
    let party = c.any_named-party.ensures (is_reworded π t ρ u family.Party) c.requires.parties
    ∙ ap (true_of_any_named (is_reworded π t ρ u family.Party) t family.Party) (c.entries_at.ensures ∙ ap (entries_at (codes "PrimaryPartyIds")) same) in
    let candidate = c.is_named_at-candidate.ensures (is_candidate_reworded π t ρ u) c.requires.candidates
    ∙ ap (true_of_named_at (codes "CandidateId") (is_candidate_reworded π t ρ u) t family.Candidate) same in
    c.any_of.ensures ∙ ap₂ (λ x y. x || y) (c.in_ok-own.ensures o there) (ap₂ (λ x y. x || y) party candidate)

pub returns-in-None : goal.returns-in-None
returns-in-None c o there =
    let clash : None ≡ Some o.value = c.in-None.ensures.there ∙ ap (option_map (λ o. o.value)) there in
    absurd (cc clash)
