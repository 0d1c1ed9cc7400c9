use Rattle.erd_shown.proofs.Common.{◌≡◌, ◌||◌, Some, None, option_map, ap, ap₂, ◌∙◌, same_Some, codes, family, view}
use Rattle.erd_shown.specs.Reworded.{is_reworded, true_of_named_at}
use Rattle.erd_shown.proofs.marks.is_candidate_reworded.Goals as goal

pub returns-in-Some : goal.returns-in-Some
returns-in-Some c o there =
    let π = c.args.left.now.prefer in
    let t = view c.args.left.now.tree in
    let ρ = c.args.right.now.prefer in
    let u = view c.args.right.now.tree in
    let same = same_Some (view c.in-Some.candidate.now) o.value (c.in-Some.ensures.there ∙ ap (option_map (λ o. o.value)) there) in
    let party = c.is_named_at-party.ensures (is_reworded π t ρ u family.Party) c.requires.parties
    ∙ ap (true_of_named_at (codes "PartyId") (is_reworded π t ρ u family.Party) t family.Party) same in
    let person = c.is_named_at-person.ensures (is_reworded π t ρ u family.Person) c.requires.persons
    ∙ ap (true_of_named_at (codes "PersonId") (is_reworded π t ρ u family.Person) t family.Person) same in
    c.any_of.ensures ∙ ap₂ (λ x y. x || y) (c.in_ok-own.ensures o there) (ap₂ (λ x y. x || y) party person)

pub returns-in-None : goal.returns-in-None
returns-in-None c o there =
    let clash : None ≡ Some o.value = c.in-None.ensures.there ∙ ap (option_map (λ o. o.value)) there in
    absurd (cc clash)
