use Rattle.erd_compare.proofs.Common.{Some, option_map, sym, ap, ◌∙◌, ap₂, numbered_parts}
use Rattle.erd_compare.proofs.same_ranks.NameNumbers.{told_at, told_name}
use Rattle.erd_compare.proofs.ranks.name_numbers.name_at.Goals as goal

pub returns-in_ok-ranks-in-Some : goal.returns-in_ok-ranks-in-Some
returns-in_ok-ranks-in-Some c =
    let a = c.args.report.now in
    let common = c.args.common.now in
    ap Some (ap₂ numbered_parts (c.of.ensures.name ∙ c.name.ensures) (c.of.ensures.ranks ∙ c.in_ok-ranks-in-Some.ensures))
    ∙ (sym (ap (option_map (told_name a common c.args.side)) (sym c.ranked_name_at.ensures ∙ ap (option_map (λ s. (s.0, s.1.now))) c.in-Some.is))
    ∙ told_at a common c.args.side c.args.position)

pub returns-in-None : goal.returns-in-None
returns-in-None c =
    let a = c.args.report.now in
    let common = c.args.common.now in
    sym (ap (option_map (told_name a common c.args.side)) (sym c.ranked_name_at.ensures ∙ ap (option_map (λ s. (s.0, s.1.now))) c.in-None.is))
    ∙ told_at a common c.args.side c.args.position
