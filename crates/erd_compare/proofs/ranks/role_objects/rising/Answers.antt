use Rattle.erd_compare.proofs.Common.{sym, ap, ◌∙◌, view, rising_positions, keys_in_role}
use Rattle.erd_compare.proofs.least_difference.RisingKeys.{election_positions, family_positions}
use Rattle.erd_compare.proofs.ranks.role_objects.rising.Goals as goal

pub returns-in-OfFamily : goal.returns-in-OfFamily
returns-in-OfFamily c =
    let π = c.args.report.now.prefer in
    let t = view c.args.report.now.tree in
    c.rising.ensures ∙ (family_positions π t c.in-OfFamily.family ∙ ap (λ r. rising_positions (keys_in_role π t r)) (sym c.in-OfFamily.is))

pub returns-in-Election : goal.returns-in-Election
returns-in-Election c =
    let π = c.args.report.now.prefer in
    let t = view c.args.report.now.tree in
    c.rising_elections.ensures ∙ (election_positions π t ∙ ap (λ r. rising_positions (keys_in_role π t r)) (sym c.in-Election.is))
