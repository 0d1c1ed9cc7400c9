use Rattle.erd_compare.proofs.Common.{◌≡◌, ℕ, true, slice_get, Some, Option, option_map, sym, ap, ◌∙◌, view, Role, has_keys, key_in, elections, rank_in_keys}
use Rattle.erd_compare.proofs.Common.{keys_in_role, key_in_role, is_ranked}
use Rattle.erd_compare.proofs.least_difference.RisingKeys.{election_ranks, family_ranks}
use Rattle.erd_compare.proofs.ranks.role_objects.rank_at.Goals as goal

pub returns-in-OfFamily : goal.returns-in-OfFamily
returns-in-OfFamily c =
    let π = c.args.report.now.prefer in
    let t = view c.args.report.now.tree in
    let f = c.in-OfFamily.family in
    let keyed : has_keys f ≡ true = ap is_ranked (sym c.in-OfFamily.is) ∙ c.requires.ranked in
    let told : Role → Option ℕ = λ r. option_map (λ key. rank_in_keys (keys_in_role π t r) (Some key)) (key_in_role π r t c.args.position) in
    c.rank_at.ensures ∙ (family_ranks π t f (key_in π f t c.args.position) keyed ∙ ap told (sym c.in-OfFamily.is))

pub returns-in_ok-election_key-in-Election : goal.returns-in_ok-election_key-in-Election
returns-in_ok-election_key-in-Election c =
    let π = c.args.report.now.prefer in
    let t = view c.args.report.now.tree in
    let told : Role → Option ℕ = λ r. option_map (λ key. rank_in_keys (keys_in_role π t r) (Some key)) (key_in_role π r t c.args.position) in
    c.election_rank_at.ensures
    ∙ (election_ranks π t (slice_get (elections t) c.args.position) c.in_ok-election_key-in-Election.field-0.now (sym c.in_ok-election_key-in-Election.ensures)
    ∙ ap told (sym c.in-Election.is))
