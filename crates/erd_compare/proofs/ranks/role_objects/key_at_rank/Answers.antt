use Rattle.erd_compare.proofs.Common.{slice_get, Some, option_map, sym, ap, ◌∙◌, view, key_in_role}
use Rattle.erd_compare.proofs.least_difference.RisingKeys.{keys_at}
use Rattle.erd_compare.proofs.ranks.role_objects.key_at_rank.Goals as goal

pub returns-in-Some : goal.returns-in-Some
returns-in-Some c =
    let π = c.args.report.now.prefer in
    let t = view c.args.report.now.tree in
    let r = c.args.role in
    ap Some c.key_at.ensures
    ∙ (ap (option_map (key_in_role π r t)) (c.in-Some.ensures ∙ ap (λ ks. slice_get ks c.args.rank) c.rising.ensures)
    ∙ sym (keys_at π t r c.requires.ranked c.args.rank))

pub returns-in-None : goal.returns-in-None
returns-in-None c =
    let π = c.args.report.now.prefer in
    let t = view c.args.report.now.tree in
    let r = c.args.role in
    ap (option_map (key_in_role π r t)) (c.in-None.ensures ∙ ap (λ ks. slice_get ks c.args.rank) c.rising.ensures)
    ∙ sym (keys_at π t r c.requires.ranked c.args.rank)
