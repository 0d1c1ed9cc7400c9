use Rattle.erd_shown.proofs.Common.{false, option_and_then, option_map_or, ap, ◌∙◌, owner, view}
use Rattle.erd_shown.proofs.named.is_named.Goals as goal

pub returns-in-Some : goal.returns-in-Some
returns-in-Some c P all =
    c.is_owner_marked.ensures P all ∙ ap (λ o. option_map_or P (option_and_then (owner (view c.args.report.now.tree) c.args.family) o) false) c.in-Some.ensures

pub returns-in-None : goal.returns-in-None
returns-in-None c P all = ap (λ o. option_map_or P (option_and_then (owner (view c.args.report.now.tree) c.args.family) o) false) c.in-None.ensures
