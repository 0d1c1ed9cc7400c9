use Rattle.erd_shown.proofs.Common.{false, option_map_or, ap, ◌∙◌, view}
use Rattle.erd_shown.specs.Reworded.{true_of_named}
use Rattle.erd_shown.proofs.named.is_named_at.Goals as goal

pub returns-in-Some : goal.returns-in-Some
returns-in-Some c P all =
    c.is_named.ensures P all ∙ ap (λ o. option_map_or (true_of_named P (view c.args.report.now.tree) c.args.family) o false) c.in-Some.ensures

pub returns-in-None : goal.returns-in-None
returns-in-None c P all = ap (λ o. option_map_or (true_of_named P (view c.args.report.now.tree) c.args.family) o false) c.in-None.ensures
