use Rattle.erd_shown.proofs.Common.{sym, ap, ◌∙◌, option_map, view}
use Rattle.erd_meaning.proofs.finding.OneObject.{owner_elsewhere, owner_here, owner_nowhere}
use Rattle.erd_shown.proofs.lookups.place_named.Goals as goal

pub returns-then-is_same : goal.returns-then-is_same
returns-then-is_same c =
    ap (option_map (λ o. o.value))
    (sym (owner_here (view c.args.report.now.tree) c.args.family c.args.id.now c.in-Some.found c.in-Some.position c.in-Some.ensures
    (sym c.is_same.ensures ∙ c.if-is_same.true)))

pub returns-else-is_same : goal.returns-else-is_same
returns-else-is_same c =
    ap (option_map (λ o. o.value))
    (sym (owner_elsewhere (view c.args.report.now.tree) c.args.family c.args.id.now c.in-Some.found c.in-Some.position c.in-Some.ensures
    (sym c.is_same.ensures ∙ c.if-is_same.false)))

pub returns-in-None : goal.returns-in-None
returns-in-None c = ap (option_map (λ o. o.value)) (sym (owner_nowhere (view c.args.report.now.tree) c.args.family c.args.id.now c.in-None.ensures))
