use Rattle.erd_shown.proofs.Common.{sym, ◌∙◌, view}
use Rattle.erd_shown.proofs.Found.{name_elsewhere, name_found, name_nowhere}
use Rattle.erd_shown.proofs.lookups.name_named.Goals as goal

pub returns-then-is_same : goal.returns-then-is_same
returns-then-is_same c =
    c.name_at.ensures
    ∙ name_found c.args.report.now.prefer (view c.args.report.now.tree) c.args.id.now c.in-Some.found c.in-Some.position c.in-Some.ensures
    (sym c.is_same.ensures ∙ c.if-is_same.true)

pub returns-else-is_same : goal.returns-else-is_same
returns-else-is_same c =
    name_elsewhere c.args.report.now.prefer (view c.args.report.now.tree) c.args.id.now c.in-Some.found c.in-Some.position c.in-Some.ensures
    (sym c.is_same.ensures ∙ c.if-is_same.false)

pub returns-in-None : goal.returns-in-None
returns-in-None c = name_nowhere c.args.report.now.prefer (view c.args.report.now.tree) c.args.id.now c.in-None.ensures
