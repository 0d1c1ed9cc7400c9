use Rattle.erd_meaning.proofs.Common.{sym, subst, view, FindsKey}
use Rattle.erd_meaning.proofs.finding.Found.{finds_key}
use Rattle.erd_meaning.proofs.report.Report.find.Goals as goal

pub returns : goal.returns
returns c =
    subst (FindsKey c.args.self.now.prefer (view c.args.self.now.tree) c.args.family c.args.key.now) (sym c.position_of_key.ensures)
    (finds_key c.args.self.now.prefer c.args.self.now.tree c.objects.result.now.objects c.objects.ensures.resolved.0 c.args.family c.args.key.now
    c.objects.ensures.resolved.1)
