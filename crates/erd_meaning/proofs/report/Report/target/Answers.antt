use Rattle.erd_meaning.proofs.Common.{sym, subst, view, FindsId}
use Rattle.erd_meaning.proofs.finding.Found.{finds_id}
use Rattle.erd_meaning.proofs.report.Report.target.Goals as goal

pub returns : goal.returns
returns c =
    subst (FindsId (view c.args.self.now.tree) c.args.id.now) (sym c.position_of_id.ensures)
    (finds_id c.args.self.now.prefer c.args.self.now.tree c.objects.result.now.objects c.objects.ensures.resolved.0 c.args.id.now c.objects.ensures.resolved.1)
