use Rattle.erd_meaning.proofs.Common.{map, sym, subst, view, FindsId, shown}
use Rattle.erd_meaning.proofs.finding.Found.{finds_id, own_ids}
use Rattle.erd_meaning.proofs.report.Report.target_of.Goals as goal

pub returns : goal.returns
returns c =
    let t = view c.args.self.now.tree in
    let resolved = c.objects.ensures.resolved.1 in
    let own = own_ids c.args.self.now.prefer t (map shown c.objects.result.now.objects) resolved.kept resolved.identified in
    subst (FindsId t c.args.id.now) (sym (c.position_on_trail.ensures own))
    (finds_id c.args.self.now.prefer c.args.self.now.tree c.objects.result.now.objects c.objects.ensures.resolved.0 c.args.id.now resolved)
