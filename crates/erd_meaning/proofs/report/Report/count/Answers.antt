use Rattle.erd_meaning.proofs.Common.{◌∙◌}
use Rattle.erd_meaning.proofs.finding.OneObject.{counted}
use Rattle.erd_meaning.proofs.report.Report.count.Goals as goal

pub returns : goal.returns
returns c =
    c.count.ensures ∙ counted c.args.self.now.prefer c.args.self.now.tree c.objects.result.now.objects c.objects.ensures.resolved.0 c.args.family
    c.objects.ensures.resolved.1
