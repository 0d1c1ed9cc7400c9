use Rattle.erd_meaning.proofs.Common.{◌∙◌}
use Rattle.erd_meaning.proofs.finding.OneObject.{part_at}
use Rattle.erd_meaning.proofs.report.Report.key_at.Goals as goal

pub returns : goal.returns
returns c =
    c.key_at.ensures ∙ part_at c.args.self.now.prefer (λ k. k.key) c.args.self.now.tree c.objects.result.now.objects c.objects.ensures.resolved.0 c.args.family
    c.args.index c.objects.ensures.resolved.1
