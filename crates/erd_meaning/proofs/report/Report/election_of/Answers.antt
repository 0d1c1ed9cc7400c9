use Rattle.erd_meaning.proofs.Common.{◌∙◌, view}
use Rattle.erd_meaning.proofs.finding.ElectionsHeld.{held}
use Rattle.erd_meaning.proofs.finding.OneObject.{part_at}
use Rattle.erd_meaning.proofs.report.Report.election_of.Goals as goal

pub returns : goal.returns
returns c =
    c.election_of.ensures ∙ part_at c.args.self.now.prefer (λ k. k.election) c.args.self.now.tree c.objects.result.now.objects c.objects.ensures.resolved.0
    c.args.family c.args.index c.objects.ensures.resolved.1 ∙ held c.args.family (view c.args.self.now.tree) c.args.index
