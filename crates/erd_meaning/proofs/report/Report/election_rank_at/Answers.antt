use Rattle.erd_meaning.proofs.Common.{◌∙◌, view}
use Rattle.erd_meaning.proofs.finding.ElectionsHeld.{election_rank}
use Rattle.erd_meaning.proofs.report.Report.election_rank_at.Goals as goal

pub returns : goal.returns
returns c = c.rank_at.ensures ∙ election_rank c.args.self.now.prefer (view c.args.self.now.tree) c.elections.result.now.order.ranks.items c.args.position
    c.elections.ensures.ordered.ranked
