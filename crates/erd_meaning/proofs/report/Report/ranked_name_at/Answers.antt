use Rattle.erd_meaning.proofs.Common.{◌∙◌}
use Rattle.erd_meaning.proofs.selections.RankedReports.{ranked_there}
use Rattle.erd_meaning.proofs.report.Report.ranked_name_at.Goals as goal

pub returns : goal.returns
returns c =
    let indexes = c.indexes.result.now in
    c.in_ok-contest.ensures ∙ ranked_there c.args.self.now.prefer c.args.self.now.tree indexes.objects.objects indexes.names.keys c.indexes.ensures.resolved
    c.indexes.ensures.ranked c.args.index
