use Rattle.erd_meaning.proofs.Common.{◌∙◌, names_of}
use Rattle.erd_meaning.proofs.selections.RankedReports.{rank_same_at}
use Rattle.erd_meaning.proofs.report.Report.rank_at.Goals as goal

pub returns : goal.returns
returns c =
    let i = c.indexes.result.now in
    c.rank_at.ensures ∙ rank_same_at c.args.self.now.prefer c.args.self.now.tree i.objects.objects (names_of i.names.keys) c.indexes.ensures.resolved
    c.args.family c.requires.keyed c.args.position
