use Rattle.erd_meaning.proofs.Common.{map, ap, ◌∙◌, names_of}
use Rattle.erd_meaning.proofs.selections.PositionedKeys.{KeyPosition}
use Rattle.erd_meaning.proofs.selections.RankedReports.{rising_same}
use Rattle.erd_meaning.proofs.report.Report.rising.Goals as goal

pub returns : goal.returns
returns c =
    let i = c.indexes.result.now in
    c.rising.ensures
    ∙ ap (map (λ (p : KeyPosition). p.1)) (rising_same c.args.self.now.prefer c.args.self.now.tree i.objects.objects (names_of i.names.keys)
    c.indexes.ensures.resolved c.args.family)
