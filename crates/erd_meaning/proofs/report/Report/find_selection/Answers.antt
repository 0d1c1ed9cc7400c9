use Rattle.erd_meaning.proofs.Common.{◌≡◌, map, position, sym, ◌∙◌, names_of, is_selection_named, shown}
use Rattle.erd_meaning.proofs.finding.FoundSelections.{selection_found}
use Rattle.erd_meaning.proofs.selections.RankedTests.{position_sought}
use Rattle.erd_meaning.proofs.report.Report.find_selection.Goals as goal

pub returns : goal.returns
returns c =
    let indexes = c.indexes-indexes.result.now in
    let found : position (is_selection_named c.args.contest c.args.name.now) (names_of indexes.names.keys) ≡ c.position.result =
    sym (c.position.ensures ∙ position_sought (map shown indexes.objects.objects) c.args.contest c.args.name.now indexes.names.keys
    c.indexes-indexes.ensures.ranked) in
    selection_found c.args.self.now.prefer c.args.self.now.tree indexes.objects.objects (names_of indexes.names.keys) c.args.contest c.args.name.now
    c.position.result c.indexes-indexes.ensures.resolved found
