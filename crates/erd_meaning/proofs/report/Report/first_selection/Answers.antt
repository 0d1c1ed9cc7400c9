use Rattle.erd_meaning.proofs.Common.{ap, ◌∙◌, subst, view, contests_before, IsStart}
use Rattle.erd_meaning.proofs.selections.ContestSelections.{start_counted, contests_counted_in}
use Rattle.erd_meaning.proofs.report.Report.first_selection.Goals as goal

pub returns : goal.returns
returns c =
    let t = view c.args.self.now.tree in
    start_counted t c.args.contest c.first_selection.result
    (subst (λ ns. IsStart ns c.args.contest c.first_selection.result)
    (ap (contests_before 0) c.objects.ensures.resolved.1.kept ∙ contests_counted_in c.args.self.now.prefer t) c.first_selection.ensures)
