use Rattle.erd_compare.proofs.Common.{sym, ap, ◌∙◌, option_copied, view, meaning}
use Rattle.erd_compare.specs.SelectionDifferences.{selections_with_key}
use Rattle.erd_compare.proofs.contest_selections.ContestRecords.{with_key}
use Rattle.erd_compare.proofs.detailed.contest_with_key.Goals as goal

pub returns : goal.returns
returns c =
    with_key c.args.report.now c.requires c.in_ok-key.field-0.now c.find.result c.find.ensures
    ∙ ap (λ k. selections_with_key (meaning c.args.report.now.prefer (view c.args.report.now.tree)) (option_copied k)) (sym c.in_ok-key.was)
