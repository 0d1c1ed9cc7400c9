use Rattle.erd_meaning.proofs.Common.{◌≡◌, ◌∙◌, rules, ranked_name_cmp}
use Rattle.erd_meaning.proofs.selections.RankedReports.{names_in_order}
use Rattle.erd_meaning.proofs.names.ranked_name.RankedName.compare.Goals as goal

pub returns-clause-names : goal.returns-clause-names
returns-clause-names g c π t h k =
    let one = c.args.self.now in
    let other = c.args.other.now in
    let by_ranks : c.compare_numbered.result ≡ ranked_name_cmp one other = search rules in
    by_ranks ∙ names_in_order π t one other h k
