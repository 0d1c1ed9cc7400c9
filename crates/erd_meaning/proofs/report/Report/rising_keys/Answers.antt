use Rattle.erd_meaning.proofs.Common.{◌≡◌, map, ◌∙◌, IfOk-weaker, view, rising_keys, seen_keys, rising_keys_among, names_of, shown}
use Rattle.erd_meaning.proofs.selections.RankedReports.{rising_same}
use Rattle.erd_meaning.proofs.report.Report.rising_keys.Goals as goal

pub returns : goal.returns
returns c =
    let π = c.args.self.now.prefer in
    let v = c.args.self.now.tree in
    let os = c.indexes.result.now.objects.objects in
    IfOk-weaker c.rising_keys.result (λ rising. seen_keys rising.items ≡ rising_keys_among (map shown os) c.args.family)
    (λ rising. seen_keys rising.items ≡ rising_keys π (view v) c.args.family)
    (λ rising is. is ∙ rising_same π v os (names_of c.indexes.result.now.names.keys) c.indexes.ensures.resolved c.args.family)
    c.rising_keys.ensures
