use Rattle.erd_meaning.proofs.Common.{map, ap, ◌∙◌, option_cmp, view, key_cmp, key_of, Placed, elections, rising_list}
use Rattle.erd_meaning.proofs.selections.PositionedKeys.{KeyPosition, positioned_made}
use Rattle.erd_meaning.proofs.report.Report.rising_elections.Goals as goal

pub returns : goal.returns
returns c =
    let π = c.args.self.now.prefer in
    let t = view c.args.self.now.tree in
    c.deref.ensures.value ∙ c.elections.ensures.ordered.rises
    ∙ ap (map (λ (p : KeyPosition). p.1))
    (ap (rising_list (λ a b. option_cmp key_cmp a.0 b.0)) (positioned_made (λ (e : Placed). key_of π e.value) 0 (elections t)))
