use Rattle.erd_meaning.proofs.Common.{◌≡◌, slice_get, Some, Option, option_map, sym, refl, ap, ◌∙◌, slice_get_read, view, Value, Judged, Placed, elections}
use Rattle.erd_meaning.proofs.finding.ElectionsHeld.{election_value, some_election}
use Rattle.erd_meaning.proofs.accepted.OneResolved.{one_resolved}
use Rattle.erd_meaning.proofs.report.Report.election.Goals as goal

pub bounds-entries_at-0 : goal.bounds-entries_at-0
bounds-entries_at-0 c =
    some_election (view c.self.inside.tree.now)
    (one_resolved c.self.inside.prefer c.self.inside.tree.now c.self.inside.indexes.items c.self.invariant).1.1.faultless
    c.entries_at.result.now c.entries_at.ensures

pub returns : goal.returns
returns c =
    let vs = c.entries_at.result.now in
    let filled = some_election (view c.self.inside.tree.now)
    (one_resolved c.self.inside.prefer c.self.inside.tree.now c.self.inside.indexes.items c.self.invariant).1.1.faultless vs c.entries_at.ensures in
    let first : slice_get vs 0 ≡ Some c.index-entries_at-0.result = slice_get_read vs _ 0 c.index-entries_at-0.result refl filled c.index-entries_at-0.is in
    ap (λ (r : Judged). option_map (λ (o : Placed). o.value) (slice_get (elections (view r.tree)) 0)) (sym c.self.view_is)
    ∙ sym (election_value (view c.self.inside.tree.now) vs 0 c.entries_at.ensures) ∙ ap (λ (o : Option Value). option_map view o) first
