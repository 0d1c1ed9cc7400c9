use Rattle.erd_meaning.proofs.Common.{slice_get, option_map, ap, ◌∙◌, view, Judged, Placed, elections}
use Rattle.erd_meaning.proofs.finding.ElectionsHeld.{election_value}
use Rattle.erd_meaning.proofs.report.Report.election_at.Goals as goal

pub returns : goal.returns
returns c =
    c.value_at.ensures ∙ election_value (view c.self.inside.tree.now) c.entries_at.result.now c.args.index c.entries_at.ensures
    ∙ ap (λ (r : Judged). option_map (λ (o : Placed). o.value) (slice_get (elections (view r.tree)) c.args.index)) c.self.view_is
