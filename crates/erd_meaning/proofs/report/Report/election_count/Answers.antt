use Rattle.erd_meaning.proofs.Common.{[], ◌∷◌, length, codes, ap, ◌∙◌, view, Name, Judged, elections}
use Rattle.erd_meaning.proofs.finding.ElectionsHeld.{as_many}
use Rattle.erd_meaning.proofs.report.Report.election_count.Goals as goal

pub returns : goal.returns
returns c =
    as_many (Name (codes "Election") ∷ []) c.entries_at.result.now c.entries_at.ensures ∙ ap (λ (r : Judged). length (elections (view r.tree))) c.self.view_is
