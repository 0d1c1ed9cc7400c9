use Rattle.erd_meaning.proofs.Common.{List, slice_get, Option, option_and_then, ap, ◌∙◌, view, Key}
use Rattle.erd_meaning.proofs.finding.ElectionsHeld.{election_key_is}
use Rattle.erd_meaning.proofs.report.Report.election_key.Goals as goal

pub returns : goal.returns
returns c =
    c.key_at.ensures ∙ ap (λ (ks : List (Option Key)). option_and_then (λ k. k) (slice_get ks c.args.index)) c.elections.ensures.keys
    ∙ election_key_is c.args.self.now.prefer (view c.args.self.now.tree) c.args.index
