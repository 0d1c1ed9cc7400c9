use Rattle.std.proofs.Common.{◌∙◌}
use Rattle.erd_prepare.proofs.Telling.{bytes_more}
use Rattle.erd_prepare.proofs.told.Told.add.Goals as goal

pub returns-clause-measured : goal.returns-clause-measured
returns-clause-measured c h =
    bytes_more _ _ _ _ _ _ _ c.in_ok-text.text.items c.in_ok-push.ensures.items c.in_ok-text.ensures.reads_back c.in_ok-text.ensures.compact
    c.saturating_add-self.ensures (c.len.ensures ∙ c.in_ok-text.text.ok.0) h
