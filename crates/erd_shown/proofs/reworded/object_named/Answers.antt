use Rattle.erd_shown.proofs.Common.{◌∙◌}
use Rattle.erd_shown.proofs.reworded.object_named.Goals as goal

pub returns-in-Some-clause-there : goal.returns-in-Some-clause-there
returns-in-Some-clause-there c = c.object_at.ensures.there ∙ c.in-Some.ensures
