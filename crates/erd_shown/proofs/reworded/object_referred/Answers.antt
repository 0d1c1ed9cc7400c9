use Rattle.erd_shown.proofs.Common.{option_and_then, owner, ap, ◌∙◌, view}
use Rattle.erd_shown.proofs.reworded.object_referred.Goals as goal

pub returns-in-Some-clause-there : goal.returns-in-Some-clause-there
returns-in-Some-clause-there c = c.object_named.ensures.there ∙ ap (option_and_then (owner (view c.args.report.now.tree) c.args.family)) c.in-Some.ensures
