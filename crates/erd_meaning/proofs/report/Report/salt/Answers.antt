use Rattle.erd_meaning.proofs.Common.{view}
use Rattle.erd_meaning.proofs.salts.SaltedKeys.{covers_each_key}
use Rattle.erd_meaning.proofs.report.Report.salt.Goals as goal

pub returns-clause-covers : goal.returns-clause-covers
returns-clause-covers c = covers_each_key c.args.self.now.prefer (view c.args.self.now.tree)
