use Rattle.erd_compare.proofs.Common.{view}
use Rattle.erd_compare.proofs.same_content.SameContents.{none-Decides}
use Rattle.erd_compare.proofs.values.content.has_no_content.Goals as goal

pub returns : goal.returns
returns c π t = none-Decides π t (view c.args.value.now) c.entries_of.result.now c.is_empty.result c.entries_of.ensures c.is_empty.ensures
