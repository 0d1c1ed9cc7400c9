use Rattle.erd_compare.proofs.Common.{view}
use Rattle.erd_compare.proofs.whole_trees.WholeTrees.{whole_values-entries_of}
use Rattle.erd_compare.proofs.objects.plain_members.is_same_array.Goals as goal

pub is_same_set-requires-clause-ones : goal.is_same_set-requires-clause-ones
is_same_set-requires-clause-ones c = whole_values-entries_of (view c.args.one.now) c.entries_of.result.now c.requires.one c.entries_of.ensures

pub is_same_set-requires-clause-others : goal.is_same_set-requires-clause-others
is_same_set-requires-clause-others c = whole_values-entries_of (view c.args.other.now) c.entries_of-2.result.now c.requires.other c.entries_of-2.ensures
