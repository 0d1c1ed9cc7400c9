-- The maps of the entries are the same.
use Rattle.erd_compare.proofs.Common.{sym, ap, ◌∙◌, view}
use Rattle.erd_compare.proofs.same_selections.SelectionWalks.{filled-there, selections-Decide, seen, whole_filled}
use Rattle.erd_compare.proofs.same_selections.PlacedSelections.{selections_in}
use Rattle.erd_compare.proofs.whole_trees.WholeTrees.{whole_values-entries_of}
use Rattle.erd_compare.proofs.objects.selections.is_same_selections.Goals as goal

pub is_same_selection_map-requires-clause-ones : goal.is_same_selection_map-requires-clause-ones
is_same_selection_map-requires-clause-ones c =
    whole_values-entries_of (view c.in-Some-Some.ones.now) c.entries_of.result.now
    (whole_filled c.args.pair.one (view c.in-Some-Some.ones.now) c.requires.whole.0 (sym c.filled.ensures ∙ ap seen c.in-Some-Some.is-0)) c.entries_of.ensures

pub is_same_selection_map-requires-clause-others : goal.is_same_selection_map-requires-clause-others
is_same_selection_map-requires-clause-others c =
    whole_values-entries_of (view c.in-Some-Some.others.now) c.entries_of-in-Some-Some.result.now
    (whole_filled c.args.pair.other (view c.in-Some-Some.others.now) c.requires.whole.1 (sym c.filled-2.ensures ∙ ap seen c.in-Some-Some.is-1))
    c.entries_of-in-Some-Some.ensures

pub returns-in-Some-Some : goal.returns-in-Some-Some
returns-in-Some-Some c =
    selections-Decide c.args.comparer.now.left.prefer c.args.comparer.now.right.prefer c.is_same_selection_map.result (view c.args.comparer.now.left.tree)
    (view c.args.comparer.now.right.tree) (view c.in-Some-Some.ones.now) (view c.in-Some-Some.others.now) _ _ _ _
    (sym c.filled.ensures ∙ ap seen c.in-Some-Some.is-0) (sym c.filled-2.ensures ∙ ap seen c.in-Some-Some.is-1) c.entries_of.ensures
    c.entries_of-in-Some-Some.ensures c.is_same_selection_map.ensures

pub is_same_selection_map-requires-clause-ones_named : goal.is_same_selection_map-requires-clause-ones_named
is_same_selection_map-requires-clause-ones_named c =
    selections_in c.args.comparer.now.left c.args.position (seen c.args.pair.one) (view c.in-Some-Some.ones.now) _ c.requires.one_placed
    (filled-there (seen c.args.pair.one) (view c.in-Some-Some.ones.now) (sym c.filled.ensures ∙ ap seen c.in-Some-Some.is-0)) c.entries_of.ensures

pub is_same_selection_map-requires-clause-others_named : goal.is_same_selection_map-requires-clause-others_named
is_same_selection_map-requires-clause-others_named c =
    selections_in c.args.comparer.now.right c.args.other_position (seen c.args.pair.other) (view c.in-Some-Some.others.now) _ c.requires.other_placed
    (filled-there (seen c.args.pair.other) (view c.in-Some-Some.others.now) (sym c.filled-2.ensures ∙ ap seen c.in-Some-Some.is-1))
    c.entries_of-in-Some-Some.ensures
