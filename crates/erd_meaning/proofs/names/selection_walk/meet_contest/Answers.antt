use Rattle.erd_meaning.proofs.Common.{codes, view}
use Rattle.erd_text.proofs.WholeValues.{whole_entry}
use Rattle.erd_meaning.proofs.names.selection_walk.meet_contest.Goals as goal

pub meet_selection-requires : goal.meet_selection-requires
meet_selection-requires c = record {
  whole = whole_entry (codes "ContestSelection") (view c.args.contest.now) c.entries_at-selection-items.result.now c.loop-index.index
      c.selection-item.result c.requires.whole
      c.entries_at-selection-items.ensures c.loop-index-test.true c.selection-item.is;
  ranked = c.loop-index.invariant.1;
}
