use Rattle.erd_normal.proofs.Common.{◌≡◌, ℕ, ◌<◌, length, view, elections, holding_election, list_seen}
use Rattle.erd_normal.proofs.ranks.RankedReferences.{put_in}
use Rattle.erd_normal.proofs.writer.election_objects.lists_of_keyed.Given as goal

abbrev pub invariant-loop-position : goal.invariant-loop-position
invariant-loop-position l = record {
  count : length l.lists.items ≡ length (elections (view l.report.tree));
  filled : (i : ℕ) → i < length (elections (view l.report.tree))
      → list_seen l.lists.items i ≡ put_in (holding_election (view l.report.tree) l.family) l.position-items
      (length (elections (view l.report.tree))) l.position-index i;
}
