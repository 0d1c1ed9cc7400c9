use Rattle.erd_normal.proofs.Common.{◌≡◌, ℕ, [], length, list_seen}
use Rattle.erd_normal.proofs.writer.election_objects.empty_lists.Given as goal

abbrev pub invariant-loop : goal.invariant-loop
invariant-loop l = record {
  few : length l.lists.items ≡ l.counter;
  empty : (i : ℕ) → list_seen l.lists.items i ≡ [];
}
