use Rattle.erd_meaning.proofs.Common.{◌≡◌, take, positioned, seen_keys}
use Rattle.erd_meaning.proofs.objects.election_table.ElectionTable.lent_keys.Given as goal

abbrev pub invariant-loop-index : goal.invariant-loop-index
invariant-loop-index l = seen_keys l.keys.items ≡ positioned 0 (take l.index l.self.keys)
