use Rattle.erd_compare.proofs.Common.{◌≡◌, ◌+◌, drop}
use Rattle.erd_compare.proofs.differing.RecordWays.{lesser_count}
use Rattle.erd_compare.proofs.objects.held.place_of.Given as goal

abbrev pub invariant-loop-place : goal.invariant-loop-place
invariant-loop-place l = l.place + lesser_count l.name (drop l.place l.names) ≡ lesser_count l.name l.names
