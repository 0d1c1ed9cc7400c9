use Rattle.erd_compare.proofs.Common.{◌≡◌, ◌++◌}
use Rattle.erd_compare.proofs.differing.PartLists.{named, named_from}
use Rattle.erd_compare.proofs.first.key_differences.push_ways.Given as goal

-- with those at the names that are left, all are appended
abbrev pub invariant-loop-name : goal.invariant-loop-name
invariant-loop-name l = l.found.items ++ named_from l.part l.next.key l.name-index l.name-items ≡ l.initial.found.items ++ named l.part l.next.key l.name-items
