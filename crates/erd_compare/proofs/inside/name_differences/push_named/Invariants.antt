use Rattle.erd_compare.proofs.Common.{◌≡◌, ◌++◌}
use Rattle.erd_compare.proofs.contest_selections.SelectionLists.{in_members, in_members_from}
use Rattle.erd_compare.proofs.inside.name_differences.push_named.Given as goal

-- with those in the members that are left, all are appended
abbrev pub invariant-loop-member : goal.invariant-loop-member
invariant-loop-member l = l.found.items ++ in_members_from l.name l.member-index l.member-items ≡ l.initial.found.items ++ in_members l.name l.member-items
