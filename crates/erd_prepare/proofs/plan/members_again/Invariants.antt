use Rattle.std.proofs.Common.{◌≡◌, ◌++◌, drop}
use Rattle.erd_prepare.specs.Rules.{seen}
use Rattle.erd_prepare.proofs.plan.members_again.Given as goal

abbrev pub invariant-loop-member : goal.invariant-loop-member
invariant-loop-member l = seen l.again.items ++ seen (drop l.member-index l.members.items) ≡ seen l.members.items
