use Rattle.erd_normal.proofs.Common.{◌-◌, length}
use Rattle.erd_normal.proofs.objects.due_members.+write_through.Given as goal

abbrev pub decreases-write_through : goal.decreases-write_through
decreases-write_through l = length l.due.now - l.at
