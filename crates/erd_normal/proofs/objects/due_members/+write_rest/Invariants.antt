use Rattle.erd_normal.proofs.Common.{◌-◌, length}
use Rattle.erd_normal.proofs.objects.due_members.+write_rest.Given as goal

abbrev pub decreases-write_rest : goal.decreases-write_rest
decreases-write_rest l = length l.due.now - l.at
