use Rattle.erd_check.proofs.ValueSets.{one_more}
use Rattle.erd_check.proofs.value_set.ValueSet.insert.Goals as goal

pub returns : goal.returns
returns c = λ ds h. one_more c.args.self.now (record { ordered = c.insert.new.self }) (record { value = c.args.value }) ds c.in_ok-insert.ensures.keys h
