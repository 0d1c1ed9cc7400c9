use Rattle.erd_program.proofs.commands.filter.Goals as goal

pub returns-clause-done : goal.returns-clause-done
returns-clause-done g c = record {
  answer = c.run_canon_disposing-answer.result;
  err_left = c.run_canon_disposing-answer.new.err;
  run = c.run_canon_disposing-answer.ensures;
  status_is = c.ended.ensures.status;
  told = c.ended.ensures.told;
}
