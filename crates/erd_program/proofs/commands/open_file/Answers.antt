use Rattle.erd_program.proofs.commands.open_file.Goals as goal

pub returns-clause-done : goal.returns-clause-done
returns-clause-done g c = record {
  answer = c.run-answer.result;
  file_left = c.run-answer.new.file;
  err_left = c.run-answer.new.world.err;
  run = c.run-answer.ensures.done;
  is_closed = cc;
  status_is = c.ended.ensures.status;
  told = c.ended.ensures.told;
}
