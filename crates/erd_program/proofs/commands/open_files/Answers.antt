use Rattle.erd_program.proofs.Closing.{twice}
use Rattle.erd_program.proofs.commands.open_files.Goals as goal

pub returns-clause-done : goal.returns-clause-done
returns-clause-done g c = record {
  answer = c.run_both-answer.result;
  left_left = c.run_both-answer.new.left;
  right_left = c.run_both-answer.new.right;
  run = c.run_both-answer.ensures;
  are_closed = twice _ _ _ _ _ c.close.ensures.closed c.close-2.ensures.closed;
  status_is = c.ended.ensures.status;
  told = c.ended.ensures.told;
}
