use Rattle.std.proofs.Common.{◌∙◌, Err, Ok, refl}
use Rattle.erd_program.proofs.Closing.{done_from, unopened}
use Rattle.erd_program.proofs.commands.one_file.Goals as goal

pub returns-in-Ok : goal.returns-in-Ok
returns-in-Ok g c = record {
  given = Ok c.in-Ok.file;
  input = c.open_file.ensures.input;
  opened = c.open_file.ensures.opened ∙ c.in-Ok.ensures.opened;
  answer = done_from c.in-Ok.ensures.closed c.open_file.ensures.done;
}

pub returns-in-Err : goal.returns-in-Err
returns-in-Err g c = record {
  given = Err c.in-Err.fault;
  input = refl;
  opened = c.in-Err.ensures.opened;
  answer = (c.in-Err.ensures.closed, unopened c.not_opened.ensures);
}
