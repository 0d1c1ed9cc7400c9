use Rattle.std.proofs.Common.{string_bytes}
use Rattle.erd_c.proofs.Words.{answer_told}
use Rattle.erd_c.proofs.line.erd_tell_command_line.Goals as goal

pub returns-in-Ok : goal.returns-in-Ok
returns-in-Ok c =
    answer_told c.args.words.now c.in-Ok.answer.status (string_bytes c.in-Ok.answer.text) c.tell_line.result c.args.room.now c.tell_line.new.room
    c.in-Ok.ensures c.tell_line.ensures.number
    c.tell_line.ensures.count c.tell_line.ensures.put
