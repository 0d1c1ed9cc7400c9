use Rattle.std.proofs.Common.{codes, inr, refl}
use Rattle.erd_program.proofs.messages.not_opened.Goals as goal

pub returns-in-Err : goal.returns-in-Err
returns-in-Err g c = inr (record { status_is = c.refused-in-Err.ensures.status; said = c.refused-in-Err.ensures.said (codes "no memory") refl })
