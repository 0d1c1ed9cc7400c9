use Rattle.erd_canon.proofs.Common.{map, string_bytes, Ok, Err, IfOk-weaker}
use Rattle.erd_canon.proofs.data_values.LineTexts.{line_data}
use Rattle.erd_canon.proofs.data.line.command_line_data.Goals as goal

pub returns-in-Ok : goal.returns-in-Ok
returns-in-Ok c =
    let line = c.command_line in
    IfOk-weaker c.requested.result _ _ (λ answer a. line_data (map string_bytes c.args.words.now) line.result (Ok c.in-Ok.request) answer.status
    (string_bytes answer.text) c.in-Ok.is line.ensures.exact line.ensures.read a)
    c.requested.ensures

pub returns-in-Err : goal.returns-in-Err
returns-in-Err c =
    let line = c.command_line in
    IfOk-weaker c.refused_line.result _ _ (λ answer a. line_data (map string_bytes c.args.words.now) line.result (Err c.in-Err.fault) answer.status
    (string_bytes answer.text) c.in-Err.is line.ensures.exact line.ensures.read a)
    c.refused_line.ensures
