use Rattle.erd_canon.proofs.Common.{◌∷◌, [], ◌++◌, option_copied, refl}
use Rattle.erd_canon.specs.Answering.{IsListLine}
use Rattle.erd_canon.proofs.runs.Answering.{pair_written}
use Rattle.erd_canon.proofs.engines.answers.write_differences_data.Goals as goal

pub returns-in-Ok-clause-written : goal.returns-in-Ok-clause-written
returns-in-Ok-clause-written g c =
    let answer = c.in-Ok.answer in
    pair_written (IsListLine (option_copied c.args.prefer)) c.args.left.now c.args.right.now (answer.text.items ++ 10 ∷ []) answer.outcome
    c.write_piece_line.result _ _
    (answer.text.items, c.in-Ok.ensures, refl) c.write_piece_line.ensures.outcome c.write_piece_line.ensures.wrote

pub returns-in-Ok-clause-broken : goal.returns-in-Ok-clause-broken
returns-in-Ok-clause-broken g c = λ fails.
    let answer = c.in-Ok.answer in
    record { outcome = answer.outcome; text = _; answers = (answer.text.items, c.in-Ok.ensures, refl); part = c.write_piece_line.ensures.broken fails }
