use Rattle.erd_canon.proofs.Common.{option_copied, IfOk-weaker}
use Rattle.erd_canon.proofs.data_values.WordLists.{words_refused}
use Rattle.erd_canon.proofs.data.word_pieces.words_piece.Goals as goal

pub returns-in-Err : goal.returns-in-Err
returns-in-Err c =
    IfOk-weaker c.refused.result _ _
    (λ answer a. words_refused (option_copied c.args.prefer) c.args.bytes.now c.in-Err.refusal c.args.piece.now answer.outcome answer.told answer.text.items
    c.in-Err.ensures.refused a)
    c.refused.ensures
