use Rattle.erd_canon.proofs.Common.{option_copied, IfOk-weaker}
use Rattle.erd_canon.proofs.data_values.PieceTexts.{check_refused}
use Rattle.erd_canon.proofs.data.pieces.check_data_piece.Goals as goal

pub returns-in-Err : goal.returns-in-Err
returns-in-Err c =
    IfOk-weaker c.refused.result _ _
    (λ answer a. check_refused (option_copied c.args.prefer) c.args.bytes.now c.in-Err.refusal c.args.piece.now answer.outcome answer.told answer.text.items
    c.in-Err.ensures.refused a)
    c.refused.ensures
