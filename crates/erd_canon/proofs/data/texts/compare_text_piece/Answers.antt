use Rattle.erd_canon.proofs.Common.{option_copied, IfOk-weaker}
use Rattle.erd_canon.proofs.data_values.PieceLines.{sides_refused}
use Rattle.erd_canon.proofs.data.texts.compare_text_piece.Goals as goal

pub returns-in-Err : goal.returns-in-Err
returns-in-Err c =
    IfOk-weaker c.refused_side.result _ _
    (λ answer a. (sides_refused (option_copied c.args.prefer) c.args.left.now c.args.right.now c.in-Err.side c.args.piece.now answer.outcome answer.told
    answer.text.items c.in-Err.ensures.refused a).0) c.refused_side.ensures
