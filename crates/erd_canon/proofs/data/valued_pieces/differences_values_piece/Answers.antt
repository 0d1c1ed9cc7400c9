use Rattle.erd_canon.proofs.Common.{option_copied, IfOk-weaker}
use Rattle.erd_canon.proofs.data_values.ValuedLists.{values_refused}
use Rattle.erd_canon.proofs.data.valued_pieces.differences_values_piece.Goals as goal

pub returns-in-Err : goal.returns-in-Err
returns-in-Err c =
    IfOk-weaker c.refused_side.result _ _
    (λ answer a. values_refused (option_copied c.args.prefer) c.args.left.now c.args.right.now c.in-Err.side c.args.piece.now answer.outcome answer.told
    answer.text.items c.in-Err.ensures.refused a) c.refused_side.ensures
