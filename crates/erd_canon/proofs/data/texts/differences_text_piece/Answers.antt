use Rattle.erd_canon.proofs.Common.{option_copied, sym, subst, IfOk-weaker}
use Rattle.erd_canon.specs.EngineTexts.{AreDetailed}
use Rattle.erd_canon.proofs.data_values.PieceLines.{both_lines, sides_refused}
use Rattle.erd_canon.proofs.runs.Listings.{both_facts}
use Rattle.erd_canon.proofs.data.texts.differences_text_piece.Goals as goal

pub returns-in-Ok : goal.returns-in-Ok
returns-in-Ok c =
    both_facts c.listed.result _ _ _
    (λ answer outcome text. both_lines (option_copied c.args.prefer) c.args.left.now c.args.right.now _ _ c.args.piece.now answer.outcome answer.told
    answer.text.items c.deref.result.now
    (subst (AreDetailed (option_copied c.args.prefer) c.args.left.now c.args.right.now _ _) (sym c.deref.ensures.value) c.in-Ok.ensures.ok) outcome text)
    c.listed.ensures.outcome c.listed.ensures.text

pub returns-in-Err : goal.returns-in-Err
returns-in-Err c =
    IfOk-weaker c.refused_side.result _ _
    (λ answer a. (sides_refused (option_copied c.args.prefer) c.args.left.now c.args.right.now c.in-Err.side c.args.piece.now answer.outcome answer.told
    answer.text.items c.in-Err.ensures.refused a).1) c.refused_side.ensures
