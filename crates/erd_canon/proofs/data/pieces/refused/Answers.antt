use Rattle.erd_canon.proofs.Common.{string_bytes, ap, sym, subst, IsUtf8-string_bytes, AnswersData}
use Rattle.erd_canon.specs.code.Fronts.{TellsPieceAs}
use Rattle.erd_canon.proofs.data_values.DataTexts.{text_alone}
use Rattle.erd_canon.proofs.data_values.PieceTexts.{why_value}
use Rattle.erd_canon.proofs.data.pieces.refused.Goals as goal

pub returns : goal.returns
returns c =
    let why = c.in_ok-outcome in
    subst (AnswersData (TellsPieceAs c.args.piece.now why.outcome why.told c.args.refusal.now)) (ap (λ v. v.items) (sym c.into_bytes.ensures.value))
    (text_alone (TellsPieceAs c.args.piece.now why.outcome why.told c.args.refusal.now) (string_bytes c.new-text.result)
    (string_bytes c.push_refusal_piece.new.text)
    (why_value c.args.piece.now why.outcome why.told c.args.refusal.now) c.new-text.ensures.bytes why.ensures
    (IsUtf8-string_bytes c.push_refusal_piece.new.text))
