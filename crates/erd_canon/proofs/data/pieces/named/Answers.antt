use Rattle.erd_canon.proofs.Common.{string_bytes, ap, sym, subst, IsUtf8-string_bytes, AnswersData, NamesSide}
use Rattle.erd_canon.specs.code.Fronts.{TellsPieceAs}
use Rattle.erd_canon.proofs.data_values.DataTexts.{side_text}
use Rattle.erd_canon.proofs.data_values.PieceTexts.{why_value}
use Rattle.erd_canon.proofs.data.pieces.named.Goals as goal

pub returns : goal.returns
returns c =
    let why = c.in_ok-outcome in
    subst (AnswersData (NamesSide c.args.side.now (TellsPieceAs c.args.piece.now why.outcome why.told c.args.refusal.now)))
    (ap (λ v. v.items) (sym c.into_bytes.ensures.value))
    (side_text c.args.side.now (TellsPieceAs c.args.piece.now why.outcome why.told c.args.refusal.now) (string_bytes c.in_ok-text.text)
    (string_bytes c.push_refusal_piece.new.text) (string_bytes c.push_str.new.self)
    (string_bytes c.push_string.new.text) (string_bytes c.push_str-2.new.self) (why_value c.args.piece.now why.outcome why.told c.args.refusal.now) why.ensures
    c.in_ok-text.ensures.ok
    c.in_ok-push_str.ensures.bytes c.in_ok-push_string.ensures c.in_ok-push_str-2.ensures.bytes (IsUtf8-string_bytes c.push_str-2.new.self))
