use Rattle.erd_canon.proofs.Common.{string_bytes, ap, sym, subst, length, IsUtf8-string_bytes, AppendsData}
use Rattle.erd_compare.specs.SelectionData.{detailed_data}
use Rattle.erd_canon.specs.Pieces.{IsPieceData, IsPieceText}
use Rattle.erd_canon.proofs.data_values.PieceTexts.{differences_text}
use Rattle.erd_canon.proofs.data.pieces.listed.Goals as goal

pub returns-clause-text : goal.returns-clause-text
returns-clause-text c =
    subst (IsPieceText (IsPieceData detailed_data c.args.piece.now c.args.found.now) (record { count = c.in_ok-count.count; all = length c.args.found.now }))
    (ap (λ v. v.items) (sym c.into_bytes.ensures.value))
    (differences_text c.args.piece.now c.args.found.now (record { count = c.in_ok-count.count; all = length c.args.found.now }) (string_bytes c.new-text.result)
    (string_bytes c.push_piece.new.text)
    c.new-text.ensures.bytes
    (subst (λ xs. AppendsData (IsPieceData detailed_data c.args.piece.now xs (record { count = c.in_ok-count.count; all = length xs }))
    (string_bytes c.new-text.result) (string_bytes c.push_piece.new.text))
    c.iter.ensures.rest c.in_ok-count.ensures)
    (IsUtf8-string_bytes c.push_piece.new.text))
