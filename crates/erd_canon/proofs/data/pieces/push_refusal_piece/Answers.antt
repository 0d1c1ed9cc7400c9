use Rattle.erd_canon.proofs.Common.{string_bytes, codes, sym, refl, subst, string, AppendsData, NotJson}
use Rattle.erd_canon.specs.code.Fronts.{TellsPieceAs}
use Rattle.erd_canon.proofs.data.pieces.push_refusal_piece.Goals as goal

pub returns-in_ok-push_string-in-NotJson : goal.returns-in_ok-push_string-in-NotJson
returns-in_ok-push_string-in-NotJson c =
    subst (λ r. AppendsData (TellsPieceAs c.args.piece.now NotJson c.none.result r) (string_bytes c.args.text.now) (string_bytes c.push_string.new.text))
    (sym c.in-NotJson.is)
    (record { value = string (codes "not JSON"); says = (refl, c.none.ensures); fits = tt; wrote = c.in_ok-push_string-in-NotJson.ensures })
