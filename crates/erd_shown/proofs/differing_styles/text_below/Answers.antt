use Rattle.erd_shown.proofs.Common.{Option, Bor, Data, Value, option_map, string_bytes, subst, view, IfOk-weaker}
use Rattle.erd_shown.specs.BallotLines.{style_at}
use Rattle.erd_shown.specs.code.Pairs.{TellsBelow}
use Rattle.erd_shown.proofs.differing_styles.text_below.Goals as goal

pub returns : goal.returns
returns c =
    let p = c.args.pair.now in
    let s = c.args.style.now in
    IfOk-weaker c.text_of_both.result _ _
    (λ text is.
    subst (λ (o : Option Data). TellsBelow p (style_at (view p.left.now.tree) s.left) o (string_bytes text)) c.style_at-other.ensures
    (subst (λ (o : Option Data). TellsBelow p o (option_map (λ (v : Bor Value). view v.now) c.style_at-other.result) (string_bytes text))
    c.style_at-one.ensures is))
    c.text_of_both.ensures
