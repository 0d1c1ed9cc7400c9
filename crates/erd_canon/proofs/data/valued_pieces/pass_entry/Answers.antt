use Rattle.erd_canon.proofs.Common.{arith, inl, inr}
use Rattle.erd_canon.specs.code.ValuedTexts.{Anything, valued_size, valued_text}
use Rattle.erd_canon.proofs.data_values.Fronts.{stopped, taken}
use Rattle.erd_canon.proofs.data.valued_pieces.pass_entry.Goals as goal
use Rattle.erd_canon.proofs.data.valued_pieces.pass_entry.Goals.{then-ahead-eq0-via-then-ahead-eq0, then-ahead-eq0-via-else-ahead-eq0+then-ahead-eq0-2}

pub returns-then-ahead-eq0 : goal.returns-then-ahead-eq0
returns-then-ahead-eq0 c = λ entries before rest is.
    let size = valued_size c.args.sides.now in
    let text_of = valued_text c.args.sides.now in
    elim c.then-ahead-eq0.branch [
      | then-ahead-eq0-via-then-ahead-eq0 w ↦
          stopped size text_of Anything c.args.piece.now entries before c.args.text.now.items c.args.ahead.now c.args.difference.now rest
          (omega (arith, c.if-ahead-gt0.false)) (inl (omega (arith, w.if-ahead-eq0.true))) is
      | then-ahead-eq0-via-else-ahead-eq0+then-ahead-eq0-2 w ↦
          stopped size text_of Anything c.args.piece.now entries before c.args.text.now.items c.args.ahead.now c.args.difference.now rest
          (omega (arith, c.if-ahead-gt0.false)) (inr (omega (arith, w.if-ahead-eq0-2.true))) is
    ]

pub returns : goal.returns
returns c = λ entries before rest is.
    taken (valued_size c.args.sides.now) (valued_text c.args.sides.now) Anything c.args.piece.now entries before
    c.args.text.now.items c.args.ahead.now c.args.difference.now rest c.push_valued.new.text.items c.saturating_sub-ahead.result
    (omega (arith, c.if-ahead-gt0.false)) (omega (arith, c.if-ahead-eq0.false)) (omega (arith, c.if-ahead-eq0-2.false))
    (omega (arith, c.saturating_sub-ahead.ensures, c.in_ok-size.ensures.size))
    c.in_ok-size.ensures.wrote tt is
