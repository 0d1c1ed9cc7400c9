use Rattle.erd_canon.proofs.Common.{string_bytes, arith, inl, inr}
use Rattle.erd_canon.specs.code.Fronts.{FitsIn, size_in, text_in}
use Rattle.erd_canon.proofs.data_values.Fronts.{stopped, taken}
use Rattle.erd_canon.proofs.data.listed.pass_entry.Goals as goal
use Rattle.erd_canon.proofs.data.listed.pass_entry.Goals.{then-ahead-eq0-via-then-ahead-eq0, then-ahead-eq0-via-else-ahead-eq0+then-ahead-eq0-2}

pub returns-then-ahead-eq0 : goal.returns-then-ahead-eq0
returns-then-ahead-eq0 g c = λ entries before rest is.
    let size = size_in c.args.notation.now g.T.Listed.value g.T.Listed.line in
    let text_of = text_in c.args.notation.now g.T.Listed.value g.T.Listed.line in
    let Has = FitsIn c.args.notation.now g.T.Listed.value in
    elim c.then-ahead-eq0.branch [
      | then-ahead-eq0-via-then-ahead-eq0 w ↦
          stopped size text_of Has c.args.piece.now entries before (string_bytes c.args.text.now) c.args.ahead.now c.args.entry.now rest
          (omega (arith, c.if-ahead-gt0.false)) (inl (omega (arith, w.if-ahead-eq0.true))) is
      | then-ahead-eq0-via-else-ahead-eq0+then-ahead-eq0-2 w ↦
          stopped size text_of Has c.args.piece.now entries before (string_bytes c.args.text.now) c.args.ahead.now c.args.entry.now rest
          (omega (arith, c.if-ahead-gt0.false)) (inr (omega (arith, w.if-ahead-eq0-2.true))) is
    ]

pub returns : goal.returns
returns g c = λ entries before rest is.
    taken (size_in c.args.notation.now g.T.Listed.value g.T.Listed.line) (text_in c.args.notation.now g.T.Listed.value g.T.Listed.line)
    (FitsIn c.args.notation.now g.T.Listed.value) c.args.piece.now entries before
    (string_bytes c.args.text.now) c.args.ahead.now c.args.entry.now rest (string_bytes c.push_noted.new.text) c.saturating_sub-ahead.result
    (omega (arith, c.if-ahead-gt0.false)) (omega (arith, c.if-ahead-eq0.false)) (omega (arith, c.if-ahead-eq0-2.false))
    (omega (arith, c.saturating_sub-ahead.ensures, c.in_ok-size.ensures.size))
    c.in_ok-size.ensures.wrote c.in_ok-size.ensures.fits is
