use Rattle.erd_canon.proofs.Common.{arith, inl, inr, string_bytes}
use Rattle.erd_canon.specs.code.WordTexts.{AnyObject, worded_size, worded_text}
use Rattle.erd_canon.proofs.data_values.Fronts.{stopped, taken}
use Rattle.erd_canon.proofs.data.word_pieces.pass_entry.Goals as goal
use Rattle.erd_canon.proofs.data.word_pieces.pass_entry.Goals.{then-ahead-eq0-via-then-ahead-eq0, then-ahead-eq0-via-else-ahead-eq0+then-ahead-eq0-2}

pub returns-then-ahead-eq0 : goal.returns-then-ahead-eq0
returns-then-ahead-eq0 c = λ entries before rest is.
    let size = worded_size c.args.report.now in
    let text_of = worded_text c.args.report.now in
    elim c.then-ahead-eq0.branch [
      | then-ahead-eq0-via-then-ahead-eq0 w ↦
          stopped size text_of AnyObject c.args.piece.now entries before (string_bytes c.args.text.now) c.args.ahead.now c.args.object.now rest
          (omega (arith, c.if-ahead-gt0.false)) (inl (omega (arith, w.if-ahead-eq0.true))) is
      | then-ahead-eq0-via-else-ahead-eq0+then-ahead-eq0-2 w ↦
          stopped size text_of AnyObject c.args.piece.now entries before (string_bytes c.args.text.now) c.args.ahead.now c.args.object.now rest
          (omega (arith, c.if-ahead-gt0.false)) (inr (omega (arith, w.if-ahead-eq0-2.true))) is
    ]

pub returns : goal.returns
returns c = λ entries before rest is.
    taken (worded_size c.args.report.now) (worded_text c.args.report.now) AnyObject c.args.piece.now entries before
    (string_bytes c.args.text.now) c.args.ahead.now c.args.object.now rest (string_bytes c.push_worded.new.text) c.saturating_sub-ahead.result
    (omega (arith, c.if-ahead-gt0.false)) (omega (arith, c.if-ahead-eq0.false)) (omega (arith, c.if-ahead-eq0-2.false))
    (omega (arith, c.saturating_sub-ahead.ensures, c.in_ok-size.ensures.size))
    c.in_ok-size.ensures.wrote tt is
