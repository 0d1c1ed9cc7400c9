use Rattle.erd_canon.proofs.Common.{◌≡◌, ℕ, ◌/◌, ◌%◌, ◌^◌, ◌<◌, ◌≤◌, ◌++◌, decimal, sym, ap, ◌∙◌, arith, on_error}
use Rattle.std.proofs.lemmas.Fmt.{decimal_digit, decimal_step}
use Rattle.erd_canon.proofs.runs.Moving.{IsFrontMoved-first, IsMoved-first, last_moved, last_part}
use Rattle.erd_canon.proofs.engines.lines.+write_decimal.Goals as goal

-- a number in decimal is all but its last digit, and then that digit
decimal_split : (n : ℕ) → 10 ≤ n → n < 2 ^ 64 → decimal n ≡ decimal (n / 10) ++ decimal (n % 10)
decimal_split n ten fits = decimal_step n ten fits ∙ ap (λ l. decimal (n / 10) ++ l) (sym (decimal_digit (n % 10) (omega arith)))

pub returns-in_err-write_decimal-clause-part : goal.returns-in_err-write_decimal-clause-part
returns-in_err-write_decimal-clause-part g n c =
    on_error c.from_residual.result (IsFrontMoved-first c.args.buffer.now.items (decimal (c.args.number / 10)) (decimal (c.args.number % 10))
    (decimal c.args.number)
    (decimal_split c.args.number c.if-number-lt10.false c.ranges.number.fits) c.in_err-write_decimal.ensures.part)

pub returns-clause-moved : goal.returns-clause-moved
returns-clause-moved g n c = last_moved c.write_digit-2.result (g.O.Sink.writer.contents c.write_digit-2.new.out) c.write_digit-2.new.buffer.items
    (IsMoved-first c.args.buffer.now.items (decimal (c.args.number / 10)) (decimal (c.args.number % 10)) (decimal c.args.number)
    (decimal_split c.args.number c.if-number-lt10.false c.ranges.number.fits) c.in_ok-write_decimal.ensures.moved) c.write_digit-2.ensures.moved

pub returns-clause-part : goal.returns-clause-part
returns-clause-part g n c = last_part c.write_digit-2.result (g.O.Sink.writer.contents c.write_digit-2.new.out)
    (IsMoved-first c.args.buffer.now.items (decimal (c.args.number / 10)) (decimal (c.args.number % 10)) (decimal c.args.number)
    (decimal_split c.args.number c.if-number-lt10.false c.ranges.number.fits) c.in_ok-write_decimal.ensures.moved) c.write_digit-2.ensures.part
