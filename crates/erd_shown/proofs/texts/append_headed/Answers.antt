use Rattle.erd_shown.proofs.Common.{string_bytes, sym, ◌∙◌, on_ok_weaker}
use Rattle.erd_shown.proofs.LineLaws.{with_below, without_below}
use Rattle.erd_shown.proofs.texts.append_headed.Goals as goal

pub returns-then-is_empty : goal.returns-then-is_empty
returns-then-is_empty c =
    on_ok_weaker c.append_unless.result
    (λ is. without_below c.args.so c.args.line.now c.args.below.now (string_bytes c.args.text.now) (string_bytes c.append_unless.new.text)
    (sym c.if-is_empty.true ∙ c.is_empty.ensures) is)
    c.append_unless.ensures

pub returns-in_ok-append_line : goal.returns-in_ok-append_line
returns-in_ok-append_line c =
    on_ok_weaker c.append_text.result
    (λ is.
    with_below c.args.so c.args.line.now c.args.below.now (string_bytes c.args.text.now) (string_bytes c.append_line.new.text)
    (string_bytes c.append_text.new.text) (sym c.if-is_empty.false ∙ c.is_empty.ensures)
    c.in_ok-append_line.ensures is)
    c.append_text.ensures
