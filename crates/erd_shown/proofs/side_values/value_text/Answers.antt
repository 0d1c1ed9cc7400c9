use Rattle.erd_shown.proofs.Common.{string_bytes, sym, ◌∙◌, view}
use Rattle.erd_shown.specs.SideValues.{told_plain}
use Rattle.erd_shown.proofs.Written.{some_text, no_text}
use Rattle.erd_shown.proofs.side_values.value_text.Goals as goal

pub returns-in_ok-text : goal.returns-in_ok-text
returns-in_ok-text c whole =
    let π = c.args.report.now.prefer in
    let t = view c.args.report.now.tree in
    some_text (told_plain π t c.args.class c.args.name.now (view c.args.member.now)) (string_bytes c.in_ok-text.text)
    (sym (c.is_told.ensures π t) ∙ c.if-is_told.true) (c.in_ok-text.ensures whole)

pub returns-else-is_told : goal.returns-else-is_told
returns-else-is_told c whole =
    let π = c.args.report.now.prefer in
    let t = view c.args.report.now.tree in
    no_text (told_plain π t c.args.class c.args.name.now (view c.args.member.now)) (sym (c.is_told.ensures π t) ∙ c.if-is_told.false)
