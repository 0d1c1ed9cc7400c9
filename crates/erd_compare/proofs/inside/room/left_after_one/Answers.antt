use Rattle.erd_compare.proofs.Common.{length, ap, ◌∙◌, has_float, compact_text}
use Rattle.erd_compare.proofs.contest_selections.SelectionTexts.{difference_whole, text_behind, text_beyond}
use Rattle.erd_compare.proofs.inside.room.left_after_one.Goals as goal

pub returns-in-Some : goal.returns-in-Some
returns-in-Some c =
    let text = c.in_ok-text.ensures.text (ap has_float c.in_ok-selection_value.ensures ∙ difference_whole c.args.name.now c.args.how.now)
    ∙ ap compact_text c.in_ok-selection_value.ensures in
    text_behind _ c.len.result c.args.room c.in-Some.left c.left_after_bytes-in-Some.result (c.len.ensures ∙ (c.in_ok-text.text.bytes.ok.0 ∙ ap length text))
    c.in-Some.ensures c.left_after_bytes-in-Some.ensures

pub returns : goal.returns
returns c =
    let text = c.in_ok-text.ensures.text (ap has_float c.in_ok-selection_value.ensures ∙ difference_whole c.args.name.now c.args.how.now)
    ∙ ap compact_text c.in_ok-selection_value.ensures in
    text_beyond _ c.len.result c.args.room (c.len.ensures ∙ (c.in_ok-text.text.bytes.ok.0 ∙ ap length text)) c.in-None.ensures
