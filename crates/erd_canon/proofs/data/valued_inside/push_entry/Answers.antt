use Rattle.erd_canon.proofs.Common.{◌++◌, ap, ◌∙◌, option_copied, option_map, comma_if, compact_text, has_float}
use Rattle.erd_canon.specs.ValuedData.{room_behind}
use Rattle.erd_canon.specs.code.ValuedInside.{entry_at, if_room, told_put, value_in_contest}
use Rattle.erd_canon.proofs.data_values.DataTexts.{two_pieces}
use Rattle.erd_canon.proofs.data_values.DetailedTrees.{selection_value}
use Rattle.erd_canon.proofs.data_values.ValuedTexts.{entry_text}
use Rattle.erd_canon.proofs.data.valued_inside.push_entry.Goals as goal

pub returns-clause-leaves : goal.returns-clause-leaves
returns-clause-leaves c =
    c.in_ok-right.ensures.leaves ∙ ap (λ o. room_behind o (value_in_contest c.args.contests.now.right c.args.selection.now)) c.in_ok-left.ensures.leaves

pub returns-clause-wrote : goal.returns-clause-wrote
returns-clause-wrote c =
    let d = c.args.selection.now in
    let l = value_in_contest c.args.contests.now.left d in
    let r = value_in_contest c.args.contests.now.right d in
    let x = option_copied c.text_of.result in
    let y = option_copied c.text_of-2.result in
    two_pieces c.args.text.now.items (comma_if c.args.later) c.push_comma.new.text.items (compact_text (entry_at c.args.contests.now c.args.room.now d))
    c.extend_from_slice.new.self.items c.in_ok-push_comma.ensures
    (c.in_ok-extend_from_slice.ensures.items ∙ ap (λ t. c.push_comma.new.text.items ++ t)
    (c.deref.ensures.value ∙ c.in_ok-push_told.ensures
    ∙ ap (λ o. told_put o x y c.into_bytes-entry.result.items) (c.in_ok-right.ensures.leaves ∙ ap (λ o. room_behind o r) c.in_ok-left.ensures.leaves)
    ∙ entry_text d c.into_bytes-entry.result.items
    (ap (λ v. v.items) c.into_bytes-entry.ensures.value ∙ (c.in_ok-to_string.ensures.text (ap has_float c.in_ok-to_value.ensures ∙ (selection_value d).whole)
    ∙ ap compact_text c.in_ok-to_value.ensures))
    c.args.room.now l r x y (c.text_of.ensures ∙ c.in_ok-left.ensures.text)
    (c.text_of-2.ensures ∙ c.in_ok-right.ensures.text ∙ ap (λ o. option_map compact_text (if_room o r)) c.in_ok-left.ensures.leaves)))
