use Rattle.erd_canon.proofs.Common.{ap, ◌∙◌, option_copied, has_float, view, compact_text}
use Rattle.erd_canon.specs.ValuedData.{value_at_difference}
use Rattle.erd_canon.specs.code.ValuedInside.{inside_of}
use Rattle.erd_canon.proofs.data_values.DataTrees.{difference_value}
use Rattle.erd_canon.proofs.data_values.ValuedTexts.{inside_text, valued_text}
use Rattle.erd_canon.proofs.data.valued.object_text.Goals as goal

pub returns : goal.returns
returns c =
    let s = c.args.sides.now in
    let d = c.args.difference.now in
    c.in_ok-push_values.ensures
    ∙ valued_text d.difference (inside_of s d) c.push_inside.new.text.items
    (c.in_ok-push_inside.ensures
    ∙ inside_text d.difference c.into_bytes-text.result.items
    (ap (λ v. v.items) c.into_bytes-text.ensures.value ∙ (c.in_ok-to_string.ensures.text (ap has_float c.in_ok-plain.ensures
    ∙ (difference_value d.difference).1)
    ∙ ap compact_text c.in_ok-plain.ensures)) (inside_of s d))
    (value_at_difference s.left.now.prefer (view s.left.now.tree) d.difference) (value_at_difference s.right.now.prefer (view s.right.now.tree) d.difference)
    (option_copied c.text_of.result) (option_copied c.text_of-2.result) (c.text_of.ensures ∙ c.in_ok-left.ensures) (c.text_of-2.ensures ∙ c.in_ok-right.ensures)
