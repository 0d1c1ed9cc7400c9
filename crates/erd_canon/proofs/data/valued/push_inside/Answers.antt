use Rattle.erd_canon.proofs.Common.{Some, option_map, sym, ap, ◌∙◌, view}
use Rattle.erd_canon.specs.ValuedData.{value_at_selection}
use Rattle.erd_canon.proofs.data_values.ValuedInside.{put_inside}
use Rattle.erd_canon.proofs.data.valued.push_inside.Goals as goal

pub returns-in-Some : goal.returns-in-Some
returns-in-Some c =
    let s = c.args.sides.now in
    let left = c.contest_of-left.ensures ∙ ap (value_at_selection s.left.now.prefer (view s.left.now.tree)) c.as_ref-key.ensures.value in
    let right = c.contest_of-right.ensures ∙ ap (value_at_selection s.right.now.prefer (view s.right.now.tree)) c.as_ref-key.ensures.value in
    put_inside c.push_selections.result s c.args.difference.now (record { left = c.contest_of-left.result; right = c.contest_of-right.result })
    c.deref.result.now c.args.text.now.items c.push_selections.new.text.items left right
    (ap (option_map (λ v. v.items)) c.in-Some.is ∙ ap Some (sym c.deref.ensures.value)) c.push_selections.ensures
