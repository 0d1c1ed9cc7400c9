-- Each value of either list is in the set of the other exactly if the two are the same set.
use Rattle.erd_compare.proofs.Common.{map, sym, ap, ◌∙◌, list_all, view}
use Rattle.erd_compare.proofs.same_values.SameValues.{first_answer, second_answer, stands_for, values_decide}
use Rattle.erd_compare.proofs.values.sets.is_same_many.Goals.{else-are_in, then-are_in}
use Rattle.erd_compare.proofs.values.sets.is_same_many.Goals as goal

pub returns : goal.returns
returns c =
    let ones = map view c.args.ones.now in
    let others = map view c.args.others.now in
    let mine = c.are_in.ensures ∙ ap (λ s. list_all s ones) (stands_for others c.in_ok-right.right c.in_ok-right.ensures) in
    elim c.if-are_in.branch [
      | then-are_in w ↦ values_decide c.args.ones.now c.args.others.now _ c.requires.ones c.requires.others
          (second_answer _ _ _ _ mine (w.are_in-then-are_in.ensures ∙ ap (λ s. list_all s others) (stands_for ones c.in_ok-left.left c.in_ok-left.ensures))
          w.if-are_in.true ∙ sym w.result-is)
      | else-are_in w ↦ values_decide c.args.ones.now c.args.others.now _ c.requires.ones c.requires.others
          (first_answer _ _ _ mine w.if-are_in.false ∙ sym w.result-is)
    ]
