-- Each value of either list is among the other exactly if the two are the same set.
use Rattle.erd_compare.proofs.same_values.SameValues.{first_answer, second_answer, values_decide}
use Rattle.erd_compare.proofs.values.sets.is_same_few.Goals as goal

pub returns-then-are_among : goal.returns-then-are_among
returns-then-are_among c =
    values_decide c.args.ones.now c.args.others.now _ c.requires.ones c.requires.others
    (second_answer _ _ _ _ c.are_among.ensures c.are_among-then-are_among.ensures c.if-are_among.true)

pub returns-else-are_among : goal.returns-else-are_among
returns-else-are_among c =
    values_decide c.args.ones.now c.args.others.now _ c.requires.ones c.requires.others (first_answer _ _ _ c.are_among.ensures c.if-are_among.false)
