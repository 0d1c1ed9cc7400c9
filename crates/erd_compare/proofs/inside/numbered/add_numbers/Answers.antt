use Rattle.erd_compare.proofs.contest_selections.SelectionsByNumber.{all_added, none_added, one_added}
use Rattle.erd_compare.proofs.inside.numbered.add_numbers.Goals as goal

pub loop-number-init : goal.loop-number-init
loop-number-init c = none_added _ _ _ c.into_iter-number-iterator.ensures.into_iter_gives.0

pub loop-number-preserved : goal.loop-number-preserved
loop-number-preserved c = one_added _ c.in-Some.ensures.steps _ _ _ c.loop-number.invariant c.in_ok-insert.ensures.keys

pub returns : goal.returns
returns c = all_added _ _ _ _ c.in-None.ensures.steps.0 c.loop-number.invariant
