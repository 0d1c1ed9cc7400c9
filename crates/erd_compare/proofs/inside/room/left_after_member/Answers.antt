use Rattle.erd_compare.proofs.Common.{subst, IfOk}
use Rattle.erd_compare.specs.code.ContestSelections.{size_of_one, Leaves}
use Rattle.erd_compare.proofs.contest_selections.SelectionTexts.{the_difference}
use Rattle.erd_compare.proofs.inside.room.left_after_member.Goals as goal

pub returns : goal.returns
returns c = subst (λ h. IfOk c.left_after_one.result (Leaves (size_of_one (the_difference c.args.name.now h)) c.args.room)) c.in_ok-how.ensures
    c.left_after_one.ensures
