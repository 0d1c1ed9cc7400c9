use Rattle.std.proofs.Common.{◌∙◌, sym}
use Rattle.erd_prepare.proofs.Chosen.{group_adds}
use Rattle.erd_prepare.proofs.step_group.add_word.Goals as goal

pub returns-in_ok-push_group-in-Some-named : goal.returns-in_ok-push_group-in-Some-named
returns-in_ok-push_group-in-Some-named c =
    group_adds c.args.word.now c.in-Some-named.group _ _ (sym c.in_default.is ∙ c.named.ensures) (sym c.in-Some-named.is ∙ c.named-2.ensures)
    (c.in_ok-push_group-in-Some-named).ensures
