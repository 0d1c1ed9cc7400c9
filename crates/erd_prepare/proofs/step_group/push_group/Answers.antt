use Rattle.std.proofs.Common.{◌∙◌, ◌+◌, ◌++◌, ◌∷◌, [], ap, append_assoc, drop, get_or, sym}
use Rattle.std.specs.List.{filter}
use Rattle.erd_prepare.proofs.Chosen.{filter_no, filter_yes}
use Rattle.erd_prepare.specs.StepWords.{group_of, is_same_group}
use Rattle.erd_prepare.specs.declared.step_name.StepName.TheVariants.{ClassNames}
use Rattle.erd_prepare.specs.declared.step_name.TheConstants.{STEPS}
use Rattle.erd_prepare.proofs.step_group.push_group.Goals.{then-has+in_ok-push, else-has}
use Rattle.erd_prepare.proofs.step_group.push_group.Goals as goal

pub loop-step-preserved : goal.loop-step-preserved
loop-step-preserved c = elim c.if-has.branch [
  | then-has+in_ok-push w ↦
      let yes = filter_yes (λ s. is_same_group (group_of s) c.args.group) STEPS c.loop-step.step-index ClassNames c.loop-step-test.true
      (sym c.has.ensures ∙ w.if-has.true) in
      rw (w.steps-is, w.in_ok-push.ensures.items) (append_assoc c.loop-step.steps.items (get_or STEPS c.loop-step.step-index ClassNames ∷ [])
      (filter (λ s. is_same_group (group_of s) c.args.group) (drop (c.loop-step.step-index + 1) STEPS)) ∙ ap (λ ss. c.loop-step.steps.items ++ ss) (sym yes)
      ∙ c.loop-step.invariant)
  | else-has w ↦
      let no = filter_no (λ s. is_same_group (group_of s) c.args.group) STEPS c.loop-step.step-index ClassNames c.loop-step-test.true
      (sym c.has.ensures ∙ w.if-has.false) in
      rw w.steps-is (ap (λ ss. c.loop-step.steps.items ++ ss) (sym no) ∙ c.loop-step.invariant)
]
