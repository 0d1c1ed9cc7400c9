use Rattle.std.proofs.Common.{◌∙◌, sym}
use Rattle.std.specs.Str.{bytes_eq}
use Rattle.erd_prepare.proofs.Chosen.{find_more}
use Rattle.erd_prepare.specs.StepWords.{name_of_step}
use Rattle.erd_prepare.specs.declared.step_name.StepName.TheVariants.{ClassNames}
use Rattle.erd_prepare.specs.declared.step_name.TheConstants.{STEPS}
use Rattle.erd_prepare.proofs.step_name.StepName.named.Goals as goal

pub loop-step-preserved : goal.loop-step-preserved
loop-step-preserved c =
    sym (find_more (λ s. bytes_eq (name_of_step s) c.args.name.now) STEPS c.loop-step.step-index ClassNames c.loop-step-test.true
    (sym c.has_name.ensures ∙ c.if-has_name.false)) ∙ c.loop-step.invariant
