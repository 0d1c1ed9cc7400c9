use Rattle.erd_canon.proofs.Common.{[], rules, arith, view}
use Rattle.erd_canon.specs.Preparing.{no_step}
use Rattle.erd_prepare.specs.declared.step_name.TheConstants.{STEPS}
use Rattle.erd_prepare.specs.declared.step_name.StepName.TheVariants.{ClassNames}
use Rattle.erd_canon.proofs.runs.StepLines.{one_more_tried}
use Rattle.erd_canon.proofs.engines.prepare_texts.tried.Goals as goal

pub loop-step-init : goal.loop-step-init
loop-step-init c = ([], no_step, search rules)

pub loop-step-preserved : goal.loop-step-preserved
loop-step-preserved c = one_more_tried (view c.args.report.now) STEPS c.loop-step.step-index ClassNames _ _ (omega arith) c.loop-step.invariant
    c.in_ok-push_tried.ensures
