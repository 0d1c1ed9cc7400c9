use Rattle.std.proofs.Common.{ap, arith, map, refl}
use Rattle.std.proofs.lemmas.Bool.Decides.{not_from_Decides}
use Rattle.serde_json.specs.View.{view}
use Rattle.erd_prepare.proofs.Preparing.{kept_twice, no_step_yet, one_more_step, step_left_out}
use Rattle.erd_prepare.specs.declared.step_name.TheConstants.{STEPS}
use Rattle.erd_prepare.specs.declared.step_name.StepName.TheVariants.{ClassNames}
use Rattle.erd_prepare.proofs.preparation.do_steps.Goals.{then-is_chosen+in_ok-tree-2, else-is_chosen+in_ok-tell_other}
use Rattle.erd_prepare.proofs.preparation.do_steps.Goals as goal

pub loop-step-init : goal.loop-step-init
loop-step-init c = (
  no_step_yet c.args.others c.args.chosen.now (view c.args.report.now) _ _ _ c.new-steps.ensures.items c.in_ok-tree.ensures.cases
      (ap (map view) c.new-2.ensures.items),
  λ none. c.new.ensures.items,
)

pub loop-step-preserved : goal.loop-step-preserved
loop-step-preserved c = elim c.if-is_chosen.branch [
  | then-is_chosen+in_ok-tree-2 w ↦
      let done = w.in_ok-tree-2.ensures c.loop-step.invariant.1 in
      rw (w.tree-is, w.steps-is, w.so_far-is) (
        one_more_step c.args.others c.args.chosen.now (view c.args.report.now) STEPS c.loop-step.step-index ClassNames _ _ _ _ _ _ (omega arith)
            (c.is_chosen.ensures.0 w.if-is_chosen.true) c.loop-step.invariant.0 done.0,
        done.1,
      )
  | else-is_chosen+in_ok-tell_other w ↦
      rw (w.tree-is, w.steps-is, w.so_far-is) (
        step_left_out c.args.others c.args.chosen.now (view c.args.report.now) STEPS c.loop-step.step-index ClassNames _ _ _ _ (omega arith)
            (not_from_Decides c.is_chosen.result c.is_chosen.ensures w.if-is_chosen.false) c.loop-step.invariant.0
            (w.in_ok-tell_other.ensures.told c.loop-step.steps.items c.loop-step.invariant.1),
        λ unmoved. kept_twice _ _ _ w.in_ok-tell_other.ensures.moves refl (c.loop-step.invariant.1 unmoved),
      )
]
