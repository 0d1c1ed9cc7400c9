use Rattle.erd_canon.proofs.Common.{◌∙◌, IfOk-weaker}
use Rattle.erd_canon.proofs.runs.StepLines.{both_text, changed_text, left_text}
use Rattle.erd_canon.proofs.engines.prepare_texts.count_line.Goals as goal

pub returns-in-0-default : goal.returns-in-0-default
returns-in-0-default c =
    IfOk-weaker c.format.result _ _ (λ s h. h ∙ left_text c.args.name.now c.args.changed c.args.left c.in-0-default.is-0 c.in-0-default.is-1.1)
    c.format.ensures.ok

pub returns-in_default-eq0 : goal.returns-in_default-eq0
returns-in_default-eq0 c =
    IfOk-weaker c.format-in_default-eq0.result _ _ (λ s h. h ∙ changed_text c.args.name.now c.args.changed c.args.left c.in_default-eq0.is-0.1
    c.in_default-eq0.is-1) c.format-in_default-eq0.ensures.ok

pub returns-in_default : goal.returns-in_default
returns-in_default c =
    IfOk-weaker c.format-in_default.result _ _ (λ s h. h ∙ both_text c.args.name.now c.args.changed c.args.left c.in_default.is-0.1 c.in_default.is-1.1)
    c.format-in_default.ensures.ok
