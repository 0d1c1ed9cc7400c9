-- A step of a name, from what its function ensures.
use Rattle.std.proofs.Common.{◌≡◌, ◌∙◌, refl, [], Some, None, Ok, Err, IfOk, Result, ap}
use Rattle.std.specs.declared.alloc.AllocError.{AllocError}
use Rattle.serde_json.specs.Data.{Data}
use Rattle.serde_json.specs.View.{view}
use Rattle.erd_tables.specs.declared.class.Role.TheVariants as role
use Rattle.erd_check.specs.declared.want.Want.TheVariants.{Object}
use Rattle.erd_prepare.specs.Changes.{told_by}
use Rattle.erd_prepare.specs.Rules.{Rule, prepared, told}
use Rattle.erd_prepare.specs.Steps.{IsNamedStepDone, IsOwnRule, IsStepDone, rule_of}
use Rattle.erd_prepare.specs.declared.engine.Done.{Done}
use Rattle.erd_prepare.specs.declared.step_name.StepName.{StepName}

own_rule : (s own : StepName) (t : Data) (rule : Rule) → s ≡ own → rule_of own t ≡ Some rule → IsOwnRule s t rule
own_rule s own t rule same its =
    let e : rule_of s t ≡ Some rule = ap (λ x. rule_of x t) same ∙ its in
    rw e refl

no_own_rule : (s own : StepName) (t : Data) (rule : Rule) → s ≡ own → rule_of own t ≡ None → IsOwnRule s t rule
no_own_rule s own t rule same none =
    let e : rule_of s t ≡ None = ap (λ x. rule_of x t) same ∙ none in
    rw e tt

-- by the rule that it has
pub by_own_rule : (s own : StepName) (t : Data) (r : Result Done AllocError) (rule : Rule) → s ≡ own → rule_of own t ≡ Some rule
    → IfOk r (λ done. view done.tree ≡ prepared rule [] (Some (Object role.Report)) t)
    → IfOk r (λ done. told_by done.changes.items ≡ told rule [] (Some (Object role.Report)) t)
    → IfOk r (IsNamedStepDone s t)
by_own_rule s own t (Ok done) rule same its tree changes = record { rule = rule; own = own_rule s own t rule same its; tree = tree; changes = changes }
by_own_rule s own t (Err e) rule same its tree changes = tt

-- by some rule, where it has none
pub by_some_rule : (s own : StepName) (t : Data) (r : Result Done AllocError) → s ≡ own → rule_of own t ≡ None → IfOk r (IsStepDone t)
    → IfOk r (IsNamedStepDone s t)
by_some_rule s own t (Ok done) same none h = record { rule = h.rule; own = no_own_rule s own t h.rule same none; tree = h.tree; changes = h.changes }
by_some_rule s own t (Err e) same none h = tt
