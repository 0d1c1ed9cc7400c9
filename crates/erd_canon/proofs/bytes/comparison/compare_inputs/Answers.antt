use Rattle.std.proofs.lemmas.Result.{IfOk-weaker}
use Rattle.erd_canon.proofs.Common.{rules, ℕ, List, Option, Result, IfOk, Preference, Difference, option_copied, view, err_from_is_err_and, IsTreeOf}
use Rattle.erd_canon.proofs.Common.{IsComparison}
use Rattle.erd_canon.proofs.runs.Agreement.{agrees, tells_what_is_said}
use Rattle.erd_canon.specs.ByteLaws.{AgreesUnderEach, TellsWhatIsSaid}
use Rattle.erd_canon.proofs.bytes.comparison.compare_inputs.Goals as goal

-- both laws hold of what a comparison answers
both_laws : {E : Type 0} (π : Preference) (left right : List ℕ) (r : Result (Option Difference) E) → IfOk r (IsComparison π left right)
    → IfOk r (TellsWhatIsSaid left right) × IfOk r (AgreesUnderEach left right)
both_laws π left right r compared = (
  IfOk-weaker r (IsComparison π left right) (TellsWhatIsSaid left right) (λ found. tells_what_is_said π left right found) compared,
  IfOk-weaker r (IsComparison π left right) (AgreesUnderEach left right) (λ found. agrees π left right found) compared,
)

pub returns-in_err-tree-clause-refused : goal.returns-in_err-tree-clause-refused
returns-in_err-tree-clause-refused g c =
    let p = err_from_is_err_and c.from_residual.result c.from_residual.ensures.1 in
    rw (p.1, p.2) (c.in_err-tree.ensures.refused (option_copied c.args.prefer) (g.I.Input.bytes c.args.right))

pub returns-clause-ok : goal.returns-clause-ok
returns-clause-ok g c =
    let π = option_copied c.args.prefer in
    let left = g.I.Input.bytes c.args.left in
    let right = g.I.Input.bytes c.args.right in
    IfOk-weaker c.compare_with_tree-answer.result (λ found. (b : List ℕ) → IsTreeOf b (view c.in_ok-tree.tree) → IsComparison π b right found)
    (IsComparison π left right)
    (λ found compared. compared left c.in_ok-tree.ensures.read) c.compare_with_tree-answer.ensures.ok

pub returns-clause-said : goal.returns-clause-said
returns-clause-said g c =
    (both_laws (option_copied c.args.prefer) (g.I.Input.bytes c.args.left) (g.I.Input.bytes c.args.right) c.compare_with_tree-answer.result
    (returns-clause-ok g c)).0

pub returns-clause-agree : goal.returns-clause-agree
returns-clause-agree g c =
    (both_laws (option_copied c.args.prefer) (g.I.Input.bytes c.args.left) (g.I.Input.bytes c.args.right) c.compare_with_tree-answer.result
    (returns-clause-ok g c)).1

pub returns-then-has_same_bytes-clause-ok : goal.returns-then-has_same_bytes-clause-ok
returns-then-has_same_bytes-clause-ok g c = search rules

pub returns-then-has_same_bytes-clause-said : goal.returns-then-has_same_bytes-clause-said
returns-then-has_same_bytes-clause-said g c =
    (both_laws (option_copied c.args.prefer) (g.I.Input.bytes c.args.left) (g.I.Input.bytes c.args.right) c.compare_with_itself.result
    (returns-then-has_same_bytes-clause-ok g c)).0

pub returns-then-has_same_bytes-clause-agree : goal.returns-then-has_same_bytes-clause-agree
returns-then-has_same_bytes-clause-agree g c =
    (both_laws (option_copied c.args.prefer) (g.I.Input.bytes c.args.left) (g.I.Input.bytes c.args.right) c.compare_with_itself.result
    (returns-then-has_same_bytes-clause-ok g c)).1
