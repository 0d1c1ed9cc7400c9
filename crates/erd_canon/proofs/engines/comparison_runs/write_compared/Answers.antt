use Rattle.erd_canon.proofs.Common.{option_copied, ◌∙◌, refl, subst, inr, None, Some, IsComparison, RefusedSide, Bad, Good}
use Rattle.erd_canon.proofs.runs.Comparisons.{difference_written, left_refusal_part, left_refusal_written, right_refusal_part, right_refusal_written}
use Rattle.erd_canon.proofs.engines.comparison_runs.write_compared.Goals as goal

pub returns-in-Ok-clause-written : goal.returns-in-Ok-clause-written
returns-in-Ok-clause-written g c =
    difference_written (option_copied c.args.prefer) c.args.left.items c.args.right.items c.as_slice.result.now c.in-Ok-Some.difference
    c.write_one-in-Ok.result _ _
    (subst (IsComparison (option_copied c.args.prefer) c.args.left.items c.args.right.items) c.in-Ok-Some.field-0-is c.in-Ok-Some.ensures.ok)
    (c.as_slice.ensures.value ∙ c.in-Ok.ensures) c.write_one-in-Ok.ensures.outcome c.write_one-in-Ok.ensures.wrote

pub returns-in-Err-Right-clause-written : goal.returns-in-Err-Right-clause-written
returns-in-Err-Right-clause-written g c =
    let refused = subst (RefusedSide (option_copied c.args.prefer) c.args.left.items c.args.right.items) c.in-Err-Right.field-0-is
    c.in-Err-Right.ensures.refused in
    right_refusal_written (option_copied c.args.prefer) c.args.left.items c.args.right.items c.in-Err-Right.refusal c.write_refusal-in-Err-Right.result _ _
    refused.0 refused.1 c.write_refusal-in-Err-Right.ensures.written

pub returns-in-Err-Left-clause-written : goal.returns-in-Err-Left-clause-written
returns-in-Err-Left-clause-written g c =
    let refused = subst (RefusedSide (option_copied c.args.prefer) c.args.left.items c.args.right.items) c.in-Err-Left.field-0-is
    c.in-Err-Left.ensures.refused in
    left_refusal_written (option_copied c.args.prefer) c.args.left.items c.args.right.items c.in-Err-Left.refusal c.write_refusal.result _ _
    refused c.write_refusal.ensures.written

pub returns-in-Ok-None-clause-broken : goal.returns-in-Ok-None-clause-broken
returns-in-Ok-None-clause-broken g c = λ _. record {
  outcome = Good;
  text = _;
  compared =
      inr (inr (
        None,
        subst (IsComparison (option_copied c.args.prefer) c.args.left.items c.args.right.items) c.in-Ok-None.field-0-is c.in-Ok-None.ensures.ok,
        refl,
        refl,
      ));
  part = c.write_one.ensures.part;
}

pub returns-in-Ok-clause-broken : goal.returns-in-Ok-clause-broken
returns-in-Ok-clause-broken g c = λ _. record {
  outcome = Bad;
  text = c.as_slice.result.now;
  compared =
      inr (inr (
        Some c.in-Ok-Some.difference,
        subst (IsComparison (option_copied c.args.prefer) c.args.left.items c.args.right.items) c.in-Ok-Some.field-0-is
            c.in-Ok-Some.ensures.ok,
        refl,
        c.as_slice.ensures.value ∙ c.in-Ok.ensures,
      ));
  part = c.write_one-in-Ok.ensures.part;
}

pub returns-in-Err-Right-clause-broken : goal.returns-in-Err-Right-clause-broken
returns-in-Err-Right-clause-broken g c = λ fault.
    let refused = subst (RefusedSide (option_copied c.args.prefer) c.args.left.items c.args.right.items) c.in-Err-Right.field-0-is
    c.in-Err-Right.ensures.refused in
    right_refusal_part (option_copied c.args.prefer) c.args.left.items c.args.right.items c.in-Err-Right.refusal _ _ refused.0 refused.1
    (c.write_refusal-in-Err-Right.ensures.broken fault)

pub returns-in-Err-Left-clause-broken : goal.returns-in-Err-Left-clause-broken
returns-in-Err-Left-clause-broken g c = λ fault.
    let refused = subst (RefusedSide (option_copied c.args.prefer) c.args.left.items c.args.right.items) c.in-Err-Left.field-0-is
    c.in-Err-Left.ensures.refused in
    left_refusal_part (option_copied c.args.prefer) c.args.left.items c.args.right.items c.in-Err-Left.refusal _ _ refused
    (c.write_refusal.ensures.broken fault)
