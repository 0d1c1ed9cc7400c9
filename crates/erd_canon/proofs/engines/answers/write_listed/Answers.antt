use Rattle.erd_canon.proofs.Common.{option_copied, sym, subst, RefusedSide}
use Rattle.erd_canon.specs.Answering.{AreListed, IsListed}
use Rattle.erd_canon.specs.DataAnswers.{listing_outcome}
use Rattle.erd_canon.specs.EngineTexts.{AreDetailed}
use Rattle.erd_canon.proofs.runs.Answering.{all_listed, left_part, left_written, pair_written, right_part, right_written}
use Rattle.erd_canon.proofs.engines.answers.write_listed.Goals as goal

pub returns-in-Ok-clause-written : goal.returns-in-Ok-clause-written
returns-in-Ok-clause-written g c =
    let found = c.deref.result.now in
    pair_written (IsListed (option_copied c.args.prefer)) c.args.left.now c.args.right.now _ (listing_outcome found) c.write_found.result _ _
    (all_listed (option_copied c.args.prefer) c.args.left.now c.args.right.now _ _ found
    (subst (AreDetailed (option_copied c.args.prefer) c.args.left.now c.args.right.now _ _) (sym c.deref.ensures.value) c.in-Ok.ensures.ok))
    c.write_found.ensures.outcome c.write_found.ensures.wrote

pub returns-in-Ok-clause-broken : goal.returns-in-Ok-clause-broken
returns-in-Ok-clause-broken g c = λ fails.
    let found = c.deref.result.now in
    record {
      outcome = listing_outcome found;
      text = _;
      answers = all_listed (option_copied c.args.prefer) c.args.left.now c.args.right.now _ _ found
          (subst (AreDetailed (option_copied c.args.prefer) c.args.left.now c.args.right.now _ _) (sym c.deref.ensures.value) c.in-Ok.ensures.ok);
      part = c.write_found.ensures.broken fails;
    }

pub returns-in-Err-Left-clause-written : goal.returns-in-Err-Left-clause-written
returns-in-Err-Left-clause-written g c =
    let refused = subst (RefusedSide (option_copied c.args.prefer) c.args.left.now c.args.right.now) c.in-Err-Left.field-0-is c.in-Err-Left.ensures.refused in
    left_written (option_copied c.args.prefer) (AreListed (option_copied c.args.prefer)) c.args.left.now c.args.right.now c.in-Err-Left.refusal
    c.write_refusal.result _ _ refused c.write_refusal.ensures.written

pub returns-in-Err-Left-clause-broken : goal.returns-in-Err-Left-clause-broken
returns-in-Err-Left-clause-broken g c = λ fails.
    let refused = subst (RefusedSide (option_copied c.args.prefer) c.args.left.now c.args.right.now) c.in-Err-Left.field-0-is c.in-Err-Left.ensures.refused in
    left_part (option_copied c.args.prefer) (AreListed (option_copied c.args.prefer)) c.args.left.now c.args.right.now c.in-Err-Left.refusal _ _ refused
    (c.write_refusal.ensures.broken fails)

pub returns-in-Err-Right-clause-written : goal.returns-in-Err-Right-clause-written
returns-in-Err-Right-clause-written g c =
    let refused = subst (RefusedSide (option_copied c.args.prefer) c.args.left.now c.args.right.now) c.in-Err-Right.field-0-is c.in-Err-Right.ensures.refused in
    right_written (option_copied c.args.prefer) (AreListed (option_copied c.args.prefer)) c.args.left.now c.args.right.now c.in-Err-Right.refusal
    c.write_refusal-in-Err-Right.result _ _ refused.0 refused.1 c.write_refusal-in-Err-Right.ensures.written

pub returns-in-Err-Right-clause-broken : goal.returns-in-Err-Right-clause-broken
returns-in-Err-Right-clause-broken g c = λ fails.
    let refused = subst (RefusedSide (option_copied c.args.prefer) c.args.left.now c.args.right.now) c.in-Err-Right.field-0-is c.in-Err-Right.ensures.refused in
    right_part (option_copied c.args.prefer) (AreListed (option_copied c.args.prefer)) c.args.left.now c.args.right.now c.in-Err-Right.refusal _ _ refused.0
    refused.1 (c.write_refusal-in-Err-Right.ensures.broken fails)
