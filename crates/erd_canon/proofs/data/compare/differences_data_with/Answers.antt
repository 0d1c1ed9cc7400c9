use Rattle.erd_canon.proofs.Common.{string_bytes, option_copied, sym, subst, IfOk-weaker}
use Rattle.erd_canon.specs.DataAnswers.{any_size}
use Rattle.erd_canon.specs.EngineTexts.{AreDetailed}
use Rattle.erd_canon.proofs.runs.Listings.{both_facts, both_listed, sides_refused}
use Rattle.erd_canon.proofs.data.compare.differences_data_with.Goals as goal

pub returns-in-Ok : goal.returns-in-Ok
returns-in-Ok c =
    both_facts c.listed.result _ _ _
    (λ answer outcome text. both_listed (option_copied c.args.prefer) c.args.left.now c.args.right.now (string_bytes answer.text)
    answer.outcome c.deref.result.now
    (subst (AreDetailed (option_copied c.args.prefer) c.args.left.now c.args.right.now 0 any_size) (sym c.deref.ensures.value) c.in-Ok.ensures.ok) outcome text)
    c.listed.ensures.outcome c.listed.ensures.text

pub returns-in-Err : goal.returns-in-Err
returns-in-Err c =
    IfOk-weaker c.refused_side.result _ _
    (λ answer a. (sides_refused (option_copied c.args.prefer) c.args.left.now c.args.right.now c.in-Err.side answer.outcome (string_bytes answer.text)
    c.in-Err.ensures.refused a).1) c.refused_side.ensures
