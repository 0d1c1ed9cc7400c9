use Rattle.erd_canon.proofs.Common.{string_bytes, sym, subst, IfOk, view}
use Rattle.erd_canon.specs.code.BallotForms.{pair_tells}
use Rattle.erd_canon.specs.declared.data.ballot_pairs.PairForm.{PairForm}
use Rattle.erd_canon.proofs.data.ballot_pairs.told_of_both.Goals as goal

pub returns-in-Json : goal.returns-in-Json
returns-in-Json c =
    let left = c.args.left.now in
    subst (λ (form : PairForm). IfOk c.told_as_json.result (λ it. pair_tells form left.prefer (view left.tree) (view c.args.right.now.tree) it.0
    (string_bytes it.1))) (sym c.in-Json.is) c.told_as_json.ensures

pub returns-in-Lines : goal.returns-in-Lines
returns-in-Lines c =
    let left = c.args.left.now in
    subst (λ (form : PairForm). IfOk c.told_as_lines.result (λ it. pair_tells form left.prefer (view left.tree) (view c.args.right.now.tree) it.0
    (string_bytes it.1))) (sym c.in-Lines.is) c.told_as_lines.ensures

pub returns-in-Beside : goal.returns-in-Beside
returns-in-Beside c =
    let left = c.args.left.now in
    subst (λ (form : PairForm). IfOk c.told_beside.result (λ it. pair_tells form left.prefer (view left.tree) (view c.args.right.now.tree) it.0
    (string_bytes it.1))) (sym c.in-Beside.is) c.told_beside.ensures
