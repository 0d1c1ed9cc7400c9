use Rattle.std.proofs.lemmas.Result.{IfErr-weaker, IfOk-weaker}
use Rattle.erd_canon.proofs.Common.{ℕ, List, view, err_from_is_err_and, IsTreeOf, IsAcceptedReport, IsComparison, RefusedSide}
use Rattle.erd_canon.proofs.bytes.comparison.compare_with_report.Goals as goal

pub returns-in_err-tree-clause-refused : goal.returns-in_err-tree-clause-refused
returns-in_err-tree-clause-refused g c =
    let p = err_from_is_err_and c.from_residual.result c.from_residual.ensures.1 in
    let r = c.args.left.now in
    rw (p.1, p.2) (λ b accepted. c.in_err-tree.ensures.refused r.prefer b (view r.tree, accepted))

pub returns-clause-ok : goal.returns-clause-ok
returns-clause-ok g c =
    let r = c.args.left.now in
    IfOk-weaker c.compare_report_with_tree-answer.result (λ found. (b d : List ℕ) → IsAcceptedReport r.prefer b (view r.tree)
    → IsTreeOf d (view c.in_ok-tree.tree) → IsComparison r.prefer b d found) _
    (λ found compared b accepted. compared b (g.I.Input.bytes c.args.right) accepted c.in_ok-tree.ensures.read) c.compare_report_with_tree-answer.ensures.ok

pub returns-clause-refused : goal.returns-clause-refused
returns-clause-refused g c =
    let r = c.args.left.now in
    IfErr-weaker c.compare_report_with_tree-answer.result (λ side. (b d : List ℕ) → IsAcceptedReport r.prefer b (view r.tree)
    → IsTreeOf d (view c.in_ok-tree.tree) → RefusedSide r.prefer b d side) _
    (λ side refused b accepted. refused b (g.I.Input.bytes c.args.right) accepted c.in_ok-tree.ensures.read) c.compare_report_with_tree-answer.ensures.refused
