use Rattle.std.specs.Prelude.{IfErr, IfOk}
use Rattle.erd_meaning.proofs.Common.{option_copied, subst, view, ◌∙◌, IfOk-weaker, Value, RefusedFor, IsAccepted, IsFault}
use Rattle.erd_meaning.proofs.report.resolving.resolve_with.Goals as goal

pub returns-clause-accepted : goal.returns-clause-accepted
returns-clause-accepted c = subst (λ (v : Value). IfOk c.accept_with.result (λ _. IsAccepted (option_copied c.args.prefer) (view v))) c.tree-tree.ensures.tree
    c.accept_with.ensures.accepted

pub returns-clause-refused : goal.returns-clause-refused
returns-clause-refused c = subst (λ (v : Value). IfErr c.accept_with.result (RefusedFor (IsFault (option_copied c.args.prefer) (view v))))
    c.tree-tree.ensures.tree c.accept_with.ensures.refused
