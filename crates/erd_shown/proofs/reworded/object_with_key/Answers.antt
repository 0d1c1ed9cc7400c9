use Rattle.erd_shown.proofs.Common.{ap, ◌∙◌, option_map, subst, view, IsAccepted, Placed}
use Rattle.erd_shown.proofs.KeysFound.{keyed_found}
use Rattle.erd_shown.proofs.reworded.object_with_key.Goals as goal

pub returns-in-Some-clause-there : goal.returns-in-Some-clause-there
returns-in-Some-clause-there c =
    let π = c.args.report.now.prefer in
    let t = view c.args.report.now.tree in
    let accepted : IsAccepted π t = subst (IsAccepted π) (ap view c.tree-tree.ensures.tree) c.tree-tree.ensures.accepted in
    c.object_at.ensures.there ∙ ap (option_map (λ (o : Placed). o.value))
    (keyed_found π t accepted c.args.family c.args.key.now c.requires.keyed _ c.in-Some.ensures)

pub returns-in-None-clause-there : goal.returns-in-None-clause-there
returns-in-None-clause-there c =
    let π = c.args.report.now.prefer in
    let t = view c.args.report.now.tree in
    let accepted : IsAccepted π t = subst (IsAccepted π) (ap view c.tree-tree.ensures.tree) c.tree-tree.ensures.accepted in
    ap (option_map (λ (o : Placed). o.value)) (keyed_found π t accepted c.args.family c.args.key.now c.requires.keyed _ c.in-None.ensures)
