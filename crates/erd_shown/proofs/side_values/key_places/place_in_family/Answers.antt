use Rattle.erd_shown.proofs.Common.{sym, ap, ◌∙◌, subst, view, option_copied, role, IsAccepted}
use Rattle.erd_shown.specs.SideValues.{object_with_key}
use Rattle.erd_shown.proofs.KeysFound.{family_found}
use Rattle.erd_shown.proofs.side_values.key_places.place_in_family.Goals as goal

pub returns : goal.returns
returns c =
    let π = c.args.report.now.prefer in
    let t = view c.args.report.now.tree in
    let accepted : IsAccepted π t = subst (IsAccepted π) (ap view c.tree-tree.ensures.tree) c.tree-tree.ensures.accepted in
    family_found π t accepted c.args.family c.in_ok-key.field-0.now c.find.result c.find.ensures
    ∙ ap (λ k. object_with_key π t (role.OfFamily c.args.family) (option_copied k)) (sym c.in_ok-key.was)
