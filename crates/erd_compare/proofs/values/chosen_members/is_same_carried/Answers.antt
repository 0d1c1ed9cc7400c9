-- The carried members are the chosen ones.
use Rattle.erd_compare.proofs.Common.{Bool, sym, subst, view, carried_members, Decides, Carried}
use Rattle.erd_compare.proofs.same_values.SameValues.{carried_by_choice, chosen-Decides}
use Rattle.erd_compare.proofs.values.chosen_members.is_same_carried.Goals as goal

pub returns : goal.returns
returns c =
    let one = view c.args.one.now in
    let other = view c.args.other.now in
    subst (λ (answer : Bool). Decides answer (carried_members c.args.one_class one) (carried_members c.args.other_class other)) (sym c.is_same_choice.ensures)
    (chosen-Decides (Carried c.args.one_class) (Carried c.args.other_class) one other (carried_members c.args.one_class one)
    (carried_members c.args.other_class other)
    c.requires.one c.requires.other (carried_by_choice c.args.one_class one) (carried_by_choice c.args.other_class other))
