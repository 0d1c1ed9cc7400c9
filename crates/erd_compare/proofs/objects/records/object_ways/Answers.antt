use Rattle.erd_compare.proofs.Common.{◌≡◌, sym, ap, ◌∙◌, subst, rules, view, role_of_class, IsPlaced}
use Rattle.erd_meaning.proofs.meanings.SelectionKinds.{class_role}
use Rattle.erd_compare.proofs.objects.records.object_ways.Goals as goal

pub differing_members-requires-clause-one_placed : goal.differing_members-requires-clause-one_placed
differing_members-requires-clause-one_placed c =
    let role : role_of_class c.in-Some-Some.class ≡ c.args.role =
    class_role c.args.role (view c.args.one.value.now) c.in-Some-Some.class (sym c.class_of_object.ensures ∙ c.in-Some-Some.is-0) in
    subst (λ r. IsPlaced c.args.comparer.now.left r c.args.one.index (view c.args.one.value.now)) (sym role) c.requires.one_placed

pub differing_members-requires-clause-other_placed : goal.differing_members-requires-clause-other_placed
differing_members-requires-clause-other_placed c =
    let same : c.in-Some-Some.class ≡ c.in-Some-Some.other_class = search rules in
    let role : role_of_class c.in-Some-Some.other_class ≡ c.args.role =
    class_role c.args.role (view c.args.other.value.now) c.in-Some-Some.other_class (sym c.class_of_object-2.ensures ∙ c.in-Some-Some.is-1) in
    subst (λ r. IsPlaced c.args.comparer.now.right r c.args.other.index (view c.args.other.value.now)) (sym (ap role_of_class same ∙ role))
    c.requires.other_placed
