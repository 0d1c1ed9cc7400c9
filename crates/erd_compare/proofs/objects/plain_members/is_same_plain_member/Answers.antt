use Rattle.erd_compare.proofs.Common.{option_map, sym, ap, ◌∙◌, subst, view, NamesKeys}
use Rattle.erd_compare.proofs.same_values.SameValues.{meant-Decide, member_keyed}
use Rattle.erd_compare.proofs.objects.plain_members.is_same_plain_member.Goals as goal

pub is_same_meant-requires-clause-keyed : goal.is_same_meant-requires-clause-keyed
is_same_meant-requires-clause-keyed c = subst NamesKeys (sym c.member_kind-kind.ensures) (member_keyed c.args.class c.args.pair.name.now)

pub returns-in-false-false : goal.returns-in-false-false
returns-in-false-false c =
    let left = c.args.comparer.now.left in
    let right = c.args.comparer.now.right in
    meant-Decide left right c.args.class c.args.pair.name.now c.member_kind-kind.result _ _ (view c.in-Some-Some.one.now) (view c.in-Some-Some.other.now)
    c.is_same_meant.result (sym c.is_in_envelope.ensures ∙ c.if-is_in_envelope.false) c.member_kind-kind.ensures
    (ap (option_map (λ v. view v.now)) c.in-Some-Some.is-0) (ap (option_map (λ v. view v.now)) c.in-Some-Some.is-1)
    (sym (c.in-false-false.ensures left.prefer (view left.tree))) (sym (c.in-false-false.ensures' right.prefer (view right.tree))) c.is_same_meant.ensures
