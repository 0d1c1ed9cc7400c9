use Rattle.erd_normal.proofs.Common.{◌≡◌, false, ◌++◌, drop, members_view, members_have_float, put_all, due_list, AreDue, normal_members, members_tokens}
use Rattle.erd_normal.proofs.objects.members.write_members.Given as goal

abbrev pub invariant-loop-name : goal.invariant-loop-name
invariant-loop-name g l = record {
  can_next : (goal.iterator-loop-name g).can_next l.name-iterator;
  is_finite : (goal.iterator-loop-name g).is_finite l.name-iterator;
  whole : members_have_float (members_view l.members.entries) ≡ false → members_have_float (members_view l.name-iterator) ≡ false;
  left : AreDue l.due → members_have_float (members_view l.members.entries) ≡ false
      → l.out ++ members_tokens (put_all (due_list (drop l.at l.due)) (normal_members (g.R.MemberRule.value_of l.rule) l.class (members_view l.name-iterator)))
      ≡ l.initial.out ++ members_tokens (put_all (due_list l.due) (normal_members (g.R.MemberRule.value_of l.rule) l.class (members_view l.members.entries)));
}
