use Rattle.erd_normal.proofs.Common.{◌++◌, drop, sym, ap, ◌∙◌, view, members_view, kind_of_member, Entry, first_if, put_all, due_list, normal_members}
use Rattle.erd_normal.proofs.Common.{members_tokens}
use Rattle.erd_text.proofs.WholeValues.{whole_first, whole_rest}
use Rattle.erd_normal.proofs.objects.members.write_members.Goals as goal

pub loop-name-preserved : goal.loop-name-preserved
loop-name-preserved g c =
    let entry : Entry = (c.in-Some.name.now, c.in-Some.member.now) in
    let left = c.loop-name.name-iterator in
    let rest = c.next.new.self in
    let value_of = g.R.MemberRule.value_of c.args.rule.now in
    let due = c.args.due.now in
    let others = normal_members value_of c.args.class (members_view rest) in
    let name = c.as_str-name.result.now in
    record {
      can_next = tt;
      is_finite = tt;
      whole = λ whole. whole_rest left rest entry c.in-Some.ensures.steps (c.loop-name.invariant.whole whole);
      left = λ are_due whole.
          sym (c.in_ok-at.ensures are_due (whole_first left rest entry c.in-Some.ensures.steps (c.loop-name.invariant.whole whole)) others)
          ∙ (ap (λ k. c.loop-name.out
          ++ members_tokens (put_all (due_list (drop c.loop-name.at due)) (first_if name (value_of name k (view c.in-Some.member.now)) others)))
          c.member_kind.ensures ∙ (ap (λ n. c.loop-name.out ++ members_tokens
          (put_all (due_list (drop c.loop-name.at due)) (first_if n (value_of n (kind_of_member c.args.class n) (view c.in-Some.member.now)) others)))
          c.as_str-name.ensures.value ∙ (ap (λ es. c.loop-name.out
          ++ members_tokens (put_all (due_list (drop c.loop-name.at due)) (normal_members value_of c.args.class (members_view es))))
          (sym c.in-Some.ensures.steps) ∙ c.loop-name.invariant.left are_due whole)));
    }
