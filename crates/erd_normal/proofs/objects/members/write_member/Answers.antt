use Rattle.erd_normal.proofs.Common.{◌≡◌, ◌++◌, drop, sym, ◌∙◌, subst, view, first_if, put_all, due_list, members_tokens}
use Rattle.erd_check.proofs.Positions.{some_from}
use Rattle.erd_text.proofs.WrittenTokens.{member_then}
use Rattle.erd_normal.proofs.objects.members.write_member.Goals as goal

pub returns-in_ok-write : goal.returns-in_ok-write
returns-in_ok-write g c due whole ms =
    let kept = some_from (g.R.MemberRule.value_of c.args.rule.now c.args.member.0.now c.args.member.1 (view c.args.member.2.now))
    (sym c.keeps.ensures ∙ c.if-not-keeps.false) in
    let through = c.in_ok-is_replaced.ensures due in
    subst (λ o. c.args.out.now ++ members_tokens (put_all (due_list (drop c.args.at c.args.due.now)) (first_if c.args.member.0.now o ms)) ≡ c.write.new.out
    ++ members_tokens (put_all (due_list (drop c.in_ok-is_replaced.left c.args.due.now)) ms)) (sym kept.1)
    (through.kept c.if-not-is_replaced.true kept.0 ms
    ∙ member_then c.args.member.0.now kept.0 _ c.write_through.new.out c.key.new.self c.write.new.out c.in_ok-key.ensures
    (c.in_ok-write.ensures whole c.args.member.0.now kept.0 kept.1))
