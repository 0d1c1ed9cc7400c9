use Rattle.erd_shown.proofs.Common.{◌++◌, cond, None, sym, ap, ◌∙◌, append-nil, on_ok_weaker, view}
use Rattle.erd_shown.specs.Shown.{shown_plain}
use Rattle.erd_shown.specs.code.Writing.{member_told}
use Rattle.erd_shown.proofs.side_values.told_members.write_told_member.Goals as goal

pub returns-then-is_told_whole : goal.returns-then-is_told_whole
returns-then-is_told_whole c =
    let shown = shown_plain c.args.report.now.prefer (view c.args.report.now.tree) c.args.class c.args.name.now (view c.args.member.now) in
    on_ok_weaker c.write_plain_member.result
    (λ written whole. written whole ∙ ap (λ b. c.args.out.now ++ member_told c.args.name.now (cond b shown None))
    (sym (sym c.is_told_whole.ensures ∙ c.if-is_told_whole.true)))
    c.write_plain_member.ensures

pub returns-else-is_told_whole : goal.returns-else-is_told_whole
returns-else-is_told_whole c whole =
    let shown = shown_plain c.args.report.now.prefer (view c.args.report.now.tree) c.args.class c.args.name.now (view c.args.member.now) in
    sym (append-nil c.args.out.now) ∙ ap (λ b. c.args.out.now ++ member_told c.args.name.now (cond b shown None))
    (sym (sym c.is_told_whole.ensures ∙ c.if-is_told_whole.false))
