use Rattle.erd_shown.proofs.Common.{◌++◌, codes, sym, ap, ◌∙◌, string, view, on_ok_weaker, members_tokens, value_tokens}
use Rattle.std.proofs.Common.{cond}
use Rattle.erd_shown.specs.WordList.{contest_members, is_contest_role, role_word, words_members}
use Rattle.erd_shown.proofs.MembersWritten.{member_then}
use Rattle.erd_shown.proofs.word_list.write_role.Goals as goal

pub returns-then-is_contest : goal.returns-then-is_contest
returns-then-is_contest c =
    let contest = contest_members c.args.report.now.prefer (view c.args.report.now.tree) c.args.class (view c.args.value.now) in
    let words = words_members c.args.report.now.prefer (view c.args.report.now.tree) c.args.class (view c.args.value.now) in
    let r = c.args.object.now.role in
    on_ok_weaker c.write_contest.result
    (λ last.
    member_then c.args.out.now c.key.new.self c.string.new.self c.write_contest.new.out (codes "part") (string (role_word r))
    (cond (is_contest_role r) contest words) c.in_ok-key.ensures
    (c.in_ok-string.ensures ∙ ap (λ s. c.key.new.self ++ value_tokens (string s)) c.role_word.ensures)
    (last ∙ ap (λ b. c.string.new.self ++ members_tokens (cond b contest words)) (sym (sym c.is_contest.ensures ∙ c.if-is_contest.true))))
    c.write_contest.ensures

pub returns-else-is_contest : goal.returns-else-is_contest
returns-else-is_contest c =
    let contest = contest_members c.args.report.now.prefer (view c.args.report.now.tree) c.args.class (view c.args.value.now) in
    let words = words_members c.args.report.now.prefer (view c.args.report.now.tree) c.args.class (view c.args.value.now) in
    let r = c.args.object.now.role in
    on_ok_weaker c.write_words.result
    (λ last.
    member_then c.args.out.now c.key.new.self c.string.new.self c.write_words.new.out (codes "part") (string (role_word r))
    (cond (is_contest_role r) contest words) c.in_ok-key.ensures
    (c.in_ok-string.ensures ∙ ap (λ s. c.key.new.self ++ value_tokens (string s)) c.role_word.ensures)
    (last ∙ ap (λ b. c.string.new.self ++ members_tokens (cond b contest words)) (sym (sym c.is_contest.ensures ∙ c.if-is_contest.false))))
    c.write_words.ensures
