use Rattle.erd_shown.proofs.Common.{◌++◌, codes, ap, ◌∙◌, string, view, on_ok_weaker, text_of_class, value_tokens}
use Rattle.erd_shown.specs.KeyData.{shown_key_or_null}
use Rattle.erd_shown.specs.WordList.{key_with_role, role_members}
use Rattle.erd_shown.proofs.Written.{two_then}
use Rattle.erd_shown.proofs.word_list.write_in_class.Goals as goal

pub returns : goal.returns
returns c =
    let π = c.args.report.now.prefer in
    let t = view c.args.report.now.tree in
    let o = c.args.object.now in
    on_ok_weaker c.write_role.result
    (λ last.
    two_then c.args.out.now c.begin_object.new.self c.key.new.self c.string.new.self c.key-2.new.self c.write_key_or_null.new.out c.write_role.new.out
    (codes "class") (codes "key") (string (text_of_class c.args.class)) (shown_key_or_null (key_with_role π t o.role o.position))
    (role_members π t o.role c.args.class (view c.args.value.now))
    c.in_ok-begin_object.ensures c.in_ok-key.ensures
    (c.in_ok-string.ensures ∙ ap (λ s. c.key.new.self ++ value_tokens (string s)) c.type_text.ensures)
    c.in_ok-key-2.ensures
    (c.in_ok-write_key_or_null.ensures ∙ ap (λ k. c.key-2.new.self ++ value_tokens (shown_key_or_null k)) c.key_with_role.ensures) last)
    c.write_role.ensures
