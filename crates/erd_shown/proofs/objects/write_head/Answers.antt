use Rattle.erd_shown.proofs.Common.{◌++◌, option_copied, ap, ◌∙◌, string, on_ok_weaker, text_of_class, value_tokens}
use Rattle.erd_shown.specs.KeyData.{shown_key_or_null}
use Rattle.erd_shown.proofs.Written.{head_tokens}
use Rattle.erd_shown.proofs.objects.write_head.Goals as goal

pub returns : goal.returns
returns c =
    on_ok_weaker c.write_key_or_null.result
    (λ last.
    head_tokens c.args.out.now c.begin_object.new.self c.key.new.self c.string.new.self c.key-2.new.self c.write_key_or_null.new.out
    (text_of_class c.args.object.now.class) (shown_key_or_null (option_copied c.args.object.now.holder))
    c.in_ok-begin_object.ensures c.in_ok-key.ensures (c.in_ok-string.ensures ∙ ap (λ s. c.key.new.self ++ value_tokens (string s)) c.type_text.ensures)
    c.in_ok-key-2.ensures last)
    c.write_key_or_null.ensures
