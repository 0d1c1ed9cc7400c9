use Rattle.erd_shown.proofs.Common.{[], ◌∷◌, ◌++◌, map, ap, ◌∙◌, boolean, string, on_ok_weaker, text_of_class, value_tokens}
use Rattle.erd_shown.specs.KeyData.{array_of, shown_key, shown_key_or_null, shown_text_or_null, shown_order}
use Rattle.erd_shown.proofs.Written.{name_tokens}
use Rattle.erd_shown.proofs.names.write_name.Goals as goal

pub returns : goal.returns
returns c =
    let n = c.args.name.now in
    on_ok_weaker c.write_after_keys.result
    (λ last.
    name_tokens c.args.out.now c.begin_array.new.self c.string.new.self c.write_keys.new.out c.write_after_keys.new.out (text_of_class n.class)
    (array_of (map shown_key n.keys))
    (boolean n.write_in ∷ shown_order n.order ∷ shown_text_or_null n.label ∷ shown_key_or_null n.identifier ∷ []) c.in_ok-begin_array.ensures
    (c.in_ok-string.ensures ∙ ap (λ s. c.begin_array.new.self ++ value_tokens (string s)) (c.type_text.ensures ∙ ap text_of_class c.class.ensures))
    c.in_ok-write_keys.ensures last)
    c.write_after_keys.ensures
