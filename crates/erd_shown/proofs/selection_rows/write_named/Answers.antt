use Rattle.erd_shown.proofs.Common.{◌++◌, codes, string, map, slice_get, sym, ap, ◌∙◌, on_ok_weaker, option_copied, slice_get-map, value_tokens}
use Rattle.erd_shown.proofs.Written.{two_members}
use Rattle.erd_shown.specs.KeyData.{shown_name}
use Rattle.erd_shown.specs.code.LentNames.{lent}
use Rattle.erd_shown.proofs.selection_rows.write_named.Goals as goal

pub returns : goal.returns
returns c =
    let names = c.args.names.now in
    let i = c.args.position in
    on_ok_weaker c.end_object.result
    (λ last.
    two_members c.args.out.now c.begin_object.new.self c.key.new.self c.string.new.self c.key-2.new.self c.write_name_or_null.new.out c.end_object.new.self
    (codes "how") (codes "name") (string c.args.how.now)
    (shown_name (slice_get (map lent names) i)) c.in_ok-begin_object.ensures c.in_ok-key.ensures c.in_ok-string.ensures c.in_ok-key-2.ensures
    (c.in_ok-write_name_or_null.ensures ∙ ap (λ o. c.key-2.new.self ++ value_tokens (shown_name o))
    (ap option_copied c.name_in.ensures ∙ sym (slice_get-map lent names i))) last)
    c.end_object.ensures
