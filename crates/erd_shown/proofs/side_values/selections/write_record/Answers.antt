use Rattle.erd_shown.proofs.Common.{◌++◌, codes, ap, ◌∙◌, string, object, view, on_ok_weaker, text_of_class, value_tokens}
use Rattle.erd_shown.specs.ContentData.{members_in}
use Rattle.erd_shown.specs.Shown.{shown_members}
use Rattle.erd_shown.specs.SideValues.{told_plain}
use Rattle.erd_shown.proofs.Written.{two_members}
use Rattle.erd_shown.proofs.side_values.selections.write_record.Goals as goal

pub returns : goal.returns
returns c =
    let members =
    object (shown_members (told_plain c.args.report.now.prefer (view c.args.report.now.tree) c.args.class) (members_in (view c.args.selection.now))) in
    on_ok_weaker c.end_object.result
    (λ last whole.
    two_members c.args.out.now c.begin_object.new.self c.key.new.self c.string.new.self c.key-2.new.self c.write_told_object.new.out c.end_object.new.self
    (codes "class") (codes "members")
    (string (text_of_class c.args.class)) members c.in_ok-begin_object.ensures c.in_ok-key.ensures
    (c.in_ok-string.ensures ∙ ap (λ s. c.key.new.self ++ value_tokens (string s)) c.type_text.ensures)
    c.in_ok-key-2.ensures (c.in_ok-write_told_object.ensures whole) last)
    c.end_object.ensures
