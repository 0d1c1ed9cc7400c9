use Rattle.erd_text.proofs.Common.{◌≡◌, codes, ap, ◌∙◌, sym, object, view, members_view, has_float}
use Rattle.std.proofs.lemmas.Result.{on_ok_weaker}
use Rattle.serde_json.proofs.Views.{view-Object}
use Rattle.erd_text.proofs.LabelTokens.{object_written}
use Rattle.erd_text.proofs.WholeValues.{whole_list_at}
use Rattle.erd_text.proofs.label.write_label.Goals as goal

pub returns-in_ok-begin_object-in-Object : goal.returns-in_ok-begin_object-in-Object
returns-in_ok-begin_object-in-Object c =
    let label = view c.args.label.now in
    let members = members_view c.in-Object.members.entries in
    let seen : label ≡ object members = ap view c.in-Object.is ∙ view-Object c.in-Object.members in
    on_ok_weaker c.write_members.result
    (λ written whole.
    object_written label members _ c.args.out.now c.begin_object.new.self c.write_members.new.out seen c.entries_at.ensures
    c.in_ok-begin_object-in-Object.ensures
    (written (ap has_float (sym seen) ∙ whole) (whole_list_at (codes "Text") label c.entries_at.result.now whole c.entries_at.ensures)))
    c.write_members.ensures
