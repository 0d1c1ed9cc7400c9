use Rattle.erd_normal.proofs.Common.{◌≡◌, ◌++◌, sym, ap, ◌∙◌, on_ok_weaker, view-Object, object, view, members_view, has_float, put_all, put_in, due_list}
use Rattle.erd_normal.proofs.Common.{value_tokens}
use Rattle.erd_tables.specs.declared.class.Class.TheVariants.{InternationalizedText}
use Rattle.erd_normal.proofs.texts.DueTokens.{copied}
use Rattle.erd_normal.proofs.objects.copied_members.write_with.Goals as goal

pub returns-in-Object : goal.returns-in-Object
returns-in-Object c =
    let members = members_view c.in-Object.members.entries in
    let seen : view c.args.value.now ≡ object members = ap view c.in-Object.is ∙ view-Object c.in-Object.members in
    on_ok_weaker c.write_members.result
    (λ written due whole.
    written due (ap has_float (sym seen) ∙ whole) ∙ ap (λ d. c.args.out.now ++ value_tokens d)
    (ap (λ ms. object (put_all (due_list c.args.due.now) ms)) (copied InternationalizedText members) ∙ ap (put_in (due_list c.args.due.now)) (sym seen)))
    c.write_members.ensures
