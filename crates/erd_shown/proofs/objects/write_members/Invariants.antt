use Rattle.erd_shown.proofs.Common.{◌≡◌, ◌++◌, false, view, members_view, members_have_float, members_tokens}
use Rattle.erd_shown.specs.Shown.{shown_member, shown_members}
use Rattle.erd_shown.specs.code.Selections.{HoldNamed}
use Rattle.erd_shown.proofs.objects.write_members.Given as goal

abbrev pub invariant-loop-name : goal.invariant-loop-name
invariant-loop-name l =
    HoldNamed l.report.prefer (view l.report.tree) l.object.first_selection l.object.class (members_view l.members.entries)
    → members_have_float (members_view l.members.entries) ≡ false
    → HoldNamed l.report.prefer (view l.report.tree) l.object.first_selection l.object.class (members_view l.name-iterator)
    × (members_have_float (members_view l.name-iterator) ≡ false)
    × (l.out ++ members_tokens (shown_members (shown_member l.report.prefer (view l.report.tree) l.object.class) (members_view l.name-iterator))
    ≡ l.initial.out ++ members_tokens (shown_members (shown_member l.report.prefer (view l.report.tree) l.object.class) (members_view l.members.entries)))
