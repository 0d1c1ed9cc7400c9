use Rattle.erd_shown.proofs.Common.{◌≡◌, ◌∷◌, ◌++◌, sym, ap, ◌∙◌, subst, option_map_or, view, member, members_view, Entry, members_tokens, entries_of, family}
use Rattle.erd_shown.proofs.Common.{kind, kind_of_member}
use Rattle.erd_text.proofs.WholeValues.{whole_first, whole_rest}
use Rattle.erd_shown.specs.Shown.{shown_member, shown_members}
use Rattle.erd_shown.specs.code.Selections.{AreNamedFrom, HoldNamed}
use Rattle.erd_shown.proofs.Written.{told_one}
use Rattle.erd_shown.proofs.objects.write_members.Goals as goal

pub loop-name-preserved : goal.loop-name-preserved
loop-name-preserved c held whole =
    let π = c.args.report.now.prefer in
    let t = view c.args.report.now.tree in
    let o = c.args.object.now in
    let entry : Entry = (c.in-Some.name.now, c.in-Some.member.now) in
    let before = c.loop-name.invariant held whole in
    let left = c.loop-name.name-iterator in
    let rest = c.next.new.self in
    let name = c.as_str-name.result.now in
    let d = view c.in-Some.member.now in
    let f = shown_member π t o.class in
    let ms = shown_members f (members_view rest) in
    let here : HoldNamed π t o.first_selection o.class (members_view (entry ∷ rest)) =
    subst (λ es. HoldNamed π t o.first_selection o.class (members_view es)) c.in-Some.ensures.steps before.0 in (
      here.1,
      whole_rest left rest entry c.in-Some.ensures.steps before.1,
      told_one name (f name d) ms c.loop-name.out c.write_member.new.out _
          (c.in_ok-write_member.ensures
          (subst (λ n. kind_of_member o.class n ≡ kind.Keyed family.Selection → AreNamedFrom π t o.first_selection (entries_of d))
          (sym c.as_str-name.ensures.value) here.0)
          (whole_first left rest entry c.in-Some.ensures.steps before.1))
          (ap (λ n. c.loop-name.out ++ members_tokens (option_map_or (λ v. member n v ms) (f n d) ms)) c.as_str-name.ensures.value
          ∙ (ap (λ es. c.loop-name.out ++ members_tokens (shown_members f (members_view es))) (sym c.in-Some.ensures.steps)
          ∙ before.2)),
    )
