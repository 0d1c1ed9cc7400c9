use Rattle.erd_shown.proofs.Common.{sym, ap, ◌∙◌, option_and_then, option_map, IfOk-weaker, compact_text, view}
use Rattle.erd_text.proofs.WholeValues.{whole_get}
use Rattle.erd_shown.specs.SideValues.{told_plain}
use Rattle.erd_shown.proofs.side_values.selections.member_text.Goals as goal

pub returns-in-Some : goal.returns-in-Some
returns-in-Some c =
    let d = view c.args.selection.now in
    let told = told_plain c.args.report.now.prefer (view c.args.report.now.tree) c.args.class c.args.name.now in
    IfOk-weaker c.value_text.result _ _
    (λ text is whole. is (whole_get c.args.name.now d (view c.in-Some.member.now) whole (sym c.in-Some.ensures))
    ∙ ap (λ v. option_map compact_text (option_and_then told v)) c.in-Some.ensures) c.value_text.ensures

pub returns-in-None : goal.returns-in-None
returns-in-None c whole =
    let told = told_plain c.args.report.now.prefer (view c.args.report.now.tree) c.args.class c.args.name.now in
    ap (λ v. option_map compact_text (option_and_then told v)) c.in-None.ensures
