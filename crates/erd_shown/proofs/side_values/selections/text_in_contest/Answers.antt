use Rattle.erd_shown.proofs.Common.{◌≡◌, Some, None, Option, refl, sym, ap, ◌∙◌, option_and_then, option_copied, option_map, slice_get, IfOk-weaker}
use Rattle.erd_shown.proofs.Common.{compact_text, Data, Preference, NameParts, Placed, contests, view}
use Rattle.erd_shown.specs.SideValues.{selection_with_name, told_at_name, told_of_selection}
use Rattle.erd_shown.proofs.side_values.selections.text_in_contest.Goals as goal

along : (f : Data → Option Data) (g : Placed → Option Data) (o : Option Placed)
    → option_and_then f (option_and_then g o) ≡ option_and_then (λ x. option_and_then f (g x)) o
along f g None = refl
along f g (Some x) = refl

pub returns-in-Some : goal.returns-in-Some
returns-in-Some c =
    let π = c.args.report.now.prefer in
    let t = view c.args.report.now.tree in
    let told = told_of_selection π t (option_copied c.args.member) in
    let named = λ (o : Placed). selection_with_name π t c.args.name.now o.value in
    IfOk-weaker c.selection_text.result _ _
    (λ text is. is c.in-Some.ensures.whole
    ∙ ap (option_map compact_text) (ap (option_and_then told) c.in-Some.ensures.found ∙ along told named (slice_get (contests t) c.args.contest)))
    c.selection_text.ensures

pub returns-in-None : goal.returns-in-None
returns-in-None c =
    let π = c.args.report.now.prefer in
    let t = view c.args.report.now.tree in
    let told = told_of_selection π t (option_copied c.args.member) in
    let named = λ (o : Placed). selection_with_name π t c.args.name.now o.value in
    ap (option_map compact_text) (ap (option_and_then told) c.in-None.ensures.found ∙ along told named (slice_get (contests t) c.args.contest))
