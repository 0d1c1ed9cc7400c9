use Rattle.erd_shown.proofs.Common.{◌++◌, sym, ap, ◌∙◌, on_ok_weaker, view, is_in_envelope, kind_of_member}
use Rattle.erd_shown.specs.Shown.{shown_in}
use Rattle.erd_shown.specs.code.Writing.{member_told}
use Rattle.erd_shown.proofs.SelectionPairs.{kind_there, other_kind}
use Rattle.erd_shown.proofs.objects.write_member.Goals as goal

pub returns-then-holds_selections : goal.returns-then-holds_selections
returns-then-holds_selections c =
    let π = c.args.report.now.prefer in
    let t = view c.args.report.now.tree in
    let d = view c.args.member.now in
    let name = c.args.name.now in
    let class = c.args.object.now.class in
    let kinds = kind_there (kind_of_member class name) (sym c.holds_selections.ensures ∙ c.if-holds_selections.true) in
    on_ok_weaker c.write_selections_member.result
    (λ written named whole. written (named kinds) whole ∙ ap (λ o. c.args.out.now ++ member_told name o)
    (sym (ap (λ k. shown_in π t (is_in_envelope class name) k d) kinds)))
    c.write_selections_member.ensures

pub returns-else-holds_selections : goal.returns-else-holds_selections
returns-else-holds_selections c =
    let π = c.args.report.now.prefer in
    let t = view c.args.report.now.tree in
    let d = view c.args.member.now in
    let name = c.args.name.now in
    let class = c.args.object.now.class in
    on_ok_weaker c.write_plain_member.result
    (λ written named whole.
    written whole
    ∙ ap (λ o. c.args.out.now ++ member_told name o)
    (sym (other_kind π t (is_in_envelope class name) (kind_of_member class name) d (sym c.holds_selections.ensures ∙ c.if-holds_selections.false))))
    c.write_plain_member.ensures
