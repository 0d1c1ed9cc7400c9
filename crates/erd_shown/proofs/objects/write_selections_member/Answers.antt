use Rattle.erd_shown.proofs.Common.{[], ◌∷◌, ◌++◌, cond, None, Some, sym, ap, ◌∙◌, subst, append_assoc, on_ok_weaker, view, entries_of, value_tokens}
use Rattle.json.specs.Token.{key}
use Rattle.erd_text.proofs.WholeValues.{whole_list}
use Rattle.erd_shown.proofs.EmptyArrays.{unless_by_test}
use Rattle.erd_shown.specs.Shown.{shown_selections}
use Rattle.erd_shown.specs.code.Selections.{AreNamedFrom}
use Rattle.erd_shown.specs.code.Writing.{member_told}
use Rattle.erd_shown.proofs.objects.write_selections_member.Goals as goal

pub returns-in_ok-key : goal.returns-in_ok-key
returns-in_ok-key c =
    let π = c.args.report.now.prefer in
    let t = view c.args.report.now.tree in
    let d = view c.args.member.now in
    let vs = c.entries_of.result.now in
    let was = c.args.out.now in
    let name = c.args.name.now in
    let all = shown_selections π t (entries_of d) in
    on_ok_weaker c.write_selections.result
    (λ written named whole.
    written (subst (AreNamedFrom π t c.args.start) (sym c.entries_of.ensures) named) (whole_list d vs whole c.entries_of.ensures)
    ∙ (ap (λ ds. c.key.new.self ++ value_tokens (shown_selections π t ds)) c.entries_of.ensures
    ∙ (ap (λ ts. ts ++ value_tokens all) c.in_ok-key.ensures
    ∙ (append_assoc was (key name ∷ []) (value_tokens all)
    ∙ ap (λ o. was ++ member_told name o)
    (ap (λ b. cond b None (Some all)) (sym (sym c.is_empty_array.ensures ∙ c.if-is_empty_array.false)) ∙ sym (unless_by_test all d))))))
    c.write_selections.ensures
