use Rattle.erd_shown.proofs.Common.{◌++◌, ap, ◌∙◌, option_copied, IfOk-weaker, value_tokens, view}
use Rattle.erd_shown.specs.SideValues.{told_record}
use Rattle.erd_shown.proofs.side_values.record_text.Goals as goal

pub returns : goal.returns
returns c =
    let o = c.args.object.now in
    let told = told_record c.args.report.now.prefer (view c.args.report.now.tree) (option_copied o.holder) (view o.value.now) o.class in
    IfOk-weaker c.text_of.result _ _ (λ text is whole. is told (c.in_ok-write_record.ensures whole ∙ ap (λ ts. ts ++ value_tokens told) c.new-out.ensures))
    c.text_of.ensures
