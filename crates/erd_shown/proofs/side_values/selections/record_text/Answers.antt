use Rattle.erd_shown.proofs.Common.{◌++◌, ap, ◌∙◌, IfOk-weaker, value_tokens, view}
use Rattle.erd_shown.specs.Shown.{record_in_class}
use Rattle.erd_shown.specs.SideValues.{told_plain}
use Rattle.erd_shown.proofs.side_values.selections.record_text.Goals as goal

pub returns : goal.returns
returns c =
    let told = record_in_class (told_plain c.args.report.now.prefer (view c.args.report.now.tree) c.args.class) c.args.class (view c.args.selection.now) in
    IfOk-weaker c.text_of.result _ _ (λ text is whole. is told (c.in_ok-write_record.ensures whole ∙ ap (λ ts. ts ++ value_tokens told) c.new-out.ensures))
    c.text_of.ensures
